use Rattle.std.proofs.Common.{length, arith}
use Rattle.pcap_frames.proofs.Following.{records_from_ends, records_from_refused, records_from_next, within_enough}
use Rattle.pcap_frames.proofs.laws.records_are_found_in_order.Goals as goal

pub returns-clause-ends : goal.returns-clause-ends
returns-clause-ends c = records_from_ends

pub returns-clause-refused : goal.returns-clause-refused
returns-clause-refused c = records_from_refused

pub returns-clause-goes_on : goal.returns-clause-goes_on
returns-clause-goes_on c = records_from_next

pub returns-clause-enough : goal.returns-clause-enough
returns-clause-enough c form most number b few = within_enough most (length b) form number b few (omega arith)
