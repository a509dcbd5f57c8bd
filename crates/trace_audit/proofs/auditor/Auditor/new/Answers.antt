use Rattle.std.proofs.Common.{refl}
use Rattle.trace_audit.proofs.Rightness.{none_right}
use Rattle.trace_audit.proofs.auditor.Auditor.new.Goals as goal

pub returns-clause-read : goal.returns-clause-read
returns-clause-read c = λ hosts. record {
  place = refl;
  counts = c.no_counts.ensures.counted;
  judged = (none_right hosts, c.new.ensures.watches hosts);
}
