use Rattle.tas_runs.proofs.WorkedRecords.{damaged_is, loose_is, two_strays_is, other_traffic_is, two_faults_is}
use Rattle.tas_runs.proofs.WorkedRecords.{later_number_is, counted_openings_is, data_and_end_is, early_data_is}
use Rattle.tas_runs.proofs.WorkedRecords.{refused_connect_is, reset_while_opening_is, abort_while_opening_is}
use Rattle.tas_runs.proofs.WorkedRecords.{used_again_is, late_segment_is}
use Rattle.tas_runs.proofs.worked.worked_records.Goals as goal

pub returns-clause-damaged : goal.returns-clause-damaged
returns-clause-damaged c = damaged_is

pub returns-clause-loose : goal.returns-clause-loose
returns-clause-loose c = loose_is

pub returns-clause-two_strays : goal.returns-clause-two_strays
returns-clause-two_strays c = two_strays_is

pub returns-clause-other_traffic : goal.returns-clause-other_traffic
returns-clause-other_traffic c = other_traffic_is

pub returns-clause-two_faults : goal.returns-clause-two_faults
returns-clause-two_faults c = two_faults_is

pub returns-clause-later_number : goal.returns-clause-later_number
returns-clause-later_number c = later_number_is

pub returns-clause-counted_openings : goal.returns-clause-counted_openings
returns-clause-counted_openings c = counted_openings_is

pub returns-clause-data_and_end : goal.returns-clause-data_and_end
returns-clause-data_and_end c = data_and_end_is

pub returns-clause-early_data : goal.returns-clause-early_data
returns-clause-early_data c = early_data_is

pub returns-clause-refused_connect : goal.returns-clause-refused_connect
returns-clause-refused_connect c = refused_connect_is

pub returns-clause-reset_while_opening : goal.returns-clause-reset_while_opening
returns-clause-reset_while_opening c = reset_while_opening_is

pub returns-clause-abort_while_opening : goal.returns-clause-abort_while_opening
returns-clause-abort_while_opening c = abort_while_opening_is

pub returns-clause-used_again : goal.returns-clause-used_again
returns-clause-used_again c = used_again_is

pub returns-clause-late_segment : goal.returns-clause-late_segment
returns-clause-late_segment c = late_segment_is
