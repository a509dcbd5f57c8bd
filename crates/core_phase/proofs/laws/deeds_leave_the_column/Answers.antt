-- Answers of the proof of laws/deeds_leave_the_column.
use Rattle.core_phase.proofs.Columns.{rx_column, send_column}
use Rattle.core_phase.proofs.laws.deeds_leave_the_column.Goals as goal

pub returns-clause-frame : goal.returns-clause-frame
returns-clause-frame c = rx_column

pub returns-clause-send : goal.returns-clause-send
returns-clause-send c = send_column
