-- Answers of the proof of sending/kicks_alone_keep_it.
use Rattle.slow_rounds.proofs.Kicked.{all_kicked}
use Rattle.slow_rounds.proofs.sending.kicks_alone_keep_it.Goals as goal

pub returns : goal.returns
returns c h common w sound kicked = all_kicked c.deeds_leave_the_column.ensures.send h sound common w kicked
