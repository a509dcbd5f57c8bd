-- Answers of the proof of sending/rests_sent_alone_are_emit_phases.
use Rattle.slow_rounds.proofs.SentRest.{rest_sent}
use Rattle.slow_rounds.proofs.sending.rests_sent_alone_are_emit_phases.Goals as goal

pub returns : goal.returns
returns c h tick w sound sent = rest_sent c.deeds_leave_the_column.ensures.send tick h sound w sent
