-- Answers of the proof of sending/emissions_alone_keep_it.
use Rattle.slow_rounds.proofs.Sent.{sent_sound}
use Rattle.slow_rounds.proofs.sending.emissions_alone_keep_it.Goals as goal

pub returns : goal.returns
returns c h tick ids w sound sent = sent_sound c.deeds_leave_the_column.ensures.send h tick sound ids w sent
