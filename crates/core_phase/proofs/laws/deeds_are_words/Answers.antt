-- Answers of the proof of laws/deeds_are_words.
use Rattle.core_phase.proofs.Wording.{frame_is, send_is, try_is}
use Rattle.core_phase.proofs.laws.deeds_are_words.Goals as goal

pub returns-clause-frame : goal.returns-clause-frame
returns-clause-frame g c = frame_is

pub returns-clause-send : goal.returns-clause-send
returns-clause-send g c = send_is

pub returns-clause-asked : goal.returns-clause-asked
returns-clause-asked g c = try_is
