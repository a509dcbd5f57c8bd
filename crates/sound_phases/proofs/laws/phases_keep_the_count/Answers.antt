-- Answers of the proof of laws/phases_keep_the_count.
use Rattle.sound_phases.proofs.Counted.{phase_counted}
use Rattle.sound_phases.proofs.laws.phases_keep_the_count.Goals as goal

pub returns : goal.returns
returns c = phase_counted
