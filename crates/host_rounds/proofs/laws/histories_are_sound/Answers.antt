use Rattle.host_rounds.proofs.Sound.{sound}
use Rattle.host_rounds.proofs.laws.histories_are_sound.Goals as goal

pub returns : goal.returns
returns c = sound
