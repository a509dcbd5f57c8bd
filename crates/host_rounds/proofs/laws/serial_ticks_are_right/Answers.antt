use Rattle.host_rounds.proofs.SerialRounds.{serial_round}
use Rattle.host_rounds.proofs.laws.serial_ticks_are_right.Goals as goal

pub returns : goal.returns
returns g c = serial_round
