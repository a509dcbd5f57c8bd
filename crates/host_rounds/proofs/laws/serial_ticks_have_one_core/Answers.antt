use Rattle.host_rounds.proofs.AllBelow.{serial_tick_low}
use Rattle.host_rounds.proofs.laws.serial_ticks_have_one_core.Goals as goal

pub returns : goal.returns
returns g c = serial_tick_low
