use Rattle.scenario_laws.proofs.Sent.{ticks_send}
use Rattle.scenario_laws.proofs.count_laws.sends_take_the_next_bytes.Goals as goal

pub returns : goal.returns
returns c = ticks_send
