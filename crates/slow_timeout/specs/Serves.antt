-- The calls that time brings.
use Rattle.std.specs.Prelude.{⊤}
use Rattle.flow_state.specs.declared.call.CallIn.{CallIn}
use Rattle.flow_state.specs.declared.call.CallIn.TheVariants as ins

abbrev pub IsTimerCall : CallIn → Type 0
IsTimerCall ins.Tick = ⊤
IsTimerCall ins.Control = ⊤
IsTimerCall _ = ⊥
