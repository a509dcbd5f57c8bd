-- Which calls the engine of received segments answers.
use Rattle.std.specs.Prelude.{⊤}
use Rattle.flow_state.specs.declared.call.CallIn.{CallIn}
use Rattle.flow_state.specs.declared.call.CallIn.TheVariants as ins

-- a received segment
abbrev pub IsRx : CallIn → Type 0
IsRx (ins.Rx frame seg) = ⊤
IsRx _ = ⊥
