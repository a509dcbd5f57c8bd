use Rattle.std.proofs.Common.{sym, subst}
use Rattle.tas_model.specs.LegalHistory.{step}
use Rattle.flow_state.specs.declared.call.CallIn.{CallIn}
use Rattle.flow_state.specs.Made.{Makes}
use Rattle.slow_timeout.proofs.engine.TimerWorkEngine.run.Goals as goal

pub returns-in-Tick-clause-made : goal.returns-in-Tick-clause-made
unfolding step
returns-in-Tick-clause-made c e v s =
    subst (λ (call : CallIn). Makes e c.args.tick call c.tick.new.parts c.args._out.now c.tick.result)
    (sym c.in-Tick.is) (record { step = c.tick.ensures.made c.args._out.now e v s })
