use Rattle.std.proofs.Common.{sym, subst}
use Rattle.tas_model.specs.LegalHistory.{step}
use Rattle.flow_state.specs.declared.call.CallIn.{CallIn}
use Rattle.flow_state.specs.Made.{Makes}
use Rattle.flow_state.proofs.app.AppCallsEngine.run.Goals as goal

pub returns-in-Accept-clause-made : goal.returns-in-Accept-clause-made
unfolding step
returns-in-Accept-clause-made c e v s =
    subst (λ (call : CallIn). Makes e c.args._tick call c.args.parts.now c.args.out.now c.accept.result)
    (sym c.in-Accept.is) (record { step = c.accept.ensures.made c.args.out.now e s })
