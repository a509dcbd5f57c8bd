use Rattle.std.proofs.Common.{sym, subst}
use Rattle.tas_model.specs.LegalHistory.{replay}
use Rattle.flow_state.specs.Calls.{call_of}
use Rattle.flow_state.specs.declared.call.CallIn.{CallIn}
use Rattle.flow_judge.specs.Making.{HasNoStep}
use Rattle.flow_judge.proofs.making.make.Goals as goal

pub returns-then-is_closed-clause-made : goal.returns-then-is_closed-clause-made
returns-then-is_closed-clause-made c =
    subst (λ (x : CallIn). HasNoStep (replay c.args.flow.now.params c.args.flow.now.entries) (call_of x))
    (sym c.in-Tick.is) (c.is_closed.ensures.closed c.if-is_closed.true)

pub returns-then-not-is_running-clause-made : goal.returns-then-not-is_running-clause-made
returns-then-not-is_running-clause-made c =
    subst (λ (x : CallIn). HasNoStep (replay c.args.flow.now.params c.args.flow.now.entries) (call_of x))
    (sym c.in-Control.is) (c.is_running.ensures.control c.if-not-is_running.true)

pub returns-then-not-is_running-2-clause-made : goal.returns-then-not-is_running-2-clause-made
returns-then-not-is_running-2-clause-made c =
    subst (λ (x : CallIn). HasNoStep (replay c.args.flow.now.params c.args.flow.now.entries) (call_of x))
    (sym c.in-Accept.is) (c.is_running-in-Accept.ensures.accept c.if-not-is_running-2.true)
