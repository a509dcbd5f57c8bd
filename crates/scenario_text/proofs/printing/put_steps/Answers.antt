use Rattle.scenario_text.specs.Canonical.{step_text}
use Rattle.scenario_text.proofs.Appended.{one_more}
use Rattle.scenario_text.proofs.printing.put_steps.Goals as goal

pub loop-step-preserved : goal.loop-step-preserved
loop-step-preserved c =
    one_more step_text c.args.steps.now c.loop-step.step-index c.step-item.result c.args.out.now.items
    c.loop-step.out.items c.put_step.new.out.items c.loop-step-test.true c.step-item.is c.loop-step.invariant
    c.in_ok-put_step.ensures
