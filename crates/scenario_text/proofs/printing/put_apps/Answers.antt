use Rattle.scenario_text.specs.Canonical.{app_text}
use Rattle.scenario_text.proofs.Appended.{one_more}
use Rattle.scenario_text.proofs.printing.put_apps.Goals as goal

pub loop-app-preserved : goal.loop-app-preserved
loop-app-preserved c =
    one_more app_text c.args.apps.now c.loop-app.app-index c.app-item.result c.args.out.now.items
    c.loop-app.out.items c.put_app.new.out.items c.loop-app-test.true c.app-item.is c.loop-app.invariant
    c.in_ok-put_app.ensures
