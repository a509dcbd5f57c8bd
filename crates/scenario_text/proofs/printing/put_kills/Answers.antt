use Rattle.scenario_text.specs.Canonical.{kill_text}
use Rattle.scenario_text.proofs.Appended.{one_more}
use Rattle.scenario_text.proofs.printing.put_kills.Goals as goal

pub loop-line-preserved : goal.loop-line-preserved
loop-line-preserved c =
    one_more kill_text c.args.kills.now c.loop-line.line-index c.line-item.result c.args.out.now.items
    c.loop-line.out.items c.put_kill.new.out.items c.loop-line-test.true c.line-item.is c.loop-line.invariant
    c.in_ok-put_kill.ensures
