use Rattle.scenario_text.specs.Canonical.{move_text}
use Rattle.scenario_text.proofs.Appended.{one_more}
use Rattle.scenario_text.proofs.printing.put_moves.Goals as goal

pub loop-line-preserved : goal.loop-line-preserved
loop-line-preserved c =
    one_more move_text c.args.moves.now c.loop-line.line-index c.line-item.result c.args.out.now.items
    c.loop-line.out.items c.put_move.new.out.items c.loop-line-test.true c.line-item.is c.loop-line.invariant
    c.in_ok-put_move.ensures
