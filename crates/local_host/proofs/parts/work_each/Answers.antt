use Rattle.local_host.proofs.LaneWork.{mapped_more}
use Rattle.local_host.proofs.parts.work_each.Goals as goal

pub loop-k-preserved : goal.loop-k-preserved
loop-k-preserved g c =
    mapped_more (g.C.Chore.change c.args.chore.now) c.args.flows.now c.loop-k.flows c.loop-k.k c.index-flows-k.result
    c.work.new.flow c.loop-k-test.true c.in_ok-work.ensures c.loop-k.invariant
