use Rattle.local_host.proofs.CoreRecording.{came_more}
use Rattle.local_host.proofs.arrival.arrivals_of.Goals as goal

pub loop-item-preserved : goal.loop-item-preserved
loop-item-preserved c =
    came_more c.loop-item.arrivals.items c.push_where.new.arrivals.items c.arrival_of.result c.args.batch.now
    c.loop-item.item-index _ c.loop-item-test.true c.arrival_of.ensures c.in_ok-push_where.ensures
    c.loop-item.invariant
