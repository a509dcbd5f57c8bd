-- Answers of the proof of staffing/put_cores.
use Rattle.std.proofs.Common.{List, length, ap, arith}
use Rattle.std.specs.Arc.{arc_value}
use Rattle.core_worker.specs.Workers.{Worker}
use Rattle.core_host.proofs.Hiring.{put_more}
use Rattle.core_host.proofs.staffing.put_cores.Goals as goal

pub loop-worker-preserved : goal.loop-worker-preserved
loop-worker-preserved c = record {
  put = put_more (arc_value c.args.shared.now) c.args.workers.items c.loop-worker.worker-iterator.rest.items
      c.next.new.self.rest.items c.loop-worker.lanes.items c.push.new.self.items c.in-Some.worker
      c.in_ok-core_lane.field-0 c.loop-worker.invariant.put c.in-Some.ensures.steps.0 c.in_ok-core_lane.ensures
      c.in_ok-push.ensures.items;
  count =
      let items = ap (λ (l : List Worker). length l) c.in-Some.ensures.steps.0 in
      let len = c.in-Some.ensures.steps.1 in
      let count = c.loop-worker.invariant.count in omega (arith, items, len, count);
}
