-- Answers of the proof of staffing/put_apps.
use Rattle.std.proofs.Common.{List, length, ap, arith}
use Rattle.std.specs.Arc.{arc_value}
use Rattle.libtas_sockets.specs.Apps.{Application}
use Rattle.core_host.proofs.Hiring.{put_for_more}
use Rattle.core_host.proofs.staffing.put_apps.Goals as goal

pub loop-app-preserved : goal.loop-app-preserved
loop-app-preserved c = record {
  put = put_for_more (arc_value c.args.shared.now) c.args.apps.items c.loop-app.app-iterator.rest.items
      c.next.new.self.rest.items c.args.lanes.now.items c.loop-app.lanes.items c.push.new.self.items c.in-Some.app
      c.in_ok-app_lane.field-0 c.loop-app.invariant.put c.in-Some.ensures.steps.0 c.in_ok-app_lane.ensures
      c.in_ok-push.ensures.items;
  count =
      let items = ap (λ (l : List Application). length l) c.in-Some.ensures.steps.0 in
      let len = c.in-Some.ensures.steps.1 in
      let count = c.loop-app.invariant.count in omega (arith, items, len, count);
}
