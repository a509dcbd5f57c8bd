use Rattle.std.proofs.Common.{◌≡◌, ◌++◌, ◌≤◌, All, false, length, subst, rules}
use Rattle.std.proofs.lemmas.List.{take_all}
use Rattle.local_host.specs.declared.lanes.Lane.{Lane}
use Rattle.local_host.specs.Handing.{put_jobs, jobs_in, left_in}
use Rattle.local_host.proofs.HandingOut.{put_more, trials_kept}
use Rattle.local_host.proofs.jobs.put_lanes.Goals as goal

pub loop-k-preserved : goal.loop-k-preserved
loop-k-preserved c =
    let more = put_more c.args.lanes.now c.loop-k.lanes c.loop-k.k c.index-lanes-k.result c.put_lane.new.lane
    c.loop-k.flows.items c.put_lane.new.flows.items (put_jobs (jobs_in c.args.lanes.now) c.args.flows.now.items)
    c.loop-k.left.items
    c.put_lane.new.left.items (c.args.left.now.items ++ left_in c.args.lanes.now) c.loop-k-test.true
    c.loop-k.invariant.0 c.in_ok-put_lane.ensures.flows c.in_ok-put_lane.ensures.left c.in_ok-put_lane.ensures.done
    c.loop-k.invariant.1 c.loop-k.invariant.2 c.loop-k.invariant.3 in (
      more.0,
      more.1,
      more.2,
      more.3,
      trials_kept c.args.lanes.now c.loop-k.lanes c.loop-k.k c.index-lanes-k.result c.put_lane.new.lane
          c.in_ok-put_lane.ensures.trials c.loop-k.invariant.4,
    )

pub returns-clause-done : goal.returns-clause-done
returns-clause-done c =
    let past : length c.args.lanes.now ≤ c.loop-k.k = search rules in
    subst (All (λ (lane : Lane). lane.failed ≡ false)) (take_all c.loop-k.k c.args.lanes.now past)
    c.loop-k.invariant.3
