use Rattle.std.proofs.Common.{◌≡◌, [], List, map, sym, subst}
use Rattle.local_host.specs.declared.attempts.Trial.{Trial}
use Rattle.local_host.specs.Handing.{trials_in}
use Rattle.local_host.specs.Trying.{attempt_of, put_trials}
use Rattle.local_host.proofs.LaneLists.{joined_push}
use Rattle.local_host.proofs.Trying.{more_put}
use Rattle.local_host.proofs.jobs.end_lanes.Goals as goal

pub loop-lane-preserved : goal.loop-lane-preserved
loop-lane-preserved c =
    subst
    (λ (xs : List Trial).
    (c.put_tried.new.flows.items ≡ put_trials xs c.args.flows.now.items)
    × (c.put_tried.new.attempts.items ≡ map attempt_of xs))
    (sym (joined_push _ c.loop-lane.yielded c.in-Some.lane))
    (more_put (trials_in c.loop-lane.yielded) c.in-Some.lane.trials.items c.args.flows.now.items
    c.loop-lane.flows.items c.put_tried.new.flows.items [] c.loop-lane.attempts.items c.put_tried.new.attempts.items
    c.loop-lane.invariant.0 c.in_ok-put_tried.ensures.flows c.loop-lane.invariant.1 c.in_ok-put_tried.ensures.attempts)
