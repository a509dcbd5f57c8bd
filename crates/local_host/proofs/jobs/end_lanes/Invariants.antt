use Rattle.std.proofs.Common.{◌≡◌, map}
use Rattle.local_host.specs.Handing.{trials_in}
use Rattle.local_host.specs.Trying.{attempt_of, put_trials}
use Rattle.local_host.proofs.jobs.end_lanes.Given as goal

-- those of the lanes so far are back
abbrev pub invariant-loop-lane : goal.invariant-loop-lane
invariant-loop-lane l =
    (l.flows.items ≡ put_trials (trials_in l.yielded) l.fn.flows.items)
    × (l.attempts.items ≡ map attempt_of (trials_in l.yielded))
