use Rattle.std.proofs.Common.{◌≡◌, ◌++◌, drop, take, All, false}
use Rattle.local_host.specs.declared.lanes.Lane.{Lane}
use Rattle.local_host.specs.Handing.{put_jobs, jobs_in, left_in, trials_in}
use Rattle.local_host.proofs.jobs.put_lanes.Given as goal

-- the lanes that are left lead to the same end
abbrev pub invariant-loop-k : goal.invariant-loop-k
invariant-loop-k l =
    (drop l.k l.lanes ≡ drop l.k l.fn.lanes)
    × (put_jobs (jobs_in (drop l.k l.fn.lanes)) l.flows.items
    ≡ put_jobs (jobs_in l.fn.lanes) l.fn.flows.items)
    × (l.left.items ++ left_in (drop l.k l.fn.lanes) ≡ l.fn.left.items ++ left_in l.fn.lanes)
    × All (λ (lane : Lane). lane.failed ≡ false) (take l.k l.fn.lanes)
    × (trials_in l.lanes ≡ trials_in l.fn.lanes)
