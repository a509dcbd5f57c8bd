use Rattle.std.proofs.Common.{◌≡◌, ◌++◌, map, take, drop}
use Rattle.local_host.specs.Lanes.{worked_job, left_by}
use Rattle.local_host.proofs.lanes.work_jobs.Given as goal

-- the jobs that are left stand as they were
abbrev pub invariant-loop-k : goal.invariant-loop-k
invariant-loop-k g l =
    (l.jobs ≡ map (worked_job l.tick) (take l.k l.fn.jobs) ++ drop l.k l.fn.jobs)
    × (l.left.items ++ left_by l.tick (drop l.k l.fn.jobs) ≡ l.fn.left.items ++ left_by l.tick l.fn.jobs)
