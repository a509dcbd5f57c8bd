use Rattle.std.proofs.Common.{◌≡◌, drop}
use Rattle.local_host.specs.Handing.{put_jobs}
use Rattle.local_host.proofs.jobs.put_all.Given as goal

-- the jobs that are left lead to the same end
abbrev pub invariant-loop-k : goal.invariant-loop-k
invariant-loop-k l =
    (drop l.k l.jobs.items ≡ drop l.k l.fn.jobs.items)
    × (put_jobs (drop l.k l.fn.jobs.items) l.flows.items ≡ put_jobs l.fn.jobs.items l.fn.flows.items)
