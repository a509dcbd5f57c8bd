use Rattle.std.proofs.Common.{◌≡◌, ◌++◌, map, take, drop}
use Rattle.local_host.specs.Trying.{tried_trial}
use Rattle.local_host.proofs.attempts.make_all.Given as goal

-- the trials that are left stand as they were
abbrev pub invariant-loop-k : goal.invariant-loop-k
invariant-loop-k g l = l.trials ≡ map (tried_trial l.tick) (take l.k l.fn.trials) ++ drop l.k l.fn.trials
