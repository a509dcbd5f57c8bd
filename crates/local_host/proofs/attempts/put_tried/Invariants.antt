use Rattle.std.proofs.Common.{◌≡◌, ◌++◌, map}
use Rattle.local_host.specs.Trying.{attempt_of, put_trials}
use Rattle.local_host.proofs.attempts.put_tried.Given as goal

-- those so far are back
abbrev pub invariant-loop-trial : goal.invariant-loop-trial
invariant-loop-trial l =
    (l.flows.items ≡ put_trials l.yielded l.fn.flows.items)
    × (l.attempts.items ≡ l.fn.attempts.items ++ map attempt_of l.yielded)
