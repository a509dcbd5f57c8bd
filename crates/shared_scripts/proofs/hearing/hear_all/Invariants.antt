-- Measures or invariants of hearing/hear_all.
use Rattle.shared_scripts.proofs.Places.{HeardTo}
use Rattle.shared_scripts.proofs.hearing.hear_all.Given as goal

-- the scripts before this one went on
abbrev pub invariant-loop-k : goal.invariant-loop-k
invariant-loop-k l = HeardTo l.k l.answers l.fn.scripts.items l.script-items
