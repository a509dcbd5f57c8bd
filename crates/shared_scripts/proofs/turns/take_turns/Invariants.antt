-- Measures or invariants of turns/take_turns.
use Rattle.shared_scripts.proofs.Places.{TurnsTo}
use Rattle.shared_scripts.proofs.turns.take_turns.Given as goal

-- the scripts before this one had their turns
abbrev pub invariant-loop-k : goal.invariant-loop-k
invariant-loop-k g l =
    TurnsTo l.s l.starts.params l.tick l.answers l.fn.host l.fn.scripts.items l.k l.host l.script-items
