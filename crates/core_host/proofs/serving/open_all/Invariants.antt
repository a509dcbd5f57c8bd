-- Measures or invariants of serving/open_all.
use Rattle.std.proofs.Common.{◌≡◌, ◌++◌, drop, map}
use Rattle.sound_turns.specs.Serving.{syn_book}
use Rattle.core_host.proofs.serving.open_all.Given as goal

-- the flows that are left lead to the same end
abbrev pub invariant-loop-at : goal.invariant-loop-at
invariant-loop-at l =
    l.books ++ map syn_book (drop l.at l.pins.list) ≡ l.fn.books ++ map syn_book (drop l.from l.pins.list)
