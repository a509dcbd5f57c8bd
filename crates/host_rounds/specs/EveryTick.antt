-- Facts of every tick of every host.
use Rattle.std.specs.Prelude.{ℕ}
use Rattle.host_rounds.specs.Lists.{Each}
use Rattle.host_rounds.specs.Histories.{HasHistory}
use Rattle.host_rounds.specs.Scripts.{Site, Scripts}
use Rattle.host_rounds.specs.Moves.{AreByMoves}
use Rattle.host_rounds.specs.Rounds.{Due, Round}

-- The fact holds of every right tick, whatever the scripts are and in whatever order it goes, where the histories
-- before it are the endpoint's.
abbrev pub InEveryTick : (S A : Type 0) → (Scripts S A → (tick : ℕ) → Due A → (before after : Site S) → Type 0) → Type 0
InEveryTick S A fact =
    (scripts : Scripts S A) (t : ℕ) (due : Due A) (before after : Site S) → AreByMoves scripts
    → Each HasHistory before.host.flows → Round scripts t due before after → fact scripts t due before after
