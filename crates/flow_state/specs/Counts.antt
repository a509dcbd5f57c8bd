-- How many entries each caller has made.
use Rattle.std.specs.Prelude.{◌≡◌, ℕ, List, [], ◌∷◌, if◌then◌else◌, Bool}
use Rattle.tas_model.specs.declared.entry.Caller.{Caller}
use Rattle.tas_model.specs.declared.entry.Caller.TheVariants.{Slow}
use Rattle.tas_model.specs.declared.entry.Entry.{Entry}
use Rattle.tas_model.specs.LegalHistory.{same_caller, next_number}
use Rattle.flow_state.specs.declared.counts.CallerCount.{CallerCount}

-- the count is this caller's
abbrev pub is_for : Caller → CallerCount → Bool
is_for caller c = same_caller c.caller caller

-- how many entries of the caller are counted; the first count that is its own says so
abbrev pub counted_for : Caller → List CallerCount → ℕ
counted_for caller [] = 0
counted_for caller (c ∷ cs) = if is_for caller c then c.made else counted_for caller cs

-- the counts are those of the entries
abbrev pub AreCounts : List CallerCount → List Entry → Type 0
AreCounts counts entries = (caller : Caller) → counted_for caller counts ≡ next_number caller entries

-- counts of callers, and for how many callers more there is room
pub record Counted : Type 0 where
  pub counts : List CallerCount
  pub spare : ℕ

-- the slow path's count, and those of others
abbrev pub with_slow : (slow : ℕ) → List CallerCount → List CallerCount
with_slow slow others = record { caller = Slow; made = slow } ∷ others
