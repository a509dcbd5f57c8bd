-- Which slot a flow gets when it is opened.
use Rattle.std.specs.Prelude.{◌≡◌, ℕ, ◌<◌, ◌==◌, Bool, true, false, List, [], ◌∷◌, ◌++◌, length, map, take, drop}
use Rattle.std.specs.Prelude.{Option, Some, None, if◌then◌else◌, ⊤}
use Rattle.std.specs.List.{list_any}
use Rattle.host_rounds.specs.Hosts.{Live, Host}

-- the slot of a flow, until its record is filed
abbrev pub slot_of : Live → Option ℕ
slot_of l = if l.filed then None else Some l.flow.id.slot

-- those of a host's flows, in the order of their opening
abbrev pub slots_of : List Live → List (Option ℕ)
slots_of ls = map slot_of ls

abbrev pub is_slot : (slot : ℕ) → Option ℕ → Bool
is_slot slot None = false
is_slot slot (Some other) = other == slot

abbrev pub is_taken : (slot : ℕ) → List (Option ℕ) → Bool
is_taken slot taken = list_any (is_slot slot) taken

-- The slot is the lowest free one of so many, where these are taken.
pub record IsLowestFree (slots slot : ℕ) (taken : List (Option ℕ)) : Type 0 where
  pub inside : slot < slots
  pub free : is_taken slot taken ≡ false
  pub lower : (other : ℕ) → other < slot → is_taken other taken ≡ true

-- Each of the slots of `opened` is the lowest free one when its flow is opened: where those of `taken` are taken, and
-- those in front of it.
abbrev pub GotLowest : (slots : ℕ) → (taken opened : List (Option ℕ)) → Type 0
GotLowest slots taken [] = ⊤
GotLowest slots taken (None ∷ opened) = ⊥
GotLowest slots taken (Some slot ∷ opened) =
    IsLowestFree slots slot taken × GotLowest slots (taken ++ Some slot ∷ []) opened

-- Each flow behind the first so many got the lowest free slot.
abbrev pub OpenedLowest : (slots count : ℕ) → List Live → Type 0
OpenedLowest slots n ls = GotLowest slots (take n (slots_of ls)) (drop n (slots_of ls))

-- A host before a tick and after it. A record is filed only at the start of a tick, so that after the tick each slot is
-- taken that was taken when a flow was opened.
abbrev pub OpenedInLowest : (before after : Host) → Type 0
OpenedInLowest before after = OpenedLowest before.params.slots (length before.flows) after.flows
