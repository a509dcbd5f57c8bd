-- What the answers of the calls say.
use Rattle.std.specs.Prelude.{◌≡◌, ◌≢◌, ℕ, ◌+◌, min, Bool, true, false, not, ◌==◌, ◌&&◌, ◌⊎◌, List, [], ◌∷◌, Option}
use Rattle.std.specs.Prelude.{Some, None, position}
use mathlib.Core.Option as O
use lib.ListN.{get_elem?}
use Rattle.tas_model.specs.declared.entry.FlowId.{FlowId}
use Rattle.flow_lock.specs.Words.{word_at, sole_word}
use Rattle.flow_lock.specs.Histories.{Begins, IsLonger}
use Rattle.flow_lock.specs.Orders.{known_of}
use Rattle.flow_lock.specs.Claims.{flow_at}
use Rattle.flow_lock.specs.Steps.{IsAlone, mark_at, counted, pinned, taken, freed, restored}
use Rattle.flow_lock.specs.declared.word.Word.{Word}
use Rattle.flow_lock.specs.declared.view.View.{View}
use Rattle.flow_lock.specs.declared.view.Held.{Held}
use Rattle.flow_lock.specs.declared.view.History.{History}
use Rattle.flow_lock.specs.declared.view.Mark.{Mark}
use Rattle.flow_lock.specs.declared.pass.PinRefused.{PinRefused}
use Rattle.flow_lock.specs.declared.pass.PinRefused.TheVariants.{Stale, Moved}
use Rattle.flow_lock.specs.declared.closed.CloseRefused.{CloseRefused}
use Rattle.flow_lock.specs.declared.closed.CloseRefused.TheVariants.{OutOfMemory, StillOut}

-- ----- the slow path's list
abbrev pub is_free : Mark → Bool
is_free m = not m.live

-- a slot's next flow; a slot is opened fewer than 4,294,967,295 times
abbrev pub next_of : List Mark → Option ℕ → Option FlowId
next_of ms None = None
next_of ms (Some i) = Some (flow_at i (min ((mark_at ms i).generation + 1) 4294967295))

-- the lowest slot that has no flow, with its generation one more
abbrev pub next_in : List Mark → Option FlowId
next_in ms = next_of ms (position is_free ms)

abbrev pub is_open_in : List Mark → FlowId → Bool
is_open_in ms f = (mark_at ms f.slot).live && ((mark_at ms f.slot).generation == f.generation)

-- ----- words that were found
-- alone, the word that is found is the one that is known
abbrev pub IsKnown : View → ℕ → Word → Type 0
IsKnown v i x = IsAlone v → x ≡ word_at v.words i

-- the word isn't that of a flow that takes pins
abbrev pub IsStale : FlowId → Word → Type 0
IsStale id x = (x.live ≡ false) ⊎ (x.doomed ≡ true) ⊎ (x.generation ≢ id.generation)

-- two counted steps, of which both found a live word of this generation that isn't doomed, and the second pinned it
abbrev pub IsPinned : FlowId → View → View → Type 0
IsPinned id v w =
    (x : Word)
    × ((x.live ≡ true) × (x.doomed ≡ false) × (x.generation ≡ id.generation))
    × IsKnown v id.slot x
    × (w ≡ pinned id (counted id.slot x (counted id.slot x v)))

-- a stale word comes of one counted step; two different words of two, and never alone
abbrev pub IsRefused : FlowId → View → View → PinRefused → Type 0
IsRefused id v w (Stale x) = IsStale id x × IsKnown v id.slot x × (w ≡ counted id.slot x v)
IsRefused id v w (Moved x y) = (x ≢ y) × (¬ IsAlone v) × (w ≡ counted id.slot y (counted id.slot x v))

-- one counted step, which found a word that wasn't busy, and the record is held with this history
abbrev pub IsTaken : FlowId → History → View → View → Type 0
IsTaken id h v w = (x : Word) × (x.busy ≡ false) × IsKnown v id.slot x × (w ≡ taken id h (counted id.slot x v))

-- one counted step, which found a busy word
abbrev pub IsBusy : FlowId → View → View → Word → Type 0
IsBusy id v w x = (x.busy ≡ true) × (w ≡ counted id.slot x v)

-- the view holds the record of the flow, and this history is the one at the take with more behind it
abbrev pub Holds : View → FlowId → History → Type 0
Holds v id h = (x : Held) × (v.held ≡ x ∷ []) × (x.flow ≡ id) × IsLonger x.history h

-- the history begins with all that the view has seen of the flow
abbrev pub HasSeen : View → FlowId → History → Type 0
HasSeen v id h = (k : ℕ) (x : Held) → get_elem? v.seen k ≡ O.some x → x.flow ≡ id → Begins x.history h

-- alone, the history is the one that is known
abbrev pub IsKnownOf : View → FlowId → History → Type 0
IsKnownOf v id h = IsAlone v → h ≡ known_of id v.base

-- two counted steps found the slow path's pin alone, and the second freed the slot
abbrev pub IsFreed : FlowId → View → View → Type 0
IsFreed id v w =
    IsKnown v id.slot (sole_word id.generation)
    × (w ≡ restored
    (freed id (counted id.slot (sole_word id.generation) (counted id.slot (sole_word id.generation) v))))

-- One counted step, or two, found so many pins last, which isn't 1.
abbrev pub IsHeldBack : FlowId → View → View → ℕ → Type 0
IsHeldBack id v w n =
    (x : Word)
    × ((x.pins ≡ n) × (n ≢ 1))
    × IsKnown v id.slot x
    × ((w ≡ counted id.slot x v) ⊎ ((y : Word) × (w ≡ counted id.slot x (counted id.slot y v))))

-- passes are out that weren't joined, or memory is wanting
abbrev pub IsCloseRefused : View → CloseRefused → Type 0
IsCloseRefused v OutOfMemory = v.parts ≡ 4097
IsCloseRefused v (StillOut n) = (n ≢ 0) × (n + v.parts ≡ 4097)
