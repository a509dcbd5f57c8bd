-- What cores and applications do side by side in a tick.
use Rattle.std.specs.Prelude.{◌≡◌, ℕ, suc, ◌+◌, true, List, [], ◌∷◌, ◌++◌, ◌≤◌, length}
use mathlib.Core.Option as O
use lib.ListN.{get_elem?}
use Rattle.flow_lock.specs.Orders.{Order, of, played, IsRun, pins_at, total, at_slot}
use Rattle.flow_lock.specs.Passes.{new_turn}
use Rattle.flow_lock.specs.Words.{flag, mark_of}
use Rattle.flow_lock.specs.Claims.{holds_on}
use Rattle.flow_lock.specs.declared.word.Word.{Word}
use Rattle.flow_lock.specs.declared.view.Turn.{Turn}
use Rattle.flow_lock.specs.declared.view.View.{View}
use Rattle.core_phase.specs.Lanes.{pass_of, with_turns_of, HasPlayed, Works, IsOf, pins_left}
use Rattle.core_phase.specs.declared.lane.Lane.{Lane}

-- the turns have these names, one after the other
abbrev pub AreLent : (name : ℕ) → List Lane → List Lane → Type 0
AreLent p [] ws = ws ≡ []
AreLent p (v ∷ vs) [] = ⊥
AreLent p (v ∷ vs) (w ∷ ws) = (w ≡ with_turns_of ((pass_of v).view.turns ++ new_turn p ∷ []) v) × AreLent (suc p) vs ws

-- all turns were given back
abbrev pub AreBack : List Lane → List Lane → Type 0
AreBack [] ws = ws ≡ []
AreBack (v ∷ vs) [] = ⊥
AreBack (v ∷ vs) (w ∷ ws) = (w ≡ with_turns_of [] v) × AreBack vs ws

abbrev pub turns_in : List Lane → List Turn
turns_in [] = []
turns_in (l ∷ ls) = (pass_of l).view.turns ++ turns_in ls

-- One lane's part: what it did in the turn with this name, and these are its deeds in the order of all.
pub record IsPart (order : Order) (p : ℕ) (v w : Lane) : Type 0 where
  pub after : Lane
  pub did : HasPlayed (with_turns_of (new_turn p ∷ []) v) after
  pub works : Works after
  pub back : w ≡ with_turns_of [] after
  pub deeds : IsOf v w (of p order)

abbrev pub AreParts : Order → (p : ℕ) → List Lane → List Lane → Type 0
AreParts order p [] ws = ws ≡ []
AreParts order p (v ∷ vs) [] = ⊥
AreParts order p (v ∷ vs) (w ∷ ws) = IsPart order p v w × AreParts order (suc p) vs ws

-- how many pins on the slot were given up for good
abbrev pub left_on : (slot : ℕ) → List Lane → List Lane → ℕ
left_on i [] ws = 0
left_on i (v ∷ vs) [] = 0
left_on i (v ∷ vs) (w ∷ ws) = total (at_slot i) (pins_left v w) + left_on i vs ws

-- There is one order of all that was done, and nobody else did anything. In it each lane's deeds stand in their order,
-- and they lead from the histories before to those after. There are as many words, with as many pins less as
-- sockets were given up and the marks that the slow path has, and they are busy where it holds the record.
pub record IsPhase (vs ws : List Lane) (v w : View) : Type 0 where
  pub order : Order
  pub parts : AreParts order 0 vs ws
  pub others : (p : ℕ) → length vs ≤ p → of p order ≡ []
  pub run : IsRun v.base order
  pub known : w ≡ record v { base = played v.base order; words = w.words }
  pub pins : (i : ℕ) → pins_at w.words i + left_on i vs ws ≡ pins_at v.words i
  pub busy : (i : ℕ) (x : Word) → get_elem? w.words i ≡ O.some x → flag x.busy ≡ holds_on i v
  pub marks : v.slow ≡ true → (i : ℕ) (x : Word) → get_elem? w.words i ≡ O.some x
      → get_elem? v.marks i ≡ O.some (mark_of x)
  pub wide : length w.words ≡ length v.words
