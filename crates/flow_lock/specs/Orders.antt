-- Orders of what was done.
use Rattle.std.specs.Prelude.{◌≡◌, ℕ, ◌+◌, ◌≤◌, nat_lt, Bool, true, false, ◌==◌, cond, ◌&&◌, ◌⊎◌, List, [], ◌∷◌}
use Rattle.std.specs.Prelude.{length}
use mathlib.Core.Option as O
use lib.ListN.{get_elem?}
use Rattle.tas_model.specs.declared.entry.FlowId.{FlowId}
use Rattle.flow_lock.specs.Words.{flag, word_at}
use Rattle.flow_lock.specs.Histories.{longer, no_history}
use Rattle.flow_lock.specs.declared.word.Word.{Word}
use Rattle.flow_lock.specs.declared.view.View.{View}
use Rattle.flow_lock.specs.declared.view.Held.{Held}
use Rattle.flow_lock.specs.declared.view.History.{History}
use Rattle.flow_lock.specs.declared.view.Deed.{Deed}
use Rattle.flow_lock.specs.declared.view.Turn.{Turn}

abbrev pub total : {A : Type 0} → (A → ℕ) → List A → ℕ
total f [] = 0
total f (x ∷ xs) = f x + total f xs

abbrev pub same_flow : FlowId → FlowId → Bool
same_flow f g = (f.slot == g.slot) && (f.generation == g.generation)

-- 1 where the flow has this slot
abbrev pub at_slot : ℕ → FlowId → ℕ
at_slot i f = cond (f.slot == i) 1 0

abbrev pub once_below : ℕ → ℕ → ℕ
once_below p n = cond (nat_lt p n) 1 0

-- An order of deeds, each with the name of the turn that it was done in.
abbrev pub Order : Type 0
Order = List (ℕ × Deed)

-- what was done in one turn, in order
abbrev pub of : ℕ → Order → List Deed
of p [] = []
of p (x ∷ xs) = cond (x.0 == p) (x.1 ∷ of p xs) (of p xs)

-- the history of a flow among those known, the newest first
abbrev pub known_of : FlowId → List Held → History
known_of f [] = no_history
known_of f (h ∷ hs) = cond (same_flow h.flow f) h.history (known_of f hs)

-- the histories after one deed, and after all
abbrev pub put : List Held → Deed → List Held
put known d = record { flow = d.flow; history = longer d.before (d.entry ∷ []) } ∷ known

abbrev pub played : List Held → Order → List Held
played known [] = known
played known (x ∷ xs) = played (put known x.1) xs

-- a deed is done on the history that is there, or is the first of its flow
abbrev pub IsNext : History → History → Type 0
IsNext before now = (before ≡ now) ⊎ ((before.entries ≡ []) × (now.entries ≡ []))

-- each deed was done on the history that those before it left
abbrev pub IsRun : List Held → Order → Type 0
IsRun known [] = Unit {0}
IsRun known (x ∷ xs) = IsNext x.1.before (known_of x.1.flow known) × IsRun (put known x.1) xs

-- how many turns of this name the view has, and how many pins on a slot were won and given up in its turns
abbrev pub named : ℕ → View → ℕ
named p v = total (λ (t : Turn). cond (t.name == p) 1 0) v.turns

abbrev pub won_on : ℕ → View → ℕ
won_on i v = total (λ (t : Turn). total (at_slot i) t.pinned) v.turns

abbrev pub lost_on : ℕ → View → ℕ
lost_on i v = total (λ (t : Turn). total (at_slot i) t.unpinned) v.turns

abbrev pub pins_at : List Word → ℕ → ℕ
pins_at ws i = (word_at ws i).pins

-- The histories of all flows are those that one order of deeds leaves, in which each turn's deeds stand in their order,
-- and the words of all slots have the pins that the turns leave.
pub record Ordered (H : FlowId → History) (ws : List Word) (views : List View) : Type 0 where
  -- at the last barrier, and what was done since
  pub base : List Held
  pub words : List Word
  pub order : Order
  pub made : ℕ
  pub run : IsRun base order
  pub now : (f : FlowId) → H f ≡ known_of f (played base order)
  pub pins : (i : ℕ) → pins_at ws i + total (lost_on i) views ≡ pins_at words i + total (won_on i) views
  pub same : made ≡ 0 → words ≡ ws
  pub wide : length words ≡ length ws
  -- each view knows all that was done in its turns, and no turn is in two views
  pub own : (j : ℕ) (v : View) → get_elem? views j ≡ O.some v
      → (k : ℕ) (t : Turn) → get_elem? v.turns k ≡ O.some t → of t.name order ≡ t.deeds
  pub names : (p : ℕ) → total (named p) views ≡ once_below p made
  pub unborn : (p : ℕ) → made ≤ p → of p order ≡ []
  -- one view has the baton, and knows what was at the last barrier
  pub one_baton : total (λ v. flag v.baton) views ≡ 1
  pub knows : (j : ℕ) (v : View) → get_elem? views j ≡ O.some v → v.baton ≡ true
      → (v.base ≡ base) × (v.made ≡ made) × (v.words ≡ words)
  -- without a turn and the baton nothing is held
  pub idle : (j : ℕ) (v : View) → get_elem? views j ≡ O.some v → v.baton ≡ false → v.turns ≡ [] → v.held ≡ []
