-- What holds of the table between any two steps.
use Rattle.std.specs.Prelude.{◌≡◌, ℕ, ◌<◌, ◌≤◌, nat_lt, true, false, ◌==◌, cond, List, [], map, length, Option, Some}
use Rattle.std.specs.Prelude.{None}
use mathlib.Core.Option as O
use lib.ListN.{get_elem?}
use Rattle.atomic_table.specs.Table.{State}
use Rattle.tas_model.specs.declared.entry.FlowId.{FlowId}
use Rattle.flow_lock.specs.Words.{flag, code, mark_of, Small}
use Rattle.flow_lock.specs.Histories.{Begins}
use Rattle.flow_lock.specs.Orders.{total, same_flow, at_slot, once_below, Ordered}
use Rattle.flow_lock.specs.declared.word.Word.{Word}
use Rattle.flow_lock.specs.declared.view.View.{View}
use Rattle.flow_lock.specs.declared.view.Held.{Held}
use Rattle.flow_lock.specs.declared.view.History.{History}
use Rattle.flow_lock.specs.declared.view.Span.{Span}

abbrev pub flow_at : ℕ → ℕ → FlowId
flow_at i g = record { slot = i; generation = g }

-- how many pins of the view are on the slot, how many records of the slot it holds, and how many empty values of it
abbrev pub pins_on : ℕ → View → ℕ
pins_on i v = total (at_slot i) v.pins

abbrev pub holds_on : ℕ → View → ℕ
holds_on i v = total (λ (h : Held). at_slot i h.flow) v.held

abbrev pub outs_on : ℕ → View → ℕ
outs_on i v = total (λ x. cond (x == i) 1 0) v.out

-- the flow's slot is live, with its generation
abbrev pub Bears : List Word → FlowId → Type 0
Bears ws f = (w : Word) × (get_elem? ws f.slot ≡ O.some w) × (w.generation ≡ f.generation) × (w.live ≡ true)

-- 1 where the span has the place p of the flow
abbrev pub in_span : FlowId → ℕ → Span → ℕ
in_span f p s = cond (same_flow s.flow f) (cond (nat_lt p s.upto) (cond (nat_lt p s.from) 0 1) 0) 0

-- the view has this pin
abbrev pub HasPin : View → FlowId → Type 0
HasPin v f = (k : ℕ) × (get_elem? v.pins k ≡ O.some f)

-- how a view and the words fit
pub record Fits (ws : List Word) (v : View) : Type 0 where
  pub pins : (k : ℕ) (f : FlowId) → get_elem? v.pins k ≡ O.some f → Bears ws f
  pub once : (i : ℕ) → pins_on i v ≤ 1
  pub paid : (i : ℕ) → pins_on i v ≤ v.parts
  pub held : (i : ℕ) → holds_on i v ≤ pins_on i v
  pub bears : (k : ℕ) (h : Held) → get_elem? v.held k ≡ O.some h → Bears ws h.flow
  pub marks : v.slow ≡ true → (i : ℕ) (w : Word) → get_elem? ws i ≡ O.some w → get_elem? v.marks i ≡ O.some (mark_of w)
  pub quick : v.slow ≡ false → (i : ℕ) → outs_on i v ≡ 0
  pub spent : v.parts ≡ 0 → v.mine ≡ []

-- what a view has seen and done of the histories
pub record Knows (H : FlowId → History) (v : View) : Type 0 where
  pub held : (k : ℕ) (h : Held) → get_elem? v.held k ≡ O.some h → h.history ≡ H h.flow
  pub seen : (k : ℕ) (h : Held) → get_elem? v.seen k ≡ O.some h → Begins h.history (H h.flow)

module _ {R : Type 0} (flow : R → FlowId) (history : R → History) where
  -- the record of a live slot that is at home
  pub record Home (H : FlowId → History) (homes : List (O.Option (Option R))) (i : ℕ) (w : Word) : Type 0 where
    pub item : R
    pub there : get_elem? homes i ≡ O.some (O.some (Some item))
    pub named : flow item ≡ flow_at i w.generation
    pub listed : history item ≡ H (flow item)

  pub record Lawful (s : State (Option R) View) : Type 0 where
    -- the words, and the history of each flow
    pub ws : List Word
    pub H : FlowId → History
    pub words : s.words ≡ map code ws
    pub wide : length s.homes ≡ length ws
    pub small : (i : ℕ) (w : Word) → get_elem? ws i ≡ O.some w → Small w
    -- the pins of a word are the views that have one, and it is busy exactly where one view holds the record
    pub pinned : (i : ℕ) (w : Word) → get_elem? ws i ≡ O.some w → total (pins_on i) s.views ≡ w.pins
    pub busy : (i : ℕ) (w : Word) → get_elem? ws i ≡ O.some w → total (holds_on i) s.views ≡ flag w.busy
    -- a slot that isn't live has no pins and no record, isn't busy and isn't doomed
    pub dead : (i : ℕ) (w : Word) → get_elem? ws i ≡ O.some w → w.live ≡ false
        → (w.pins ≡ 0) × (w.busy ≡ false) × (w.doomed ≡ false)
    pub empty : (i : ℕ) (w : Word) → get_elem? ws i ≡ O.some w → w.live ≡ false → total (outs_on i) s.views ≡ 0
        → get_elem? s.homes i ≡ O.some (O.some None)
    pub home : (i : ℕ) (w : Word) → get_elem? ws i ≡ O.some w → w.live ≡ true → w.busy ≡ false → Home H s.homes i w
    pub fits : (j : ℕ) (v : View) → get_elem? s.views j ≡ O.some v → Fits ws v
    pub knows : (j : ℕ) (v : View) → get_elem? s.views j ≡ O.some v → Knows H v
    -- each place of a history is one view's
    pub mine : (f : FlowId) (p : ℕ)
        → total (λ v. total (in_span f p) v.mine) s.views ≡ once_below p (length (H f).entries)
    pub parts : total (λ v. v.parts) s.views ≡ 4097
    pub one_slow : total (λ v. flag v.slow) s.views ≡ 1
    -- a flow that was not opened has no entries
    pub fresh : (i : ℕ) (w : Word) (g : ℕ) → get_elem? ws i ≡ O.some w → w.generation < g
        → (H (flow_at i g)).entries ≡ []
    pub ordered : Ordered H ws s.views
