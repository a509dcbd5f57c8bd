-- What is known of the records that come out of a closed table.
use Rattle.std.specs.Prelude.{◌≡◌, ℕ, ◌+◌, cond, List, [], ◌∷◌, length}
use mathlib.Core.Option as O
use lib.ListN.{get_elem?}
use Rattle.tas_model.specs.declared.entry.FlowId.{FlowId}
use Rattle.flow_lock.specs.Histories.{Begins}
use Rattle.flow_lock.specs.Orders.{total, once_below}
use Rattle.flow_lock.specs.Claims.{flow_at, in_span}
use Rattle.flow_lock.specs.declared.view.View.{View}
use Rattle.flow_lock.specs.declared.view.Held.{Held}
use Rattle.flow_lock.specs.declared.view.History.{History}
use Rattle.flow_lock.specs.declared.view.Mark.{Mark}

-- the flows of the slots from i on that have one, in the order of slots
abbrev pub flows_from : ℕ → List Mark → List FlowId
flows_from i [] = []
flows_from i (m ∷ ms) = cond m.live (flow_at i m.generation ∷ flows_from (i + 1) ms) (flows_from (i + 1) ms)

module _ {R : Type 0} (flow : R → FlowId) (history : R → History) where
  -- Each place of its history is once among those of the view, and the history begins with all that the view has seen.
  pub record IsLast (v : View) (r : R) : Type 0 where
    pub mine : (p : ℕ) → total (in_span (flow r) p) v.mine ≡ once_below p (length (history r).entries)
    pub seen : (k : ℕ) (h : Held) → get_elem? v.seen k ≡ O.some h → h.flow ≡ flow r → Begins h.history (history r)
