-- What is known of flows before and after something was done: each history was led on.
use Rattle.std.specs.Prelude.{◌≡◌, true, List, [], ◌⊎◌}
use Rattle.tas_model.specs.declared.entry.FlowId.{FlowId}
use Rattle.flow_lock.specs.Orders.{known_of}
use Rattle.flow_lock.specs.declared.view.Held.{Held}
use Rattle.flow_lock.specs.declared.view.History.{History}
use Rattle.flow_clock.specs.Histories.{is_over, is_running}

-- The history is a later one of the same flow: it has the same ends, what is closed stays closed, what is past its
-- opening stays so, and a flow that has no entries got none.
pub record LedOn (h k : History) : Type 0 where
  pub tuple : k.tuple ≡ h.tuple
  pub over : is_over h ≡ true → is_over k ≡ true
  pub running : is_running h ≡ true → (is_running k ≡ true) ⊎ (is_over k ≡ true)
  pub none : h.entries ≡ [] → k.entries ≡ []

-- so it is with each flow
abbrev pub Leads : (before after : List Held) → Type 0
Leads before after = (f : FlowId) → LedOn (known_of f before) (known_of f after)
