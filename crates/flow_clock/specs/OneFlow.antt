-- What a tick does with one flow.
use Rattle.std.specs.Prelude.{◌≡◌, ℕ, true, false, List, ◌++◌}
use Rattle.tas_model.specs.declared.entry.FlowId.{FlowId}
use Rattle.flow_state.specs.Flow.{Flow}
use Rattle.flow_lock.specs.declared.view.History.{History}
use Rattle.flow_lock.specs.declared.view.View.{View}
use Rattle.app_reaper.specs.OneCall.{history, IsOwn, IsUse}
use Rattle.core_worker.specs.Kicks.{kick_of, one_kick}
use Rattle.core_worker.specs.declared.kicks.Kick.{Kick}
use Rattle.slow_handshake.specs.Openings.{Openings}
use Rattle.flow_clock.specs.Histories.{is_over, is_control_due, timed_by}
use Rattle.flow_clock.specs.Ledgers.{without_closed}
use Rattle.flow_clock.specs.declared.timing.Timed.{Timed}
use Rattle.flow_clock.specs.declared.timing.Timed.TheVariants.{Closed, Ticked, Controlled}

-- ----- histories
-- The flow was closed, and nothing was entered; or its Tick was, and its Control where that was due.
abbrev pub HasPassed : (tick : ℕ) → (before after : History) → Timed → Type 0
HasPassed t h k (Closed tuple) = (is_over h ≡ true) × (tuple ≡ h.tuple) × (k ≡ h)
HasPassed t h k Ticked = (is_over h ≡ false) × (is_control_due t h ≡ false) × (k ≡ timed_by t h)
HasPassed t h k Controlled = (is_over h ≡ false) × (is_control_due t h ≡ true) × (k ≡ timed_by t h)

-- A flow that its tick left with something to send has a kick more, and a closed one none.
abbrev pub kicks_with : FlowId → (after : History) → Timed → List Kick → List Kick
kicks_with id k (Closed tuple) kicks = kicks
kicks_with id k timed kicks = kicks ++ one_kick (kick_of id k)

-- A flow that its tick closed waits for no Accept. One that was closed before is left to its sweep.
abbrev pub path_with : FlowId → (after : History) → Timed → Openings → Openings
path_with id k (Closed tuple) path = path
path_with id k timed path = without_closed (is_over k) id path

-- ----- views
-- The flow's own record was taken and given back, and this became of its history meanwhile, of the kicks and of the
-- openings.
abbrev pub IsTimed : (tick : ℕ) → FlowId → (before after : View) → (kicks kicks' : List Kick)
    → (path path' : Openings) → Timed → Type 0
IsTimed t id v w kicks kicks' path path' timed =
    (r : Flow) × (after : History) × IsOwn id v r × HasPassed t (history r) after timed × IsUse id r after v w
    × (kicks' ≡ kicks_with id after timed kicks) × (path' ≡ path_with id after timed path)
