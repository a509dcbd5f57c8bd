-- What is sent alone at the end of a tick.
use Rattle.std.specs.Prelude.{◌≡◌, ℕ, false, List, [], ◌∷◌, None, Some}
use Rattle.tas_model.specs.declared.entry.Caller.TheVariants.{Core}
use Rattle.tas_model.specs.declared.entry.FlowId.{FlowId}
use Rattle.tas_model.specs.NextSegment.{Going, going}
use Rattle.flow_state.specs.declared.call.CallIn.TheVariants.{Emit}
use Rattle.flow_state.specs.Flow.{Flow}
use Rattle.flow_lock.specs.Orders.{known_of}
use Rattle.flow_lock.specs.declared.view.Held.{Held}
use Rattle.flow_lock.specs.declared.view.View.{View}
use Rattle.app_reaper.specs.OneCall.{history, history_with, IsOwn, IsUse}
use Rattle.flow_clock.specs.Histories.{endpoint_of, is_over}
use Rattle.host_books.specs.Books.{Book}
use Rattle.sound_hosts.specs.Hosts.{CoreHost}

-- The flow's own record was taken, of which a segment may go, and it was given back with that Emit of core 0.
pub record IsSent (tick : ℕ) (id : FlowId) (v w : View) : Type 0 where
  pub flow : Flow
  pub own : IsOwn id v flow
  pub next : Going
  pub may_go : going (endpoint_of (history flow)) ≡ Some next
  pub given : IsUse id flow (history_with flow (Core 0) tick Emit) v w

-- so it was with these flows, one after the other
abbrev pub AreSent : (tick : ℕ) → List FlowId → View → View → Type 0
AreSent tick [] v w = w ≡ v
AreSent tick (id ∷ ids) v w = (u : View) × IsSent tick id v u × AreSent tick ids u w

-- it is closed, or nothing may go
abbrev pub IsSilent : List Held → Book → Type 0
IsSilent known b = is_over (known_of b.id known) ≡ false → going (endpoint_of (known_of b.id known)) ≡ None

-- the host, where this is the view of its slow path
abbrev pub with_view : View → CoreHost → CoreHost
with_view w h = record h { slow = record (h.slow) { pass = record (h.slow.pass) { view = w } } }
