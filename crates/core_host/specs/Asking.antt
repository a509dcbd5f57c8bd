-- What an application asks of its host alone, and what the host makes of it.
use Rattle.std.specs.Prelude.{◌≡◌, ℕ, ◌+◌, ◌==◌, ◌⊎◌, position, slice_get, Option, Some, None, IsSome}
use Rattle.std.specs.List.{AllZip}
use Rattle.host_rounds.specs.Hosts.{Live, Host, Application, is_ready}
use Rattle.asked_host.specs.Asking.{accepted_by}
use Rattle.core_phase.specs.declared.lane.Lane.{Lane}
use Rattle.core_phase.specs.declared.lane.Lane.TheVariants as lanes
use Rattle.core_host.specs.Sound.{IsStaffSound}
use Rattle.core_host.specs.Views.{Staffed, seen_by}

-- ----- who asks
abbrev pub lane_at : (cores : ℕ) → Option ℕ → Option ℕ
lane_at n None = None
lane_at n (Some k) = Some (n + k)

-- the place of the application's lane, where it runs
abbrev pub lane_in : (app : ℕ) → Staffed → Option ℕ
lane_in app h = lane_at h.cores (position (λ (n : ℕ). n == app) h.names)

abbrev pub HasApp : (app : ℕ) → Staffed → Type 0
HasApp app h = IsSome (position (λ (n : ℕ). n == app) h.names)

-- it runs, and has the socket of the flow at this place
abbrev pub HasSocket : (app place : ℕ) → Staffed → Type 0
HasSocket app n h =
    HasApp app h × ((l : Live) × (slice_get (seen_by h).flows n ≡ Some l) × (l.holder ≡ Application app))

-- ----- one step
-- the lane is as it was, or it is this application's, which alone is another
abbrev pub IsSameBut : (app : ℕ) → Lane → Lane → Type 0
IsSameBut n (lanes.Core v) w = w ≡ lanes.Core v
IsSameBut n (lanes.App v) (lanes.App w) =
    (w ≡ v) ⊎ ((v.app.number ≡ n) × (w.app.number ≡ n) × (w ≡ record v { app = w.app }))
IsSameBut n (lanes.App v) (lanes.Core w) = ⊥

-- This application asked, which made this of the host, and of its lanes changed the application's alone. The host is
-- sound still, and in the same tick.
pub record IsAsked (app : ℕ) (f : Host → Host) (before after : Staffed) : Type 0 where
  pub made : seen_by after ≡ f (seen_by before)
  pub sound : IsStaffSound after
  pub lanes : AllZip (IsSameBut app) before.lanes after.lanes
  pub same : after ≡ record before { host = after.host; lanes = after.lanes }
  pub time : after.host.slow.time ≡ before.host.slow.time
  pub filed : after.host.slow.filed ≡ before.host.slow.filed

-- An accept at a port, by its answer: of the flows that may be accepted there the one that was opened first.
abbrev pub IsAccepting : (app tick port : ℕ) → (before after : Staffed) → Option ℕ → Type 0
IsAccepting app t port before after None =
    (position (is_ready port) (seen_by before).flows ≡ None) × (after ≡ before)
IsAccepting app t port before after (Some n) =
    (position (is_ready port) (seen_by before).flows ≡ Some n) × IsAsked app (accepted_by app n t) before after
