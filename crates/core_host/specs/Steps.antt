-- What each step of a tick makes of a host.
use Rattle.std.specs.Prelude.{◌≡◌, ℕ}
use Rattle.host_rounds.specs.Hosts.{Host, logged}
use Rattle.host_rounds.specs.declared.log.LogEvent.{LogEvent}
use Rattle.host_rounds.specs.SerialOrder.{slow_phase}
use Rattle.slow_worker.specs.declared.clock.Clock.TheVariants.{Passed}
use Rattle.asked_host.specs.Asking.{listened_by}
use Rattle.core_host.specs.Ending.{AreFiled}
use Rattle.core_host.specs.Sound.{IsStaffSound}
use Rattle.core_host.specs.Views.{Staffed, seen_by}

-- The step made this of the host, which is sound still, and let its workers be. No time passed, and no record was
-- filed.
pub record IsStep (f : Host → Host) (before after : Staffed) : Type 0 where
  pub made : seen_by after ≡ f (seen_by before)
  pub sound : IsStaffSound after
  pub same : after ≡ record before { host = after.host }
  pub time : after.host.slow.time ≡ before.host.slow.time
  pub filed : after.host.slow.filed ≡ before.host.slow.filed

-- The time of the tick passed. Who filed records right before does so still.
pub record IsTimePassed (t : ℕ) (before after : Staffed) : Type 0 where
  pub made : seen_by after ≡ slow_phase t (seen_by before)
  pub sound : IsStaffSound after
  pub same : after ≡ record before { host = after.host }
  pub time : after.host.slow.time ≡ Passed t
  pub filed : AreFiled before.host → AreFiled after.host

-- a line was written
abbrev pub IsNoted : (tick : ℕ) → LogEvent → (before after : Staffed) → Type 0
IsNoted t event = IsStep (λ (host : Host). logged host t event)

-- the application listens on a port more
abbrev pub IsListening : (app port : ℕ) → (before after : Staffed) → Type 0
IsListening app port = IsStep (listened_by app port)
