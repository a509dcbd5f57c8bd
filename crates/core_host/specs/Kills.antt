-- What a kill leaves of a host.
use Rattle.std.specs.Prelude.{◌≡◌, ℕ, ◌+◌, ◌==◌, ◌&&◌, not, cond, Bool, List, [], map, position, remove, Some}
use Rattle.std.specs.List.{list_any}
use Rattle.atomic_table.specs.Seated.{TableId}
use Rattle.tas_model.specs.declared.entry.Call.TheVariants as calls
use Rattle.tas_model.specs.declared.entry.Caller.TheVariants.{Slow}
use Rattle.flow_lock.specs.Passes.{Seen, without_baton}
use Rattle.app_reaper.specs.Holding.{IsEndedAlone, IsReapedWithBaton}
use Rattle.app_reaper.specs.declared.ended.Ended.{Ended}
use Rattle.host_rounds.specs.Hosts.{Live, is_waiting_by, is_over, with_call}
use Rattle.slow_handshake.specs.declared.openings.Listener as code
use Rattle.slow_worker.specs.Workers.{Worker}
use Rattle.sound_hosts.specs.Hosts.{CoreHost as SoundHost, host_of}
use Rattle.sound_hosts.specs.Moving.{with_slow}
use Rattle.sound_hosts.specs.Sound.{IsHostSound}
use Rattle.libtas_sockets.specs.Apps as libtas
use Rattle.libtas_sockets.specs.Ending.{IsEnding, newest}
use Rattle.asked_host.specs.Kills.{without_app}
use Rattle.core_host.specs.Alone.{with_all_of}
use Rattle.core_host.specs.Sound.{IsStaffSound}
use Rattle.core_host.specs.Views.{Staffed, seen_by}

-- ----- of the workers
-- the flow waits at a listener of the application
abbrev pub waits_for_it : (app : ℕ) → List code.Listener → Live → Bool
waits_for_it app listeners l =
    (is_waiting_by l.holder && not (is_over l))
    && list_any (λ (x : code.Listener). x.port == l.flow.tuple.lport && x.app == app) listeners

-- and then it has an Abort by the slow path
abbrev pub aborted_if : (app tick : ℕ) → List code.Listener → Live → Live
aborted_if app t listeners l = cond (waits_for_it app listeners l) (with_call l Slow t calls.Abort []) l

-- The flows that waited at the application's listeners were aborted, and none waits there any more. Only the pass of
-- the worker changed, and its list of flows that wait.
pub record HasAbortedWaiting (app tick : ℕ) (h : SoundHost) (w : Worker) : Type 0 where
  pub sound : IsHostSound (with_slow w h)
  pub rest : w ≡ record (h.slow) { pass = w.pass; path = record (h.slow.path) { flows = w.path.flows } }
  pub opened : w.pass.view.opened ≡ h.slow.pass.view.opened
  pub made : (host_of (with_slow w h)).flows
      ≡ map (aborted_if app tick h.slow.path.listeners) (host_of h).flows

-- The application ended with the baton, with a record in hand where it was to, and was reaped.
abbrev pub IsEndedAndReaped : TableId → (tick : ℕ) → (holding : Bool) → libtas.Application → (s n : Seen) → Type 0
IsEndedAndReaped table t holding a s n =
    (ended : Ended)
    × IsEndedAlone table ended
    × IsEnding holding (newest a.sockets) (with_all_of s a) ended
    × (ended.pins.list ≡ a.sockets)
    × IsReapedWithBaton t ended (record s { view = without_baton s.view }) n

-- ----- the step
-- The application is gone, which made this of the host; all other lanes are as they were. The host is sound still, and
-- in the same tick.
pub record IsKilled (app tick : ℕ) (before after : Staffed) : Type 0 where
  pub made : seen_by after ≡ without_app app tick (seen_by before)
  pub sound : IsStaffSound after
  -- its place among the applications
  pub place : ℕ
  pub runs : position (λ (n : ℕ). n == app) before.names ≡ Some place
  pub names : after.names ≡ remove before.names place
  pub lanes : after.lanes ≡ remove before.lanes (before.cores + place)
  pub same : after ≡ record before { host = after.host; lanes = after.lanes; names = after.names }
  pub time : after.host.slow.time ≡ before.host.slow.time
  pub filed : after.host.slow.filed ≡ before.host.slow.filed
