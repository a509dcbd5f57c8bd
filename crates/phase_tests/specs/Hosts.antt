-- A host of one core and one application.
use Rattle.std.specs.Prelude.{◌≡◌, ◌<◌, Some, slice_get, ⊤, List}
use Rattle.std.specs.Arc.{arc_value}
use Rattle.context_queue.specs.Notes.{Place, Receiver}
use Rattle.flow_lock.specs.Passes.{Seen}
use Rattle.flow_lock.specs.Steps.{IsAlone}
use Rattle.libtas_sockets.specs.Apps.{IsSocket}
use Rattle.core_worker.specs.Workers.{Common}
use Rattle.host_rounds.specs.Lists.{Each}
use Rattle.core_phase.specs.Lanes as phase
use Rattle.core_phase.specs.declared.attempt.Attempt.{Attempt}
use Rattle.core_phase.specs.declared.attempt.Attempt.TheVariants as attempts
use Rattle.core_phase.specs.declared.lane.CoreLane.{CoreLane}
use Rattle.core_phase.specs.declared.lane.AppLane.{AppLane}
use Rattle.core_phase.specs.declared.lane.Lane.{Lane}
use Rattle.core_phase.specs.declared.lane.Lane.TheVariants as lanes
use Rattle.phase_tests.specs.Resting.{IsRested, IsSettled, IsOff}
use Rattle.phase_tests.specs.declared.hosts.Start.{Start}
use Rattle.phase_tests.specs.declared.hosts.Host.{Host}

-- the application has connected, and nobody has a turn
pub record IsStarted (x : Start) : Type 0 where
  pub slow : IsRested x.table x.pin x.slow
  pub slot : x.pin.slot < x.table.slots
  pub core : IsOff x.table x.core
  pub app : IsSettled x.table x.socket x.app

-- who has this receiver takes kicks from core 0's queue
abbrev pub IsQueueOf : Common → Receiver → Type 0
IsQueueOf c r = (place : Place) × (slice_get c.kicks 0 ≡ Some place) × (place.line ≡ r.line)

-- ----- lanes
-- the call doesn't give the socket up
abbrev pub KeepsSocket : Attempt → Type 0
KeepsSocket attempts.Close = ⊥
KeepsSocket attempts.Abort = ⊥
KeepsSocket attempt = ⊤

-- an application has its socket, by which it may try a call
abbrev pub HasSocket : Lane → Type 0
HasSocket (lanes.Core l) = ⊤
HasSocket (lanes.App l) = IsSocket l.app l.socket × (l.host < 67108863)

-- and tries one that leaves it the socket
abbrev pub IsTalking : Lane → Type 0
IsTalking (lanes.Core l) = ⊤
IsTalking (lanes.App l) = HasSocket (lanes.App l) × KeepsSocket l.attempt × phase.MayPlay (lanes.App l)

-- a lane of this host is idle
abbrev pub IsCoreOf : Common → CoreLane → Type 0
IsCoreOf c l = phase.IsIdle c (lanes.Core l)

-- and tries what it may
abbrev pub IsAppOf : Common → AppLane → Type 0
IsAppOf c l = phase.IsIdle c (lanes.App l) × IsTalking (lanes.App l)

-- a lane of this host is idle, and tries what it may
abbrev pub IsReadyLane : Common → Lane → Type 0
IsReadyLane c l = phase.IsIdle c l × IsTalking l

-- or it has its socket, whatever it tried
abbrev pub IsBetween : Common → Lane → Type 0
IsBetween c l = phase.IsIdle c l × HasSocket l

-- all lanes are so
pub record AreReady (c : Common) (ls : List Lane) : Type 0 where
  pub each : Each (IsReadyLane c) ls

pub record AreBetween (c : Common) (ls : List Lane) : Type 0 where
  pub each : Each (IsBetween c) ls

-- ----- the host
-- its lanes may play
pub record MayPlay (h : Host) : Type 0 where
  pub table : h.slow.table ≡ (arc_value h.shared).table
  pub alone : IsAlone h.slow.view
  pub lanes : AreReady (arc_value h.shared) h.lanes.items

-- and the slow path holds nothing
pub record IsReadyHost (h : Host) : Type 0 where
  pub rested : IsRested (arc_value h.shared).table h.pin h.slow
  pub slot : h.pin.slot < (arc_value h.shared).table.slots
  pub lanes : AreReady (arc_value h.shared) h.lanes.items

-- the slow path has what it had, but for what it knows of histories and words
pub record IsPlayedBy (s n : Seen) : Type 0 where
  pub table : n.table ≡ s.table
  pub view : n.view ≡ record (s.view) { base = n.view.base; words = n.view.words }

-- its lanes played: they are idle again, and the application has its socket still
pub record HasPlayed (h n : Host) : Type 0 where
  pub shared : n.shared ≡ h.shared
  pub pin : n.pin ≡ h.pin
  pub slow : IsPlayedBy h.slow n.slow
  pub lanes : AreBetween (arc_value n.shared) n.lanes.items

-- nothing is tried, and the slow path holds nothing
pub record IsPlayedHost (h : Host) : Type 0 where
  pub rested : IsRested (arc_value h.shared).table h.pin h.slow
  pub slot : h.pin.slot < (arc_value h.shared).table.slots
  pub lanes : AreBetween (arc_value h.shared) h.lanes.items
