-- What contracts see of a worker, and of what the workers of a host share.
use Rattle.std.specs.Prelude.{◌≡◌, ℕ, ◌+◌, ◌*◌, Bool, true, List, [], slice_get, Some}
use Rattle.atomic_table.specs.Seated.{TableId}
use Rattle.tas_model.specs.declared.entry.FrameId.{FrameId}
use Rattle.host_rounds.specs.declared.log.LogLine.{LogLine}
use Rattle.flow_index.specs.declared.change.Change.{Change}
use Rattle.flow_lock.specs.Callers.{IsGuest}
use Rattle.flow_lock.specs.Passes.{Seen}
use Rattle.steering.specs.Tables as tables
use Rattle.context_queue.specs.Notes.{Place, Receiver}
use Rattle.core_worker.specs.declared.frames.Frame.{Frame}
use Rattle.core_worker.specs.declared.frames.PassedFrame.{PassedFrame}
use Rattle.core_worker.specs.declared.shared.AppQueue.{AppQueue}
use Rattle.core_worker.specs.declared.senders.AppSender.{AppSender}
use Rattle.core_worker.specs.Telling.{AreOwnSenders}

-- What the workers of a host share: the table of its flows, the steering, each core's queue of kicks, and the queues of
-- applications.
pub record Common : Type 0 where
  pub table : TableId
  pub steering : tables.Place
  pub kicks : List Place
  pub queues : List AppQueue

-- The worker of a core: the gate's point before each of its frames, its pass and whether it looks at checksums, the
-- published changes of the index that it has seen and the lines that it wrote, the frames that were handed to it and
-- those that it passed on, the kicks taken, and what its senders posted to applications.
pub record Worker : Type 0 where
  pub core : ℕ
  pub point : ℕ
  pub pass : Seen
  pub check_sums : Bool
  pub known : List Change
  pub log : List LogLine
  pub frames : List Frame
  pub deferred : List PassedFrame
  pub exceptions : List PassedFrame
  pub kicks : Receiver
  pub senders : List AppSender

-- what handling a frame changes of a worker
pub record Sight : Type 0 where
  pub pass : Seen
  pub known : List Change
  pub log : List LogLine
  pub senders : List AppSender

abbrev pub sight : Seen → (known : List Change) → (log : List LogLine) → List AppSender → Sight
sight pass known log senders = record { pass = pass; known = known; log = log; senders = senders }

abbrev pub sight_of : Worker → Sight
sight_of w = sight w.pass w.known w.log w.senders

abbrev pub with_sight : Sight → Worker → Worker
with_sight s w = record w { pass = s.pass; known = s.known; log = s.log; senders = s.senders }

-- with other lines, or other lists
abbrev pub with_log : List LogLine → Worker → Worker
with_log lines w = record w { log = lines }

abbrev pub with_frames : List Frame → Worker → Worker
with_frames fs w = record w { frames = fs }

abbrev pub with_deferred : List PassedFrame → Worker → Worker
with_deferred fs w = record w { deferred = fs }

abbrev pub with_exceptions : List PassedFrame → Worker → Worker
with_exceptions fs w = record w { exceptions = fs }

-- with another pass, or other kicks taken
abbrev pub with_pass : Seen → Worker → Worker
with_pass pass w = record w { pass = pass }

abbrev pub with_kicks : Receiver → Worker → Worker
with_kicks kicks w = record w { kicks = kicks }

-- with other senders
abbrev pub with_senders : List AppSender → Worker → Worker
with_senders senders w = record w { senders = senders }

-- the gate's points of a host are 64, and two of them are a core's
abbrev pub point_of : (host core : ℕ) → ℕ
point_of host core = 64 * host + 2 * core

-- a worker to which nothing was handed yet
abbrev pub new_worker : (host core : ℕ) → Seen → (known : List Change) → Receiver → Worker
new_worker host core pass known kicks = record {
  core = core;
  point = point_of host core;
  pass = pass;
  check_sums = true;
  known = known;
  log = [];
  frames = [];
  deferred = [];
  exceptions = [];
  kicks = kicks;
  senders = [];
}

abbrev pub frame_of : FrameId → (packet : List ℕ) → Frame
frame_of id packet = record { id = id; packet = packet }

-- the worker's pass is of this table and has a turn, no pin and no record
abbrev pub IsFree : Common → Worker → Type 0
IsFree c w = IsGuest c.table w.pass

-- the worker takes kicks from its own core's queue
abbrev pub HasQueue : Common → Worker → Type 0
HasQueue c w = (place : Place) × (slice_get c.kicks w.core ≡ Some place) × (place.line ≡ w.kicks.line)

-- each of its senders posts to its application's queue
abbrev pub HasSenders : Common → Worker → Type 0
HasSenders c w = AreOwnSenders c.queues w.senders
