-- What handling a frame is: each way out, with its cause, and what the worker has then seen, done and written.
use Rattle.std.specs.Prelude.{◌≡◌, ℕ, Bool, List, [], ◌∷◌, ◌++◌, Option, Some, None}
use Rattle.segment_fields.specs.declared.segment.Segment.{Segment}
use Rattle.segment_fields.specs.declared.segment.Refused.{Refused}
use Rattle.segment_fields.specs.Refusals.{number_of}
use Rattle.segment_fields.specs.Text.{IsText, refusal}
use Rattle.tas_model.specs.declared.entry.FlowId.{FlowId}
use Rattle.tas_model.specs.declared.entry.FrameId.{FrameId}
use Rattle.host_rounds.specs.declared.log.LogLine.{LogLine}
use Rattle.host_rounds.specs.declared.log.LogEvent.TheVariants as events
use Rattle.flow_index.specs.Changes.{Begins, found_after}
use Rattle.core_worker.specs.Frames.{tuple_of, named_in}
use Rattle.core_worker.specs.Receiving.{IsReceived, IsUnreceived}
use Rattle.core_worker.specs.Workers.{Common, Worker, Sight}
use Rattle.core_worker.specs.declared.frames.Handled.{Handled}
use Rattle.core_worker.specs.declared.handling.Duty.{Duty}
use Rattle.core_worker.specs.declared.shared.AppQueue.{AppQueue}
use Rattle.core_worker.specs.declared.frames.Handled.TheVariants as handled
use Rattle.core_worker.specs.declared.frames.Passed.TheVariants as passed

-- who handles frames, and when: the core, whether it looks at checksums, how many slots the table has, the queues of
-- applications, and the tick
pub record Setting : Type 0 where
  pub core : ℕ
  pub check_sums : Bool
  pub slots : ℕ
  pub queues : List AppQueue
  pub tick : ℕ

abbrev pub setting_of : Common → (tick : ℕ) → Worker → Setting
setting_of c tick w = record {
  core = w.core;
  check_sums = w.check_sums;
  slots = c.table.slots;
  queues = c.queues;
  tick = tick;
}

abbrev pub setting_on : Common → Duty → Setting
setting_on c d = record {
  core = d.core;
  check_sums = d.check_sums;
  slots = c.table.slots;
  queues = c.queues;
  tick = d.tick;
}

-- the line of a packet that breaks a rule of reading
abbrev pub refused_line : (tick : ℕ) → FrameId → Refused → LogLine
refused_line tick frame r = record { tick = tick; event = events.Refused frame (number_of r) }

-- the answer, the pass and the senders, where the index names this flow, or none
abbrev pub IsReceivedAt : Setting → FrameId → Segment → Option FlowId → (s n : Sight) → Handled → Type 0
IsReceivedAt at frame seg None s n h =
    (h ≡ handled.Passed passed.Absent) × (n.pass.view ≡ s.pass.view) × (n.senders ≡ s.senders)
IsReceivedAt at frame seg (Some id) s n h =
    IsReceived at.queues at.core at.tick frame seg id s.pass.view n.pass.view s.senders n.senders h

abbrev pub IsUnreceivedAt : Option FlowId → (s n : Sight) → Type 0
IsUnreceivedAt None s n = ⊥
IsUnreceivedAt (Some id) s n = IsUnreceived id s.pass.view n.pass.view × (n.senders ≡ s.senders)

-- The packet spells this segment. The index was asked for its four-tuple, and then this was done by its answer. No line
-- was written.
pub record IsRead (at : Setting) (packet : List ℕ) (done : Segment → Option FlowId → Sight → Sight → Type 0)
    (s n : Sight) : Type 0 where
  pub seg : Segment
  pub text : IsText packet seg
  pub later : Begins s.known n.known
  pub received : done seg (named_in at.slots (found_after (tuple_of seg) n.known)) s n
  pub table : n.pass.table ≡ s.pass.table
  pub log : n.log ≡ s.log

-- where the packet breaks this rule of reading, or none
abbrev pub IsHandledBy : Option Refused → Setting → FrameId → List ℕ → Sight → Sight → Handled → Type 0
IsHandledBy (Some r) at frame packet s n h =
    (h ≡ handled.Refused (number_of r)) × (n ≡ record s { log = s.log ++ refused_line at.tick frame r ∷ [] })
IsHandledBy None at frame packet s n h = IsRead at packet (λ seg id s n. IsReceivedAt at frame seg id s n h) s n

-- The frame was handled, with this answer.
abbrev pub IsHandled : Setting → FrameId → (packet : List ℕ) → Sight → Sight → Handled → Type 0
IsHandled at frame packet = IsHandledBy (refusal at.check_sums packet) at frame packet

-- Memory was wanting: no entry was made, no line written and no note posted.
abbrev pub IsUnhandledBy : Option Refused → Setting → List ℕ → Sight → Sight → Type 0
IsUnhandledBy (Some r) at packet s n = n ≡ s
IsUnhandledBy None at packet s n = IsRead at packet (λ seg id s n. IsUnreceivedAt id s n) s n

abbrev pub IsUnhandled : Setting → (packet : List ℕ) → Sight → Sight → Type 0
IsUnhandled at packet = IsUnhandledBy (refusal at.check_sums packet) at packet
