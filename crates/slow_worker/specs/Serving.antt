-- What handling a frame at the slow path is: each way out with its cause, and what was then done and written.
use Rattle.std.specs.Prelude.{◌≡◌, ℕ, ◌||◌, if◌then◌else◌, Bool, true, false, List, [], ◌∷◌, ◌++◌, Option, Some, None}
use Rattle.segment_fields.specs.declared.segment.Segment.{Segment}
use Rattle.segment_fields.specs.declared.segment.Refused.{Refused}
use Rattle.segment_fields.specs.Refusals.{number_of}
use Rattle.segment_fields.specs.Text.{IsText, refusal}
use Rattle.tas_model.specs.declared.entry.FlowId.{FlowId}
use Rattle.tas_model.specs.declared.entry.FrameId.{FrameId}
use Rattle.flow_state.specs.Calls.{seg_of}
use Rattle.host_rounds.specs.Deliveries.{opens}
use Rattle.host_rounds.specs.declared.log.LogEvent.{LogEvent}
use Rattle.host_rounds.specs.declared.log.LogEvent.TheVariants as events
use Rattle.flow_lock.specs.Answers.{next_in}
use Rattle.slow_handshake.specs.Numbers.{FirstNumbers}
use Rattle.slow_handshake.specs.Openings.{Openings, is_taken, syn_answer}
use Rattle.slow_handshake.specs.Strays.{stray_answer}
use Rattle.slow_handshake.specs.declared.openings.SynAnswer.{SynAnswer}
use Rattle.slow_handshake.specs.declared.openings.SynAnswer.TheVariants as syn
use Rattle.core_worker.specs.Frames.{tuple_of}
use Rattle.slow_worker.specs.Workers.{Sight, Setting, flow_with}
use Rattle.slow_worker.specs.Entering.{IsEntered, IsUnentered}
use Rattle.slow_worker.specs.Opening.{IsOpened, IsUnopened}
use Rattle.slow_worker.specs.declared.served.Served.{Served}
use Rattle.slow_worker.specs.declared.served.Served.TheVariants as served

-- ----- lines
abbrev pub with_line : (tick : ℕ) → LogEvent → Sight → Sight
with_line tick event s = record s { log = s.log ++ record { tick = tick; event = event } ∷ [] }

-- a listener has the port, or in a replay all ports listen
abbrev pub is_listening : Openings → (port : ℕ) → Bool
is_listening o port = o.params.fixed || is_taken o port

-- the line of a segment that is of no flow and opens none, with what is answered
abbrev pub stray_event : Openings → FrameId → Segment → LogEvent
stray_event o frame seg =
    events.Stray frame (tuple_of seg) (seg_of seg) (stray_answer (seg_of seg) (is_listening o seg.dport))

-- ----- no flow has its four-tuple
-- a SYN asks the listeners, and all else is a stray
abbrev pub asked_of : Openings → Segment → Option SynAnswer
asked_of o seg = if opens (seg_of seg) then Some (syn_answer o seg.dport) else None

-- a SYN that the backlog has room for: the lowest free slot is opened for it, where there is one, with the number that
-- the flow has as the next one of the host
abbrev pub IsOpenedIn : Option FlowId → FirstNumbers → (tick : ℕ) → FrameId → Segment → Sight → Sight → Served → Type 0
IsOpenedIn None numbers tick frame seg s n a =
    (a ≡ served.Dropped false) × (n ≡ with_line tick (events.Dropped frame false) s)
IsOpenedIn (Some id) numbers tick frame seg s n a =
    (a ≡ served.Opened id)
    × IsOpened tick (numbers (tuple_of seg) s.pass.view.opened) frame seg id s n

abbrev pub IsMet : Option SynAnswer → FirstNumbers → (tick : ℕ) → FrameId → Segment → Sight → Sight → Served → Type 0
IsMet (Some syn.Opens) numbers tick frame seg s n a =
    IsOpenedIn (next_in s.pass.view.marks) numbers tick frame seg s n a
IsMet (Some (syn.BacklogFull count)) numbers tick frame seg s n a =
    (a ≡ served.Dropped true) × (n ≡ with_line tick (events.Dropped frame true) s)
IsMet stray numbers tick frame seg s n a =
    (a ≡ served.Stray) × (n ≡ with_line tick (stray_event s.path frame seg) s)

-- memory was wanting for a line, or for a flow
abbrev pub IsUnopenedIn : Option FlowId → Segment → Sight → Sight → Type 0
IsUnopenedIn None seg s n = n ≡ s
IsUnopenedIn (Some id) seg s n = IsUnopened seg id s n

abbrev pub IsUnmet : Option SynAnswer → Segment → Sight → Sight → Type 0
IsUnmet (Some syn.Opens) seg s n = IsUnopenedIn (next_in s.pass.view.marks) seg s n
IsUnmet asked seg s n = n ≡ s

-- ----- one frame
-- A segment is received by the flow that has its four-tuple, and else meets a listener, or none.
abbrev pub IsTaken : Option FlowId → Setting → FrameId → Segment → Sight → Sight → Served → Type 0
IsTaken (Some id) at frame seg s n a = IsEntered at frame seg id s n a
IsTaken None at frame seg s n a = IsMet (asked_of s.path seg) at.numbers at.tick frame seg s n a

abbrev pub IsUntaken : Option FlowId → Segment → Sight → Sight → Type 0
IsUntaken (Some id) seg s n = IsUnentered id s n
IsUntaken None seg s n = IsUnmet (asked_of s.path seg) seg s n

-- the packet breaks this rule of reading, or spells a segment
abbrev pub IsServedBy : Option Refused → Setting → FrameId → List ℕ → Sight → Sight → Served → Type 0
IsServedBy (Some r) at frame packet s n a =
    (a ≡ served.Refused (number_of r)) × (n ≡ with_line at.tick (events.Refused frame (number_of r)) s)
IsServedBy None at frame packet s n a =
    (seg : Segment) × IsText packet seg × IsTaken (flow_with (tuple_of seg) s.flows) at frame seg s n a

-- The frame was handled, with this answer.
abbrev pub IsServed : Setting → FrameId → (packet : List ℕ) → Sight → Sight → Served → Type 0
IsServed at frame packet = IsServedBy (refusal at.check_sums packet) at frame packet

-- Memory was wanting: the frame made no entry, no flow and no line.
abbrev pub IsUnservedBy : Option Refused → (packet : List ℕ) → Sight → Sight → Type 0
IsUnservedBy (Some r) packet s n = n ≡ s
IsUnservedBy None packet s n =
    (seg : Segment) × IsText packet seg × IsUntaken (flow_with (tuple_of seg) s.flows) seg s n

abbrev pub IsUnserved : Setting → (packet : List ℕ) → Sight → Sight → Type 0
IsUnserved at packet = IsUnservedBy (refusal at.check_sums packet) packet
