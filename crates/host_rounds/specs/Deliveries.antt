-- What becomes of a frame that comes to a host (RFC 9293, sections 3.10.7.1 and 3.10.7.2).
use Rattle.std.specs.Prelude.{ℕ, ◌&&◌, ◌||◌, ◌==◌, not, Bool, true, false, [], Option, Some, None, if◌then◌else◌}
use Rattle.segment_fields.specs.ControlBits.{urg}
use Rattle.tas_model.specs.declared.entry.FourTuple.{FourTuple}
use Rattle.tas_model.specs.declared.entry.FrameId.{FrameId}
use Rattle.tas_model.specs.declared.entry.Head.{Head}
use Rattle.tas_model.specs.declared.entry.Seg.{Seg}
use Rattle.tas_model.specs.declared.entry.Phase.{Phase}
use Rattle.tas_model.specs.declared.entry.Phase.TheVariants as phases
use Rattle.tas_model.specs.declared.entry.Reply.{Reply}
use Rattle.tas_model.specs.declared.entry.Reply.TheVariants as replies
use Rattle.tas_model.specs.declared.entry.Caller.{Caller}
use Rattle.tas_model.specs.declared.entry.Caller.TheVariants.{Slow, Core}
use Rattle.tas_model.specs.declared.entry.Call.TheVariants as calls
use Rattle.tas_model.specs.Endpoint.{Endpoint, phase}
use Rattle.tas_model.specs.Segments.{has, is_fin, is_syn, is_rst, is_ack, resets, stray_reply}
use Rattle.host_rounds.specs.declared.log.LogEvent.TheVariants as events
use Rattle.host_rounds.specs.declared.opening.Start.{Start}
use Rattle.host_rounds.specs.Hosts.{Live, Host, Waiting, Starts, next_start, endpoint, with_call, logged}
use Rattle.host_rounds.specs.Hosts.{is_known, changed, is_listening, is_full, lowest_free, first_entry, opened_in}

-- ----- frames
-- What comes in a frame: a packet that breaks a rule of reading, whose number stands here, or a segment with its
-- four-tuple as this host sees it.
pub data Packet : Type 0 where
  Damaged : (rule : ℕ) → Packet
  Segment : FourTuple → Seg → Packet

-- A frame that comes to the host.
pub record Arrival : Type 0 where
  pub frame : FrameId
  pub packet : Packet

abbrev pub same_frame : FrameId → FrameId → Bool
same_frame a b = a.host == b.host && a.flow == b.flow && a.number == b.number && a.copy == b.copy

-- ----- a flow takes it
abbrev pub received : Caller → (tick : ℕ) → FrameId → Seg → Live → Live
received by t frame seg l = with_call l by t (calls.Rx frame seg) []

-- the phases in which a side may still send data, but for the opening
abbrev pub is_open_phase : Phase → Bool
is_open_phase phases.Established = true
is_open_phase phases.FinWait1 = true
is_open_phase phases.FinWait2 = true
is_open_phase phases.CloseWait = true
is_open_phase _ = false

-- A segment for the fast path: ACK is set and none of SYN, FIN, RST and URG, and the connection is open.
abbrev pub is_fast : Endpoint → Seg → Bool
is_fast e seg =
    not (is_syn seg || is_fin seg || is_rst seg || has seg.head.flags urg) && is_ack seg && is_open_phase (phase e)

-- In serial order the fast path of core 0 takes what is for it, and the slow path all else.
abbrev pub rx_caller : Endpoint → Seg → Caller
rx_caller e seg = if is_fast e seg then Core 0 else Slow

abbrev pub received_serially : (tick : ℕ) → FrameId → Seg → Live → Live
received_serially t frame seg l = received (rx_caller (endpoint l) seg) t frame seg l

-- ----- no flow has its four-tuple
-- a SYN opens a flow where a listener is
abbrev pub opens : Seg → Bool
opens seg = is_syn seg && not (is_rst seg) && not (is_ack seg)

-- What a listener answers to all else: a reset to an acknowledgement (section 3.10.7.2).
abbrev pub listener_reply : Seg → Reply
listener_reply seg = if is_rst seg then replies.Nothing else if is_ack seg then resets seg.head.ack else replies.Nothing

abbrev pub answer_in : Reply → Option Head
answer_in (replies.Sent seg) = Some seg.head
answer_in _ = None

-- The answer to a segment that opens nothing, at a port where a listener is, or none is: there it is that of CLOSED
-- (section 3.10.7.1).
abbrev pub stray_answer : (listening : Bool) → Seg → Option Head
stray_answer true seg = answer_in (listener_reply seg)
stray_answer false seg = answer_in (stray_reply seg)

-- A SYN for a listener is dropped where as many flows wait as it takes, and then where no slot is free.
-- Else it opens a flow in the lowest free slot, by the slow path, with this start.
abbrev pub opened_by_syn : (full : Bool) → (free : Option ℕ) → (start : Start) (tick : ℕ)
    → Host → FrameId → FourTuple → Seg → Host
opened_by_syn true free start t host frame tuple seg = logged host t (events.Dropped frame true)
opened_by_syn false None start t host frame tuple seg = logged host t (events.Dropped frame false)
opened_by_syn false (Some slot) start t host frame tuple seg =
    opened_in host slot tuple start.scale Waiting
    (first_entry Slow t (calls.Passive frame start.number seg))

abbrev pub met_no_flow : (opening listening : Bool) → (start : Start) (tick : ℕ)
    → Host → FrameId → FourTuple → Seg → Host
met_no_flow true listening start t host frame tuple seg =
    opened_by_syn (is_full host tuple.lport) (lowest_free host) start t host frame tuple seg
met_no_flow false listening start t host frame tuple seg =
    logged host t (events.Stray frame tuple seg (stray_answer listening seg))

-- ----- one frame
abbrev pub arrived : (known : Bool) → (Live → Live) → (start : Start) (tick : ℕ)
    → Host → FrameId → FourTuple → Seg → Host
arrived true take_in start t host frame tuple seg = changed host tuple take_in
arrived false take_in start t host frame tuple seg =
    let listening : Bool = is_listening host tuple.lport in
    met_no_flow (listening && opens seg) listening start t host frame tuple seg

-- How a flow takes a segment: by which caller.
abbrev pub Taking : Type 0
Taking = (tick : ℕ) → FrameId → Seg → Live → Live

abbrev pub delivered_packet : Taking → Starts → (tick : ℕ) → Host → FrameId → Packet → Host
delivered_packet take_in starts t host frame (Damaged rule) = logged host t (events.Refused frame rule)
delivered_packet take_in starts t host frame (Segment tuple seg) =
    arrived (is_known host tuple) (take_in t frame seg) (next_start starts host tuple) t host frame tuple seg

-- A packet that breaks a rule of reading is a line of the log. A segment is taken by the flow that the index has under
-- its four-tuple, also where that was closed in this tick, and else meets a listener, or none.
abbrev pub delivered : Taking → Starts → (tick : ℕ) → Host → Arrival → Host
delivered take_in starts t host x = delivered_packet take_in starts t host x.frame x.packet
