-- Worked ticks: hosts without applications' calls, what comes to them, and what is left, told by hand from the standard
-- and from the rules of a host.
use Rattle.std.specs.Prelude.{⊤, ℕ, ◌+◌, ◌*◌, ◌%◌, ◌^◌, Bool, true, false, List, [], ◌∷◌, map, Option, Some, None}
use Rattle.tas_model.specs.declared.entry.FourTuple.{FourTuple}
use Rattle.tas_model.specs.declared.entry.FrameId.{FrameId}
use Rattle.tas_model.specs.declared.entry.FlowId.{FlowId}
use Rattle.tas_model.specs.declared.entry.Head.{Head}
use Rattle.tas_model.specs.declared.entry.Entry.{Entry}
use Rattle.tas_model.specs.declared.entry.Caller.{Caller}
use Rattle.tas_model.specs.declared.entry.Caller.TheVariants.{Slow, Core}
use Rattle.tas_model.specs.declared.entry.Call.{Call}
use Rattle.tas_model.specs.declared.entry.Call.TheVariants as calls
use Rattle.tas_model.specs.Segments.{seq_at}
use Rattle.host_rounds.specs.declared.log.LogLine.{LogLine}
use Rattle.host_rounds.specs.declared.log.LogEvent.{LogEvent}
use Rattle.host_rounds.specs.declared.log.LogEvent.TheVariants as events
use Rattle.host_rounds.specs.Hosts.{Live, Host}
use Rattle.host_rounds.specs.Deliveries.{Arrival, Damaged, Segment}
use Rattle.host_rounds.specs.Scripts.{Scripts, Site}
use Rattle.host_rounds.specs.Rounds.{Due}
use Rattle.host_rounds.specs.SerialOrder.{serial_ticks}

-- ----- how they are written
-- applications that ask nothing; the first numbers are 64,000 apart, from 100 on
abbrev pub silent : Scripts ⊤ ⊤
silent =
    record {
      starts = λ (tuple : FourTuple) (k n : ℕ).
          record { number = record { 0 = (100 + 64000 * n) % 2 ^ 32 }; scale = None };
      agent = λ (a : ⊤). 0;
      asked = λ (t : ℕ) (site : Site ⊤) (a : ⊤). site;
    }

-- 10.0.0.2, and another host, 10.0.0.1
abbrev pub here : ℕ
here = 167772162

abbrev pub there : ℕ
there = 167772161

abbrev pub from_port : (port to : ℕ) → FourTuple
from_port port to = record { laddr = here; lport = to; raddr = there; rport = port }

-- the k-th frame that comes
abbrev pub frame : (k : ℕ) → FrameId
frame k = record { host = 0; flow = 0; number = k; copy = 0 }

abbrev pub head : (flags seq ack : ℕ) → Head
head flags seq ack =
    record { flags = flags; seq = seq_at 0 seq; ack = seq_at 0 ack; window = 5000; mss = None; scale = None }

abbrev pub comes : (k : ℕ) → FourTuple → Head → (bytes : List ℕ) → Arrival
comes k tuple h bytes = record { frame = frame k; packet = Segment tuple (record { head = h; bytes = bytes }) }

abbrev pub breaks : (k rule : ℕ) → Arrival
breaks k rule = record { frame = frame k; packet = Damaged rule }

abbrev pub ticks_of : List (List Arrival) → List (Due ⊤)
ticks_of frames = map (λ (xs : List Arrival). record { frames = xs; asks = [] }) frames

abbrev pub with_slots : (slots : ℕ) (fixed : Bool) → Host
with_slots slots fixed =
    record {
      params = record {
        addr = here;
        iss = 100;
        ring = 1024;
        mss = 1460;
        rto = 20;
        slots = slots;
        backlog = 1;
        fixed = fixed;
        scale = None;
      };
      listeners = (record { port = 80; app = 3 }) ∷ [];
      log = [];
      flows = [];
    }

-- the host after these ticks, the first of which has this number
abbrev pub after : (tick : ℕ) → Host → List (List Arrival) → Host
after t host frames = (serial_ticks silent t (record { host = host; scripts = tt }) (ticks_of frames)).host

-- ----- what is looked at
pub data Kind : Type 0 where
  APassive : Kind
  ARx : Kind
  AnEmit : Kind
  ATick : Kind
  AControl : Kind
  Another : Kind

-- an entry by its caller, its number among the caller's, its tick and its kind
pub record Mark : Type 0 where
  pub by : Caller
  pub number : ℕ
  pub tick : ℕ
  pub kind : Kind

abbrev pub kind_of : Call → Kind
kind_of (calls.Passive f iss seg) = APassive
kind_of (calls.Rx f seg) = ARx
kind_of calls.Emit = AnEmit
kind_of calls.Tick = ATick
kind_of calls.Control = AControl
kind_of _ = Another

abbrev pub mark : Caller → (number tick : ℕ) → Kind → Mark
mark by n t kind = record { by = by; number = n; tick = t; kind = kind }

abbrev pub mark_of : Entry → Mark
mark_of x = mark x.caller x.number x.tick (kind_of x.call)

abbrev pub marks : Host → List (List Mark)
marks host = map (λ (l : Live). map mark_of l.flow.entries) host.flows

abbrev pub ids : Host → List FlowId
ids host = map (λ (l : Live). l.flow.id) host.flows

abbrev pub at : (tick : ℕ) → LogEvent → LogLine
at t event = record { tick = t; event = event }

abbrev pub stray : (k : ℕ) → FourTuple → Head → (answer : Option Head) → LogEvent
stray k tuple h answer = events.Stray (frame k) tuple (record { head = h; bytes = [] }) answer

-- ----- a listener with a backlog of one
-- At tick 8 a SYN opens a flow and a second one finds the backlog full. Then come, of no flow: a SYN and a reset to a
-- port where nobody listens, an acknowledgement to the listener,
-- and a packet with a wrong checksum. The handshake ends at tick 9; data comes at tick 10, in which the rate is
-- controlled, and the peer's end at tick 11.
abbrev pub visited : Host
visited =
    after 8 (with_slots 4 false) (
    (
    comes 1 (from_port 1000 80) (head 2 500 0) []
    ∷ comes 2 (from_port 1001 80) (head 2 500 0) []
    ∷ comes 3 (from_port 1002 81) (head 2 500 0) []
    ∷ comes 4 (from_port 1003 81) (head 4 500 0) []
    ∷ comes 5 (from_port 1004 80) (head 16 7 900) []
    ∷ breaks 6 9
    ∷ []
    )
    ∷ (comes 7 (from_port 1000 80) (head 16 501 101) [] ∷ [])
    ∷ (comes 8 (from_port 1000 80) (head 24 501 101) (104 ∷ 105 ∷ []) ∷ [])
    ∷ (comes 9 (from_port 1000 80) (head 17 503 101) [] ∷ comes 10 (from_port 1001 80) (head 2 500 0) [] ∷ [])
    ∷ []
    )

abbrev pub visited_marks : List (List Mark)
visited_marks =
    (
    mark Slow 0 8 APassive
    ∷ mark (Core 0) 0 8 AnEmit
    ∷ mark Slow 1 9 ATick
    ∷ mark Slow 2 9 ARx
    ∷ mark Slow 3 10 ATick
    ∷ mark Slow 4 10 AControl
    ∷ mark (Core 0) 1 10 ARx
    ∷ mark Slow 5 11 ATick
    ∷ mark Slow 6 11 ARx
    ∷ []
    )
    ∷ []

abbrev pub visited_log : List LogLine
visited_log =
    at 8 (events.Dropped (frame 2) true)
    ∷ at 8 (stray 3 (from_port 1002 81) (head 2 500 0)
    (Some (record { flags = 20; seq = seq_at 0 0; ack = seq_at 0 501; window = 0; mss = None; scale = None })))
    ∷ at 8 (stray 4 (from_port 1003 81) (head 4 500 0) None)
    ∷ at 8 (stray 5 (from_port 1004 80) (head 16 7 900)
    (Some (record { flags = 4; seq = seq_at 0 900; ack = seq_at 0 0; window = 0; mss = None; scale = None })))
    ∷ at 8 (events.Refused (frame 6) 9)
    ∷ at 11 (events.Dropped (frame 10) true)
    ∷ []

-- ----- one slot, and every port listens
-- At tick 20 a SYN takes the slot, and a second one finds none. At tick 21 the peer resets the connection; a SYN of the
-- same four-tuple still goes to the closed flow, and another one
-- finds no slot. At tick 22 the slot is free again.
abbrev pub crowded : Host
crowded =
    after 20 (with_slots 1 true) (
    (comes 1 (from_port 1000 7000) (head 2 500 0) [] ∷ comes 2 (from_port 1001 7000) (head 2 500 0) [] ∷ [])
    ∷ (
    comes 3 (from_port 1000 7000) (head 4 501 0) []
    ∷ comes 4 (from_port 1000 7000) (head 2 900 0) []
    ∷ comes 5 (from_port 1001 7000) (head 2 500 0) []
    ∷ []
    )
    ∷ (comes 6 (from_port 1000 7000) (head 2 900 0) [] ∷ [])
    ∷ []
    )

abbrev pub crowded_marks : List (List Mark)
crowded_marks =
    (
    mark Slow 0 20 APassive
    ∷ mark (Core 0) 0 20 AnEmit
    ∷ mark Slow 1 21 ATick
    ∷ mark Slow 2 21 ARx
    ∷ mark Slow 3 21 ARx
    ∷ []
    )
    ∷ (mark Slow 0 22 APassive ∷ mark (Core 0) 0 22 AnEmit ∷ [])
    ∷ []

abbrev pub crowded_ids : List FlowId
crowded_ids = (record { slot = 0; generation = 1 }) ∷ (record { slot = 0; generation = 2 }) ∷ []

abbrev pub crowded_log : List LogLine
crowded_log = at 20 (events.Dropped (frame 2) false) ∷ at 21 (events.Dropped (frame 5) false) ∷ []
