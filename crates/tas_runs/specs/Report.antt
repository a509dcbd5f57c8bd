-- The report of a run: its text, line by line. Numbers are decimal without sign or leading zero.
use Rattle.std.specs.Prelude.{ℕ, ◌+◌, ◌-◌, ◌/◌, ◌%◌, ◌^◌, ◌==◌, false, List, [], ◌∷◌, ◌++◌, length, slice_get, codes}
use Rattle.std.specs.Prelude.{decimal, Option, Some, None, if◌then◌else◌}
use Rattle.std.specs.Fmt.{digit_glyph}
use Rattle.segment_fields.specs.ControlBits.{fin, syn, rst, psh, ack, urg, ece, cwr, has}
use Rattle.tas_model.specs.declared.entry.FourTuple.{FourTuple}
use Rattle.tas_model.specs.declared.entry.FrameId.{FrameId}
use Rattle.tas_model.specs.declared.entry.Head.{Head}
use Rattle.tas_model.specs.declared.entry.Seg.{Seg}
use Rattle.tas_model.specs.declared.entry.Phase.{Phase}
use Rattle.tas_model.specs.declared.entry.Phase.TheVariants as phases
use Rattle.tas_model.specs.declared.entry.Reason.{Reason}
use Rattle.tas_model.specs.declared.entry.Reason.TheVariants as reasons
use Rattle.tas_model.specs.declared.entry.Caller.{Caller}
use Rattle.tas_model.specs.declared.entry.Caller.TheVariants.{Slow, Core, App}
use Rattle.tas_model.specs.declared.entry.Call.{Call}
use Rattle.tas_model.specs.declared.entry.Call.TheVariants as calls
use Rattle.tas_model.specs.declared.entry.Reply.{Reply}
use Rattle.tas_model.specs.declared.entry.Reply.TheVariants as replies
use Rattle.tas_model.specs.declared.entry.Entry.{Entry}
use Rattle.tas_model.specs.Endpoint.{Endpoint, phase}
use Rattle.tas_model.specs.LegalHistory.{replay}
use Rattle.tas_model.specs.Outputs.{bytes_read}
use Rattle.host_rounds.specs.declared.log.LogLine.{LogLine}
use Rattle.host_rounds.specs.declared.log.LogEvent.{LogEvent}
use Rattle.host_rounds.specs.declared.log.LogEvent.TheVariants as events
use Rattle.host_rounds.specs.Logs.{Flow, HostRun, RunLog}

-- a line ends with LF
abbrev pub line : List ℕ → List ℕ
line text = text ++ 10 ∷ []

-- ----- bytes and segments
-- two lower case digits a byte
abbrev pub hex_bytes : List ℕ → List ℕ
hex_bytes [] = []
hex_bytes (b ∷ bs) = digit_glyph false (b / 16) ∷ digit_glyph false (b % 16) ∷ hex_bytes bs

-- the same, or `-` for no bytes
abbrev pub hex : List ℕ → List ℕ
hex [] = codes "-"
hex (b ∷ bs) = hex_bytes (b ∷ bs)

-- the payload of a segment, where it has one
abbrev pub data_text : List ℕ → List ℕ
data_text [] = []
data_text (b ∷ bs) = codes " data " ++ hex_bytes (b ∷ bs)

-- the letter of a bit that is set
abbrev pub letter : (flags bit : ℕ) → List ℕ → List ℕ
letter flags bit text = if has flags bit then text else []

-- CWR, ECE, URG, ACK, PSH, RST, SYN, FIN, in this order
abbrev pub letters : (flags : ℕ) → List ℕ
letters f = letter f cwr (codes "C") ++ letter f ece (codes "E") ++ letter f urg (codes "U") ++ letter f ack (codes "A")
    ++ letter f psh (codes "P") ++ letter f rst (codes "R") ++ letter f syn (codes "S") ++ letter f fin (codes "F")

abbrev pub flags_text : (flags : ℕ) → List ℕ
flags_text f = if f == 0 then codes "-" else letters f

abbrev pub mss_text : Option ℕ → List ℕ
mss_text None = []
mss_text (Some mss) = codes " mss " ++ decimal mss

abbrev pub scale_text : Option ℕ → List ℕ
scale_text None = []
scale_text (Some shift) = codes " ws " ++ decimal shift

-- a segment without its payload
abbrev pub head_text : Head → List ℕ
head_text h = flags_text h.flags ++ codes " seq " ++ decimal h.seq.0 ++ codes " ack " ++ decimal h.ack.0
    ++ codes " win " ++ decimal h.window ++ mss_text h.mss ++ scale_text h.scale

-- a segment
abbrev pub seg_text : Seg → List ℕ
seg_text s = head_text s.head ++ data_text s.bytes

-- ----- names
-- the names of the hosts, by which frames are shown
abbrev pub names_of : List HostRun → List (List ℕ)
names_of [] = []
names_of (h ∷ hs) = h.name ∷ names_of hs

-- the name of a host by its number, or `-` where the run has no such host
abbrev pub name_at : (names : List (List ℕ)) → (host : ℕ) → List ℕ
name_at names host = elim (slice_get names host) [ None ↦ codes "-" | Some name ↦ name ]

-- the flow of a frame, or `x` where it is of none
abbrev pub flow_text : (flow : ℕ) → List ℕ
flow_text n = if n == 2 ^ 32 - 1 then codes "x" else decimal n

-- a second copy bears a `+`
abbrev pub copy_text : (copy : ℕ) → List ℕ
copy_text n = if n == 0 then [] else codes "+"

-- a record of the capture, or a frame by its host, flow and number
abbrev pub frame_text : (names : List (List ℕ)) → FrameId → List ℕ
frame_text names f =
    if f.host == 2 ^ 32 - 1 then codes "r:" ++ decimal f.number
    else name_at names f.host ++ codes ":" ++ flow_text f.flow ++ codes "." ++ decimal f.number ++ copy_text f.copy

-- an address, and an address with a port
abbrev pub addr_text : (addr : ℕ) → List ℕ
addr_text addr = decimal (addr / 16777216) ++ codes "." ++ decimal (addr / 65536 % 256) ++ codes "."
    ++ decimal (addr / 256 % 256) ++ codes "." ++ decimal (addr % 256)

abbrev pub port_text : (addr port : ℕ) → List ℕ
port_text addr port = addr_text addr ++ codes ":" ++ decimal port

-- ----- entries
-- the slow path, a core or an application
abbrev pub caller_text : Caller → List ℕ
caller_text Slow = codes "s"
caller_text (Core k) = codes "c" ++ decimal k
caller_text (App k) = codes "p" ++ decimal k

abbrev pub reason_text : Reason → List ℕ
reason_text reasons.Done = codes "done"
reason_text reasons.Reset = codes "reset"
reason_text reasons.Refused = codes "refused"
reason_text reasons.TimedOut = codes "timedout"
reason_text reasons.Aborted = codes "aborted"

abbrev pub call_text : (names : List (List ℕ)) → Call → List ℕ
call_text names (calls.Connect iss) = codes "connect iss " ++ decimal iss.0
call_text names (calls.Passive frame iss seg) = codes "passive " ++ frame_text names frame ++ codes " iss "
    ++ decimal iss.0 ++ codes " " ++ seg_text seg
call_text names (calls.Rx frame seg) = codes "rx " ++ frame_text names frame ++ codes " " ++ seg_text seg
call_text names calls.Emit = codes "emit"
call_text names calls.Tick = codes "tick"
call_text names calls.Control = codes "control"
call_text names calls.Accept = codes "accept"
call_text names calls.Ready = codes "ready"
call_text names (calls.Send offered) = codes "send " ++ decimal offered
call_text names (calls.Recv most) = codes "recv " ++ decimal most
call_text names calls.Shut = codes "shut"
call_text names calls.Close = codes "close"
call_text names calls.Abort = codes "abort"

-- the update that a Recv sends
abbrev pub update_text : Option Head → List ℕ
update_text None = []
update_text (Some head) = codes " then " ++ head_text head

abbrev pub reply_text : Reply → List ℕ
reply_text replies.Ok = codes "ok"
reply_text replies.Nothing = codes "none"
reply_text (replies.Sent seg) = seg_text seg
reply_text (replies.Took bytes) = codes "took " ++ hex bytes
reply_text (replies.Got bytes update) = codes "got " ++ hex bytes ++ update_text update
reply_text replies.End = codes "end"
reply_text replies.NotYet = codes "notyet"
reply_text replies.NotOpen = codes "notopen"
reply_text replies.Shut = codes "shut"
reply_text (replies.Closed reason) = codes "closed " ++ reason_text reason
reply_text replies.Quiet = codes "quiet"
reply_text replies.Resend = codes "resend"
reply_text replies.Probe = codes "probe"
reply_text replies.Expired = codes "done"
reply_text replies.TimedOut = codes "timedout"
reply_text (replies.Window cwnd ssthresh) = codes "cwnd " ++ decimal cwnd ++ codes " ssthresh " ++ decimal ssthresh

-- the line of an entry: its tick, its caller with the number among that caller's entries, the call, and the reply
abbrev pub entry_text : (names : List (List ℕ)) → Entry → List ℕ
entry_text names x = line (decimal x.tick ++ codes " " ++ caller_text x.caller ++ codes "." ++ decimal x.number
    ++ codes " " ++ call_text names x.call ++ codes " = " ++ reply_text x.reply)

abbrev pub entries_text : (names : List (List ℕ)) → List Entry → List ℕ
entries_text names [] = []
entries_text names (x ∷ xs) = entry_text names x ++ entries_text names xs

-- ----- flows
-- the states of RFC 9293, section 3.3.2
abbrev pub phase_text : Phase → List ℕ
phase_text phases.SynSent = codes "SYN-SENT"
phase_text phases.SynReceived = codes "SYN-RECEIVED"
phase_text phases.Established = codes "ESTABLISHED"
phase_text phases.FinWait1 = codes "FIN-WAIT-1"
phase_text phases.FinWait2 = codes "FIN-WAIT-2"
phase_text phases.CloseWait = codes "CLOSE-WAIT"
phase_text phases.Closing = codes "CLOSING"
phase_text phases.LastAck = codes "LAST-ACK"
phase_text phases.TimeWait = codes "TIME-WAIT"
phase_text phases.Closed = codes "CLOSED"

-- the state, and after CLOSED the reason
abbrev pub state_text : Endpoint → List ℕ
state_text e = elim e.reason [
  | None ↦ phase_text (phase e)
  | Some why ↦ phase_text (phase e) ++ codes " "
      ++ reason_text why
]

-- how many bytes were read, and which
abbrev pub read_text : List ℕ → List ℕ
read_text bytes = codes "read " ++ decimal (length bytes) ++ codes " " ++ hex bytes

-- the local end first
abbrev pub tuple_text : FourTuple → List ℕ
tuple_text t = port_text t.laddr t.lport ++ codes " " ++ port_text t.raddr t.rport

-- A flow: its opening number, slot, generation and ends; its entries; and the state that its endpoint has after them,
-- with all bytes read.
abbrev pub flow_lines : (names : List (List ℕ)) → (number : ℕ) → Flow → List ℕ
flow_lines names n f =
    line (codes "flow " ++ decimal n ++ codes " slot " ++ decimal f.id.slot ++ codes "." ++ decimal f.id.generation
    ++ codes " " ++ tuple_text f.tuple)
    ++ entries_text names f.entries
    ++ line (codes "state " ++ state_text (replay f.params f.entries))
    ++ line (read_text (bytes_read f.entries))

-- the flows, the first of which has this number
abbrev pub flows_text : (names : List (List ℕ)) → (number : ℕ) → List Flow → List ℕ
flows_text names n [] = []
flows_text names n (f ∷ fs) = flow_lines names n f ++ flows_text names (n + 1) fs

-- ----- lines of the log
-- the answer that a segment of no flow got
abbrev pub answer_text : Option Head → List ℕ
answer_text None = codes "none"
answer_text (Some head) = head_text head

abbrev pub event_text : (names : List (List ℕ)) → LogEvent → List ℕ
event_text names (events.Listen app port ok) = codes "p" ++ decimal app ++ codes " listen " ++ decimal port
    ++ codes " = " ++ (if ok then codes "ok" else codes "portinuse")
event_text names (events.AcceptNotYet app port) = codes "p" ++ decimal app ++ codes " accept " ++ decimal port
    ++ codes " = notyet"
event_text names (events.ConnectRefused app raddr rport no_port) = codes "p" ++ decimal app ++ codes " connect "
    ++ port_text raddr rport ++ codes " = " ++ (if no_port then codes "noport" else codes "noflowslot")
event_text names (events.Stray frame tuple seg answer) = codes "stray " ++ frame_text names frame ++ codes " "
    ++ seg_text seg ++ codes " = " ++ answer_text answer
event_text names (events.Dropped frame backlog) = codes "dropped " ++ frame_text names frame ++ codes " = "
    ++ (if backlog then codes "backlogfull" else codes "noflowslot")
event_text names (events.Refused frame number) = codes "refused " ++ frame_text names frame ++ codes " = "
    ++ decimal number

abbrev pub log_text : (names : List (List ℕ)) → List LogLine → List ℕ
log_text names [] = []
log_text names (l ∷ ls) = line (decimal l.tick ++ codes " " ++ event_text names l.event) ++ log_text names ls

-- ----- the whole
-- a host: its name and address, its log, its flows
abbrev pub host_text : (names : List (List ℕ)) → HostRun → List ℕ
host_text names h = line (codes "host " ++ h.name ++ codes " " ++ addr_text h.addr) ++ log_text names h.log
    ++ flows_text names 0 h.flows

abbrev pub hosts_text : (names : List (List ℕ)) → List HostRun → List ℕ
hosts_text names [] = []
hosts_text names (h ∷ hs) = host_text names h ++ hosts_text names hs

-- the counts of a replay
abbrev pub counts_text : RunLog → List ℕ
counts_text log = line (codes "records " ++ decimal log.records ++ codes " frames " ++ decimal log.frames
    ++ codes " passed " ++ decimal log.passed ++ codes " refused " ++ decimal log.refused)

-- The report.
unfoldable pub report : RunLog → List ℕ
report log =
    line (codes "tas " ++ (if log.replay then codes "replay" else codes "run"))
    ++ hosts_text (names_of log.hosts) log.hosts
    ++ (if log.replay then counts_text log else [])
    ++ line (codes "end " ++ decimal log.ticks ++ codes " ticks")
