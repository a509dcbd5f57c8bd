-- What the entries of one end of a connection tell of its state (RFC 9293, section 3.3.2).
use Rattle.std.specs.Prelude.{ℕ, ◌+◌, ◌-◌, ◌*◌, ◌%◌, ◌^◌, ◌==◌, Bool, true, false, not, ◌&&◌, ◌||◌, length, nat_lt}
use Rattle.std.specs.Prelude.{min}
use Rattle.std.specs.Prelude.{Option, Some, None, is_some, option_map, if◌then◌else◌}
use Rattle.tas_num.specs.declared.seq.Seq.{Seq}
use Rattle.segment_fields.specs.ControlBits.{fin, syn, rst, ack, has}
use Rattle.tas_model.specs.declared.entry.Head.{Head}
use Rattle.tas_model.specs.declared.entry.Seg.{Seg}
use Rattle.tas_model.specs.declared.entry.Phase.{Phase}
use Rattle.tas_model.specs.declared.entry.Reason.TheVariants as reasons
use Rattle.tas_model.specs.declared.entry.Call.{Call}
use Rattle.tas_model.specs.declared.entry.Call.TheVariants as calls
use Rattle.tas_model.specs.declared.entry.Reply.{Reply}
use Rattle.tas_model.specs.declared.entry.Reply.TheVariants as replies
use Rattle.tas_model.specs.declared.entry.Entry.{Entry}
use Rattle.tas_model.specs.Endpoint.{phase_by}
use Rattle.ladder_picture.specs.Labels.{behind}
use Rattle.report_picture.specs.declared.known.Known.{Known}

-- ----- numbers
-- the number that is `n` behind another one
abbrev pub plus : Seq → (n : ℕ) → Seq
plus s n = record { 0 = (s.0 + n) % 2 ^ 32 }

-- the number behind a segment that bears a FIN
abbrev pub behind_fin : Head → (len : ℕ) → Seq
behind_fin head len = plus (plus head.seq (len % 4294967296)) 1

-- ----- the state
abbrev pub nothing : Known
nothing = record {
  begun = false;
  iss = record { 0 = 0 };
  peer = None;
  scale = None;
  scaled = false;
  syn_acked = false;
  shut = false;
  fin = None;
  fin_acked = false;
  ended = false;
  ended_first = false;
  closed = false;
  next = record { 0 = 0 };
  window = 0;
  sent = 0;
}

abbrev pub first_of : Seq → ℕ
first_of s = s.0

-- The state, by the facts that an endpoint's is told by.
abbrev pub phase_of : Known → Phase
phase_of k = phase_by (if k.closed then Some reasons.Done else None) (option_map first_of k.peer)
    (if k.syn_acked then 1 else 0) k.shut k.fin_acked k.ended k.ended_first

-- ----- replies
abbrev pub is_ok : Reply → Bool
is_ok replies.Ok = true
is_ok _ = false

abbrev pub is_sent : Reply → Bool
is_sent (replies.Sent seg) = true
is_sent _ = false

-- the number that a reply acknowledges; 0 where it is no segment
abbrev pub acknowledged : Reply → Seq
acknowledged (replies.Sent seg) = seg.head.ack
acknowledged _ = record { 0 = 0 }

-- it acknowledges another number than was expected before
abbrev pub advances : (next : Seq) → Reply → Bool
advances next (replies.Sent seg) = has seg.head.flags ack && not (seg.head.ack.0 == next.0)
advances next _ = false

-- ----- a segment that came
-- In SYN-SENT: a SYN that acknowledges this side's opens the connection, and a reset that does closes it.
abbrev pub after_answer : Known → Head → Reply → Known
after_answer k head reply =
    if not (has head.flags ack) || not (head.ack.0 == (plus k.iss 1).0) then k
    else if has head.flags rst then record k { closed = true }
    else if is_sent reply && has head.flags syn then
    record k { peer = Some head.seq; scaled = is_some head.scale; syn_acked = true }
    else k

-- it is heard: one with ACK and without SYN, which begins in the window, or brings on what is expected
abbrev pub hears : Known → Head → Reply → Bool
hears k head reply = has head.flags ack && not (has head.flags syn)
    && (behind k.next head.seq == 0 || nat_lt (behind k.next head.seq) k.window || advances k.next reply)

abbrev pub acks_fin : Option Seq → Seq → Bool
acks_fin None a = false
acks_fin (Some fin) a = fin.0 == a.0

-- what its acknowledgement tells: of the SYN, and of the FIN, whose own ends LAST-ACK
abbrev pub after_ack : Known → Head → Known
after_ack k head = record k {
  syn_acked = k.syn_acked || head.ack.0 == (plus k.iss 1).0;
  fin_acked = k.fin_acked || acks_fin k.fin head.ack;
  closed = k.closed || (k.shut && k.ended_first && (k.fin_acked || acks_fin k.fin head.ack));
}

-- its FIN was taken: the reply acknowledges it anew
abbrev pub takes_fin : (next : Seq) → Head → (len : ℕ) → Reply → Bool
takes_fin next head len reply =
    has head.flags fin && advances next reply && (acknowledged reply).0 == (behind_fin head len).0

abbrev pub after_fin : Known → (next : Seq) → Head → (len : ℕ) → Reply → Known
after_fin k next head len reply =
    if takes_fin next head len reply then record k { ended = true; ended_first = not k.shut } else k

-- a reset at the number that is expected closes
abbrev pub after_rx : Known → Seg → Reply → Known
after_rx k seg reply =
    if k.closed then k
    else if not (is_some k.peer) then after_answer k seg.head reply
    else if has seg.head.flags rst then record k { closed = seg.head.seq.0 == k.next.0 }
    else if not (hears k seg.head reply) then k
    else after_fin (after_ack k seg.head) k.next seg.head (length seg.bytes) reply

-- ----- calls
abbrev pub after_call : Known → Call → Reply → Known
after_call k (calls.Connect iss) reply = record k { begun = true; iss = iss }
after_call k (calls.Passive frame iss seg) reply =
    record k {
      begun = true;
      iss = iss;
      peer = Some seg.head.seq;
      scaled = is_some seg.head.scale;
      next = plus seg.head.seq 1;
    }
after_call k (calls.Rx frame seg) reply = after_rx k seg reply
after_call k calls.Shut reply = record k { shut = k.shut || is_ok reply }
after_call k calls.Close reply = record k { shut = k.shut || is_ok reply }
after_call k calls.Abort reply = record k { closed = true }
after_call k _ reply = k

-- ----- what a reply tells by itself
-- a segment that was sent: what is expected, unless it is a reset
abbrev pub tells : Head → Bool
tells head = has head.flags ack && not (has head.flags rst)

-- the shift of its own windows: none, unless both SYN segments bore one (RFC 7323, section 2.2)
abbrev pub shift_by : (scaled : Bool) → Option ℕ → ℕ
shift_by true (Some shift) = shift
shift_by scaled shift = 0

abbrev pub shift_of : Known → ℕ
shift_of k = shift_by k.scaled k.scale

-- the window that a segment offers, in bytes: its field by the shift, but in a SYN (section 2.3)
abbrev pub window_in : Known → Head → ℕ
window_in k head = if has head.flags syn then head.window else head.window * 2 ^ min (shift_of k) 14

abbrev pub after_sent : Known → Head → (len : ℕ) → Known
after_sent k head len = record k {
  fin = if has head.flags fin then Some (behind_fin head len) else k.fin;
  next = if tells head then head.ack else k.next;
  window = if tells head then window_in k head else k.window;
  scale = if has head.flags syn then head.scale else k.scale;
  sent = min (k.sent + 1) (2 ^ 64 - 1);
}

abbrev pub after_update : Known → Option Head → Known
after_update k None = k
after_update k (Some head) = after_sent k head 0

abbrev pub after_got : Known → (count : ℕ) → Option Head → Known
after_got k count update = after_update (record k { window = min (k.window + count) (2 ^ 64 - 1) }) update

abbrev pub after_reply : Known → Reply → Known
after_reply k (replies.Sent seg) = after_sent k seg.head (length seg.bytes)
after_reply k (replies.Got bytes update) = after_got k (length bytes) update
after_reply k (replies.Closed reason) = record k { closed = true }
after_reply k replies.TimedOut = record k { closed = true }
after_reply k replies.Expired = record k { closed = true }
after_reply k _ = k

-- What is known after an entry more.
abbrev pub after : Known → Entry → Known
after k x = after_reply (after_call k x.call x.reply) x.reply
