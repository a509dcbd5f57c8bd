-- What an endpoint is, the phase that it is in, and the endpoint that a connection begins with (RFC 9293, sections 3.3
-- and 3.4; RFC 7323, section 2).
use Rattle.std.specs.Prelude.{ℕ, ◌+◌, ◌-◌, ◌*◌, ◌/◌, ◌^◌, ◌==◌, not, ◌&&◌, Bool, true, false, List, [], length, nat_lt}
use Rattle.std.specs.Prelude.{min, max}
use Rattle.std.specs.Prelude.{Option, Some, None, is_some, unwrap_or, if◌then◌else◌}
use Rattle.tas_num.specs.Control.{refill}
use Rattle.tas_model.specs.declared.entry.HostParams.{HostParams}
use Rattle.tas_model.specs.declared.entry.Phase.{Phase}
use Rattle.tas_model.specs.declared.entry.Phase.TheVariants.{SynSent, SynReceived, Established, FinWait1, FinWait2}
use Rattle.tas_model.specs.declared.entry.Phase.TheVariants.{CloseWait, Closing, LastAck, TimeWait, Closed}
use Rattle.tas_model.specs.declared.entry.Reason.{Reason}

-- ----- the facts of an endpoint
-- Both directions are whole lists of bytes, and the places in them are unbounded. Each direction counts from its first
-- sequence number: the SYN is place 0, byte i of the stream is place 1 + i, and the FIN follows the last byte.

-- What this side sends (the send sequence variables of section 3.3.1), and its timer.
pub record Sending : Type 0 where
  pub out : List ℕ  -- all bytes that were accepted for sending
  pub una : ℕ  -- SND.UNA: the first place that is not acknowledged
  pub nxt : ℕ  -- SND.NXT: the place that is sent next
  pub max : ℕ  -- one past the highest place ever sent
  pub shut : Bool  -- the application ended the stream: a FIN follows the last byte
  pub window : ℕ  -- SND.WND: bytes that the peer has room for, its shift included
  pub wl1 : ℕ  -- SND.WL1: the place of the segment that the window is from
  pub wl2 : ℕ  -- SND.WL2: the place that this segment acknowledged
  pub dup : ℕ  -- duplicate acknowledgements since the last advance (RFC 5681, section 2), 3 at most
  pub age : ℕ  -- ticks that the timer has run
  pub tries : ℕ  -- how often the timer ran out since the last progress
  pub probe : Bool  -- a probe of the peer's window is due (section 3.8.6.1)

-- A stretch of bytes past a gap: `at` is the index of its first byte in the stream, whose place is 1 more.
pub record Island : Type 0 where
  pub at : ℕ
  pub bytes : List ℕ

-- What this side receives (the receive sequence variables of section 3.3.1).
pub record Receiving : Type 0 where
  pub got : List ℕ  -- all bytes that were received in order
  pub read : ℕ  -- how many of them the application has read
  pub island : Option Island  -- what was received past a gap, one stretch at most
  pub ended : Bool  -- the peer's FIN was taken in order
  pub ended_first : Bool  -- it was taken before this side ended its stream

-- How fast it may send (RFC 5681, section 3): all in bytes, but for the two counts.
pub record Rate : Type 0 where
  pub mss : ℕ  -- the largest payload that is sent
  pub cwnd : ℕ  -- the congestion window
  pub ssthresh : ℕ  -- the slow start threshold
  pub tokens : ℕ  -- what the bucket holds: bytes that may go now
  pub depth : ℕ  -- what the bucket holds at most
  pub fill : ℕ  -- what a tick adds to the bucket
  pub acked : ℕ  -- places acknowledged since the last Control
  pub fast : ℕ  -- fast retransmissions since then, a count
  pub timeouts : ℕ  -- timeouts since then, a count

-- How windows are scaled (RFC 7323, sections 2.2 and 2.3): not at all, unless both SYN segments bore the option.
pub record Scaling : Type 0 where
  pub agreed : Bool  -- both SYN segments bore it
  pub ss : ℕ  -- Snd.Wind.Shift: a window that comes counts units of 2^ss bytes
  pub rs : ℕ  -- Rcv.Wind.Shift: a window that goes counts units of 2^rs bytes

pub record Endpoint : Type 0 where
  pub params : HostParams
  pub iss : ℕ  -- its own first sequence number
  pub peer : Option ℕ  -- the peer's first sequence number, once its SYN was taken
  pub scaling : Scaling
  pub tx : Sending
  pub rx : Receiving
  pub rate : Rate
  pub entered : ℕ  -- the tick at which TIME-WAIT began
  pub reason : Option Reason  -- why it is closed, where it is

-- ----- the phase
-- the FIN, at place |out| + 1, is acknowledged
abbrev pub is_fin_acked : Sending → Bool
is_fin_acked tx = tx.una == length tx.out + 2

-- The phase once the peer's SYN was taken: by whether this side's SYN is acknowledged, and which sides ended.
-- It takes the facts that it reads and not the records, so that another fact's change leaves the phase as it is.
abbrev pub synchronized : (una : ℕ) (shut fin_acked ended ended_first : Bool) → Phase
synchronized una shut fin_acked ended ended_first =
    if una == 0 then SynReceived
    else if shut then (
    if ended then (if ended_first then LastAck else if fin_acked then TimeWait else Closing)
    else if fin_acked then FinWait2 else FinWait1)
    else if ended then CloseWait else Established

-- The phase: CLOSED with a reason, SYN-SENT without the peer's SYN.
abbrev pub phase_by : Option Reason → Option ℕ → (una : ℕ) (shut fin_acked ended ended_first : Bool) → Phase
phase_by (Some why) peer una shut fin_acked ended ended_first = Closed
phase_by None None una shut fin_acked ended ended_first = SynSent
phase_by None (Some first) una shut fin_acked ended ended_first = synchronized una shut fin_acked ended ended_first

-- The state of the connection (section 3.3.2).
abbrev pub phase : Endpoint → Phase
phase e = phase_by e.reason e.peer e.tx.una e.tx.shut (is_fin_acked e.tx) e.rx.ended e.rx.ended_first

abbrev pub is_closed : Endpoint → Bool
is_closed e = is_some e.reason

-- its own SYN is acknowledged, and the peer's was taken
abbrev pub is_past_opening : Endpoint → Bool
is_past_opening e = is_some e.peer && not (e.tx.una == 0)

-- ----- room
-- bytes received in order and not read
abbrev pub unread : Receiving → ℕ
unread rx = length rx.got - rx.read

-- room for more of the peer's bytes
abbrev pub free : Endpoint → ℕ
free e = e.params.ring - unread e.rx

-- RCV.WND, the window in which bytes are taken: no more than the 16 bits of a header can show, by the own shift
abbrev pub wnd : Endpoint → ℕ
wnd e = min (free e) (65535 * 2 ^ e.scaling.rs)

-- The window as a header shows it: in units of 2^rs bytes, rounded down, so that no more is offered than there is (RFC
-- 7323, section 2.3). In a SYN it is never scaled (section 2.2).
abbrev pub window_field : Endpoint → ℕ
window_field e = wnd e / 2 ^ e.scaling.rs

abbrev pub syn_window_field : Endpoint → ℕ
syn_window_field e = min (free e) 65535

-- RCV.NXT, the next place that is expected of the peer
abbrev pub next_place : Receiving → ℕ
next_place rx = 1 + length rx.got + (if rx.ended then 1 else 0)

-- bytes accepted and not acknowledged
abbrev pub unacked : Sending → ℕ
unacked tx = length tx.out - (tx.una - 1)

-- room for more bytes to send
abbrev pub send_room : Endpoint → ℕ
send_room e = e.params.ring - unacked e.tx

-- ----- the scaling of windows
abbrev pub unscaled : Scaling
unscaled = record { agreed = false; ss = 0; rs = 0 }

-- The shifts once the peer's SYN is taken: where it bore the option, and this side's does too, each side's windows have
-- its own shift (RFC 7323, section 2.2). A shift above 14 is read as 14 (section 2.3).
abbrev pub agreed_scaling : (own theirs : Option ℕ) → Scaling
agreed_scaling (Some own) (Some theirs) = record { agreed = true; ss = min theirs 14; rs = own }
agreed_scaling _ _ = unscaled

-- ----- the opened endpoint
-- Nothing was sent or received.
abbrev pub fresh_sending : Sending
fresh_sending = record {
  out = [];
  una = 0;
  nxt = 0;
  max = 0;
  shut = false;
  window = 0;
  wl1 = 0;
  wl2 = 0;
  dup = 0;
  age = 0;
  tries = 0;
  probe = false;
}

abbrev pub fresh_receiving : Receiving
fresh_receiving = record { got = []; read = 0; island = None; ended = false; ended_first = false }

-- Before the peer's SYN there is no rate yet, but for the threshold.
abbrev pub fresh_rate : Rate
fresh_rate = record {
  mss = 0;
  cwnd = 0;
  ssthresh = 65535;
  tokens = 0;
  depth = 0;
  fill = 0;
  acked = 0;
  fast = 0;
  timeouts = 0;
}

-- The endpoint of a connection that has just begun, with this first sequence number.
abbrev pub fresh : HostParams → ℕ → Endpoint
fresh params iss = record {
  params = params;
  iss = iss;
  peer = None;
  scaling = unscaled;
  tx = fresh_sending;
  rx = fresh_receiving;
  rate = fresh_rate;
  entered = 0;
  reason = None;
}

-- The largest payload that is sent: the lesser of both sides' MSS, 536 where the peer's SYN has none (section 3.7.1),
-- and 64 at least.
abbrev pub send_mss : HostParams → Option ℕ → ℕ
send_mss params theirs = max 64 (min params.mss (unwrap_or theirs 536))

-- The initial window (RFC 5681, section 3.1): 2, 3 or 4 segments by their size. Where it is fixed, it is as large as a
-- window may be.
abbrev pub first_cwnd : (fixed : Bool) (mss : ℕ) → ℕ
first_cwnd fixed mss = if fixed then 65535 else if nat_lt 2190 mss then 2 * mss else if nat_lt 1095 mss then 3 * mss
    else 4 * mss

-- The rate once the peer's SYN is taken: the bucket is full.
abbrev pub first_rate : HostParams → (theirs : Option ℕ) → Rate
first_rate params theirs =
    let mss : ℕ = send_mss params theirs in
    let cwnd : ℕ = first_cwnd params.fixed mss in
    record {
      mss = mss;
      cwnd = cwnd;
      ssthresh = 65535;
      tokens = cwnd;
      depth = cwnd;
      fill = refill mss cwnd;
      acked = 0;
      fast = 0;
      timeouts = 0;
    }

-- ----- counters
-- a counter stops at the largest number of 32 bits
abbrev pub counted : ℕ → ℕ
counted n = min n (2 ^ 32 - 1)

-- counters are 0 from when the flow leaves its opening
abbrev pub uncounted : Rate → Rate
uncounted r = record r { acked = 0; fast = 0; timeouts = 0 }
