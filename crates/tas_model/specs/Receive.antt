-- What a received segment does (RFC 9293, section 3.10.7; RFC 5681, section 2; RFC 7323, section 2).
--
-- Past SYN-SENT its checks are those of section 3.10.7.4, in their order and named by their numbers there: first the
-- sequence number, second RST, fourth SYN, fifth ACK, seventh the text, eighth FIN. The third, security, and the sixth,
-- URG, are left out of this profile.
use Rattle.std.specs.Prelude.{ℕ, ◌+◌, ◌-◌, ◌%◌, ◌^◌, ◌==◌, ◌&&◌, ◌||◌, not, Bool, true, false, length, nat_lt, nat_le}
use Rattle.std.specs.Prelude.{min, max, Option, Some, None, unwrap_or, if◌then◌else◌}
use Rattle.tas_num.specs.Places.{nearest}
use Rattle.tas_model.specs.declared.entry.Phase.{Phase}
use Rattle.tas_model.specs.declared.entry.Phase.TheVariants as phases
use Rattle.tas_model.specs.declared.entry.Reason.TheVariants as reasons
use Rattle.tas_model.specs.declared.entry.Seg.{Seg}
use Rattle.tas_model.specs.declared.entry.Reply.TheVariants as replies
use Rattle.tas_model.specs.Endpoint.{Endpoint, Sending, Receiving, Rate, phase, wnd, next_place, is_fin_acked, counted}
use Rattle.tas_model.specs.Endpoint.{uncounted, first_rate, agreed_scaling}
use Rattle.tas_model.specs.Segments.{Outcome, unchanged, is_fin, is_syn, is_rst, is_ack, seg_len, peer_first, acks}
use Rattle.tas_model.specs.Segments.{resets, stray_reply, offered_window}
use Rattle.tas_model.specs.Reassembly.{with_data}

-- ----- places
-- The place of the segment's first number: the nearest to the next place that is expected. None where it is negative.
abbrev pub place_of_seq : Endpoint → Seg → Option ℕ
place_of_seq e seg = nearest (next_place e.rx) ((seg.head.seq.0 + (2 ^ 32 - peer_first e)) % 2 ^ 32)

-- The place that it acknowledges: the nearest to the highest that was sent. A negative one counts as 0, below all that
-- was sent.
abbrev pub place_of_ack : Endpoint → Seg → ℕ
place_of_ack e seg = unwrap_or (nearest e.tx.max ((seg.head.ack.0 + (2 ^ 32 - e.iss)) % 2 ^ 32)) 0

-- ----- first, second and fourth, and the first half of the fifth: which segments are heard
pub data Verdict : Type 0 where
  Dropped : Verdict  -- nothing changes, and there is no reply
  Answered : Verdict  -- nothing changes, and an ACK is the reply
  Reset : Verdict  -- the peer resets the connection
  BareAck : Verdict  -- past a window of 0: its ACK alone is heard
  Taken : (q : ℕ) → Verdict  -- it is heard; q is the place of its first number

-- a place in the window that is open to the peer
abbrev pub is_within : (r window q : ℕ) → Bool
is_within r window q = nat_le r q && nat_lt q (r + window)

-- First: the segment that takes `len` places from q on is acceptable where one of its ends lies in the window
-- (section 3.10.7.4, the table).
abbrev pub is_acceptable : (r window q len : ℕ) → Bool
is_acceptable r window q len =
    if len == 0 then (if window == 0 then q == r else is_within r window q)
    else is_within r window q || is_within r window (q + len - 1)

-- the answer to a segment that is not acceptable: none to a reset
abbrev pub refused : Seg → Verdict
refused seg = if is_rst seg then Dropped else Answered

-- First: it is acceptable, or one that comes to a window of 0 in order. Second: a reset exactly at r resets, another
-- one in the window is asked for again (RFC 5961). Fourth: a SYN is answered by an ACK. Fifth: without ACK it is
-- dropped.
abbrev pub verdict_at : (r window q : ℕ) → Seg → Verdict
verdict_at r window q seg =
    if not (is_acceptable r window q (seg_len seg)) then (
    if window == 0 && q == r && not (is_rst seg) && not (is_syn seg) then BareAck else refused seg)
    else if is_rst seg then (if q == r then Reset else Answered)
    else if is_syn seg then Answered
    else if is_ack seg then Taken q
    else Dropped

-- a negative place is not acceptable
abbrev pub verdict_of_place : Option ℕ → (r window : ℕ) → Seg → Verdict
verdict_of_place None r window seg = refused seg
verdict_of_place (Some q) r window seg = verdict_at r window q seg

abbrev pub verdict : Endpoint → Seg → Verdict
verdict e seg = verdict_of_place (place_of_seq e seg) (next_place e.rx) (wnd e) seg

-- ----- fifth: the place that is acknowledged
pub data AckVerdict : Type 0 where
  Stray : AckVerdict  -- a reset is the reply, and nothing changes
  TooFar : AckVerdict  -- an ACK is the reply, and nothing changes
  Good : AckVerdict

-- In SYN-RECEIVED it must acknowledge the SYN; elsewhere it must not acknowledge what was not sent.
abbrev pub ack_verdict : Sending → (a : ℕ) → AckVerdict
ack_verdict tx a =
    if tx.una == 0 then (if nat_le 1 a && nat_le a tx.max then Good else Stray)
    else if nat_lt tx.max a then TooFar else Good

-- A duplicate acknowledgement (RFC 5681, section 2): with data in flight, it acknowledges and offers the same again and
-- takes no place.
abbrev pub is_duplicate : Sending → (a len window : ℕ) → Bool
is_duplicate tx a len window = nat_lt tx.una tx.max && nat_lt 0 tx.window && len == 0 && a == tx.una
    && window == tx.window

-- Each one counts, and the third goes back to the first place that is not acknowledged (RFC 5681, section 3.2).
abbrev pub after_duplicate : Sending → (a len window : ℕ) → Sending
after_duplicate tx a len window =
    if is_duplicate tx a len window then record tx {
      dup = min 3 (tx.dup + 1);
      nxt = if tx.dup == 2 then tx.una
          else tx.nxt;
    } else tx

-- what is acknowledged for the first time
abbrev pub after_advance : Sending → (a : ℕ) → Sending
after_advance tx a = if nat_lt tx.una a then record tx { una = a; nxt = max tx.nxt a; dup = 0; age = 0; tries = 0 }
    else tx

-- The segment is at least as new as the one that the window is from; the first one after the SYN always is.
abbrev pub moves_window : Sending → (a q : ℕ) → Bool
moves_window tx a q = tx.una == 0 || (nat_le tx.una a && (nat_lt tx.wl1 q || (tx.wl1 == q && nat_le tx.wl2 a)))

-- The peer's new window. One that opens stops the probing, and a window of 0 is waited on without end.
abbrev pub with_window : Sending → (a q window : ℕ) → Sending
with_window tx a q window =
    let opens : Bool = tx.window == 0 && nat_lt 0 window in
    record tx {
      window = window;
      wl1 = q;
      wl2 = a;
      age = if opens then 0 else tx.age;
      probe = if opens then false else tx.probe;
      tries = if window == 0 then 0 else tx.tries;
    }

-- Fifth, on what is sent: duplicate, advance, window, in this order.
abbrev pub sending_after : Sending → (a q len window : ℕ) → Sending
sending_after tx a q len window =
    let moved : Sending = after_advance (after_duplicate tx a len window) a in
    if moves_window tx a q then with_window moved a q window else moved

-- Fifth, on the counters: the place of the SYN is not counted.
abbrev pub rate_after : Rate → Sending → (a len window : ℕ) → Rate
rate_after r tx a len window =
    if tx.una == 0 then uncounted r
    else record r {
      acked = if nat_lt tx.una a then counted (r.acked + (a - tx.una)) else r.acked;
      fast = if is_duplicate tx a len window && tx.dup == 2 then counted (r.fast + 1) else r.fast;
    }

-- the acknowledgement of the FIN ends LAST-ACK
abbrev pub closes : Phase → Sending → Bool
closes phases.LastAck tx = is_fin_acked tx
closes _ tx = false

-- and turns CLOSING into TIME-WAIT
abbrev pub begins_wait : Phase → Sending → Bool
begins_wait phases.Closing tx = is_fin_acked tx
begins_wait _ tx = false

-- The fifth check whole.
abbrev pub after_ack : Endpoint → (tick a q len window : ℕ) → Endpoint
after_ack e tick a q len window =
    let tx : Sending = sending_after e.tx a q len window in
    record e {
      tx = tx;
      rate = rate_after e.rate e.tx a len window;
      reason = if closes (phase e) tx then Some reasons.Done else e.reason;
      entered = if begins_wait (phase e) tx then tick else e.entered;
    }

-- ----- eighth: the FIN
-- It is taken where the whole payload fitted and it stands at the next place after the text was taken.
abbrev pub takes_fin : (before after : Receiving) → (window q len : ℕ) → (fin : Bool) → Bool
takes_fin before after window q len fin =
    fin && not before.ended && nat_le (q + len) (next_place before + window) && q + len == 1 + length after.got

abbrev pub with_fin : Receiving → (shut : Bool) → Receiving
with_fin rx shut = record rx { ended = true; ended_first = not shut; island = None }

abbrev pub is_fin_wait_2 : Phase → Bool
is_fin_wait_2 phases.FinWait2 = true
is_fin_wait_2 _ = false

-- Seventh and eighth. The FIN turns FIN-WAIT-2 into TIME-WAIT.
abbrev pub after_data : Endpoint → (tick window q : ℕ) → Seg → Endpoint
after_data e tick window q seg =
    let rx : Receiving = with_data e.rx window q seg.bytes in
    if takes_fin e.rx rx window q (length seg.bytes) (is_fin seg)
    then record e { rx = with_fin rx e.tx.shut; entered = if is_fin_wait_2 (phase e) then tick else e.entered }
    else record e { rx = rx }

-- ----- all checks
-- the segment has payload or FIN, and so gets an answer
abbrev pub is_heard : Seg → Bool
is_heard seg = nat_lt 0 (length seg.bytes) || is_fin seg

-- fifth, seventh and eighth
abbrev pub taken : Endpoint → (tick q : ℕ) → Seg → AckVerdict → Outcome
taken e tick q seg Stray = unchanged e (resets seg.head.ack)
taken e tick q seg TooFar = unchanged e (acks e)
taken e tick q seg Good =
    let acked : Endpoint = after_ack e tick (place_of_ack e seg) q (seg_len seg) (offered_window e.scaling seg) in
    let after : Endpoint = after_data acked tick (wnd e) q seg in
    record { state = after; reply = if is_heard seg then acks after else replies.Nothing }

-- The fifth alone, of a segment that a window of 0 has no room for. Its own length counts, so that it is no duplicate.
abbrev pub bare_ack : Endpoint → (tick : ℕ) → Seg → AckVerdict → Outcome
bare_ack e tick seg Stray = unchanged e (resets seg.head.ack)
bare_ack e tick seg TooFar = unchanged e (acks e)
bare_ack e tick seg Good =
    let after : Endpoint = after_ack e tick (place_of_ack e seg) (next_place e.rx) (seg_len seg)
    (offered_window e.scaling seg) in
    record { state = after; reply = acks after }

abbrev pub by_verdict : Endpoint → (tick : ℕ) → Seg → Verdict → Outcome
by_verdict e tick seg Dropped = unchanged e replies.Nothing
by_verdict e tick seg Answered = unchanged e (acks e)
by_verdict e tick seg Reset = record { state = record e { reason = Some reasons.Reset }; reply = replies.Nothing }
by_verdict e tick seg BareAck =
    if is_ack seg then bare_ack e tick seg (ack_verdict e.tx (place_of_ack e seg)) else unchanged e (acks e)
by_verdict e tick seg (Taken q) = taken e tick q seg (ack_verdict e.tx (place_of_ack e seg))

-- Past SYN-SENT and before CLOSED (section 3.10.7.4).
unfoldable pub rx_later : Endpoint → (tick : ℕ) → Seg → Outcome
rx_later e tick seg = by_verdict e tick seg (verdict e seg)

-- ----- SYN-SENT (section 3.10.7.3)
-- The peer's SYN, which acknowledges this side's; its payload and FIN are ignored. Its own window is never scaled.
abbrev pub connected : Endpoint → Seg → Endpoint
connected e seg =
    record e {
      peer = Some seg.head.seq.0;
      scaling = agreed_scaling e.params.scale seg.head.scale;
      tx = record (e.tx) {
        una = 1;
        nxt = max e.tx.nxt 1;
        window = offered_window e.scaling seg;
        wl1 = 0;
        wl2 = 1;
        age = 0;
        tries = 0;
      };
      rate = first_rate e.params seg.head.mss;
    }

-- First the ACK, then the reset, then the SYN; all else is dropped.
unfoldable pub rx_syn_sent : Endpoint → Seg → Outcome
rx_syn_sent e seg =
    if is_ack seg && not (place_of_ack e seg == 1 && nat_le 1 e.tx.max)
    then unchanged e (if is_rst seg then replies.Nothing else resets seg.head.ack)
    else if is_rst seg then record {
      state = if is_ack seg then record e { reason = Some reasons.Refused } else e;
      reply = replies.Nothing;
    }
    else if is_syn seg && is_ack seg then record { state = connected e seg; reply = acks (connected e seg) }
    else unchanged e replies.Nothing

-- ----- by phase
abbrev pub rx_in : Phase → Endpoint → (tick : ℕ) → Seg → Outcome
rx_in phases.Closed e tick seg = unchanged e (stray_reply seg)
rx_in phases.SynSent e tick seg = rx_syn_sent e seg
rx_in _ e tick seg = rx_later e tick seg

-- A segment arrives.
unfoldable pub rx : Endpoint → (tick : ℕ) → Seg → Outcome
rx e tick seg = rx_in (phase e) e tick seg
