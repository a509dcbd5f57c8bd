-- Which segment may go next, and the endpoint once it went (RFC 9293, sections 3.7 and 3.8; RFC 5681, section 3.1).
use Rattle.std.specs.Prelude.{ℕ, ◌+◌, ◌-◌, ◌==◌, ◌&&◌, false, length, take, drop, nat_lt, min, max, Option, Some, None}
use Rattle.std.specs.Prelude.{if◌then◌else◌}
use Rattle.tas_model.specs.declared.entry.Head.{Head}
use Rattle.tas_model.specs.declared.entry.Seg.{Seg}
use Rattle.tas_model.specs.declared.entry.Reply.TheVariants as replies
use Rattle.tas_model.specs.Endpoint.{Endpoint, Sending, window_field, syn_window_field}
use Rattle.tas_model.specs.Segments.{Outcome, bare, seq_of, ack_of}
use Rattle.tas_model.specs.ApplicationCalls.{Column, Opening, Over, Running, column}

-- ----- the segments
-- The SYN, or SYN and ACK once the peer's was taken: with the own MSS (section 3.7.1), and the own shift where it is
-- given. The second bears it only where the first did (RFC 7323, section 2.2).
abbrev pub syn_head : Endpoint → (peer : Option ℕ) → Head
syn_head e None = record {
  flags = 2;
  seq = seq_of e 0;
  ack = record { 0 = 0 };
  window = syn_window_field e;
  mss = Some e.params.mss;
  scale = e.params.scale;
}
syn_head e (Some first) = record {
  flags = 18;
  seq = seq_of e 0;
  ack = ack_of e;
  window = syn_window_field e;
  mss = Some e.params.mss;
  scale = if e.scaling.agreed then e.params.scale else None;
}

-- bytes that wait to be sent, from the next place on
abbrev pub waiting : Sending → ℕ
waiting tx = length tx.out - (tx.nxt - 1)

-- How many bytes may go: a segment's, those that wait, what the peer's window and the congestion window leave, and what
-- the bucket holds.
abbrev pub data_len : Endpoint → ℕ
data_len e = min e.rate.mss (min (waiting e.tx)
    (min (e.tx.una + e.tx.window - e.tx.nxt) (min (e.tx.una + e.rate.cwnd - e.tx.nxt) e.rate.tokens)))

-- The next n bytes: byte i of the stream has place 1 + i. PSH where they end all that was accepted.
abbrev pub data_seg : Endpoint → (n : ℕ) → Seg
data_seg e n =
    record {
      head = record {
        flags = if n == waiting e.tx then 24 else 16;
        seq = seq_of e e.tx.nxt;
        ack = ack_of e;
        window = window_field e;
        mss = None;
        scale = None;
      };
      bytes = take n (drop (e.tx.nxt - 1) e.tx.out);
    }

abbrev pub fin_seg : Endpoint → Seg
fin_seg e = bare (record {
  flags = 17;
  seq = seq_of e e.tx.nxt;
  ack = ack_of e;
  window = window_field e;
  mss = None;
  scale = None;
})

-- ----- what goes
-- the segment, and the endpoint after it
pub record Going : Type 0 where
  pub seg : Seg
  pub after : Endpoint

-- n places more are sent
abbrev pub past : Sending → (n : ℕ) → Sending
past tx n = record tx { nxt = tx.nxt + n; max = max tx.max (tx.nxt + n) }

-- Rule 1: in the opening the SYN, and nothing else.
abbrev pub going_opening : Endpoint → Option Going
going_opening e = if e.tx.nxt == 0
    then Some (record { seg = bare (syn_head e e.peer); after = record e { tx = past e.tx 1 } }) else None

-- Rule 2: data, which the bucket pays for.
abbrev pub going_data : Endpoint → (n : ℕ) → Going
going_data e n = record {
  seg = data_seg e n;
  after = record e { tx = past e.tx n; rate = record (e.rate) { tokens = e.rate.tokens - n } };
}

-- Rule 3: a probe of one byte at a window of 0 (section 3.8.6.1). It stays the next place, so that it is sent again.
abbrev pub going_probe : Endpoint → Going
going_probe e = record {
  seg = data_seg e 1;
  after = record e { tx = record (e.tx) { probe = false; max = max e.tx.max (e.tx.nxt + 1) } };
}

-- Rule 4: the FIN, once all bytes were sent.
abbrev pub going_fin : Endpoint → Going
going_fin e = record { seg = fin_seg e; after = record e { tx = past e.tx 1 } }

-- the first of rules 2 to 4 that applies
abbrev pub going_running : Endpoint → Option Going
going_running e =
    if nat_lt 0 (data_len e) then Some (going_data e (data_len e))
    else if e.tx.probe && e.tx.window == 0 && e.tx.nxt == e.tx.una && nat_lt 0 (waiting e.tx) then Some (going_probe e)
    else if e.tx.shut && e.tx.nxt == 1 + length e.tx.out then Some (going_fin e)
    else None

abbrev pub going_in : Column → Endpoint → Option Going
going_in Opening e = going_opening e
going_in (Over why) e = None
going_in Running e = going_running e

-- The next segment, where there is one.
unfoldable pub going : Endpoint → Option Going
going e = going_in (column e) e

-- the step of Emit
abbrev pub emitted : Option Going → Option Outcome
emitted None = None
emitted (Some g) = Some (record { state = g.after; reply = replies.Sent g.seg })
