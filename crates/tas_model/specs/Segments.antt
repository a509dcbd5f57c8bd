-- The segments that an endpoint makes, and what the fields of one that it receives say (RFC 9293, section 3.1).
use Rattle.std.specs.Prelude.{ℕ, ◌+◌, ◌*◌, ◌/◌, ◌%◌, ◌^◌, ◌==◌, Bool, [], length, None, unwrap_or, if◌then◌else◌}
use Rattle.tas_num.specs.declared.seq.Seq.{Seq}
use Rattle.tas_model.specs.declared.entry.Head.{Head}
use Rattle.tas_model.specs.declared.entry.Seg.{Seg}
use Rattle.tas_model.specs.declared.entry.Reply.{Reply}
use Rattle.tas_model.specs.declared.entry.Reply.TheVariants as replies
use Rattle.tas_model.specs.Endpoint.{Endpoint, Scaling, window_field, next_place}

-- ----- flags
-- A bit of the flags: FIN is 1, SYN 2, RST 4, PSH 8, ACK 16.
abbrev pub has : (flags bit : ℕ) → Bool
has flags bit = flags / bit % 2 == 1

abbrev pub is_fin : Seg → Bool
is_fin seg = has seg.head.flags 1

abbrev pub is_syn : Seg → Bool
is_syn seg = has seg.head.flags 2

abbrev pub is_rst : Seg → Bool
is_rst seg = has seg.head.flags 4

abbrev pub is_ack : Seg → Bool
is_ack seg = has seg.head.flags 16

abbrev pub one_if : Bool → ℕ
one_if b = if b then 1 else 0

-- SEG.LEN, the places that a segment takes: SYN and FIN count one each.
abbrev pub seg_len : Seg → ℕ
seg_len seg = length seg.bytes + one_if (is_syn seg) + one_if (is_fin seg)

-- SEG.WND, the bytes that the sender of a segment has room for: its window field, which counts units of 2^ss bytes but
-- in a SYN (RFC 7323, sections 2.2 and 2.3).
abbrev pub offered_window : Scaling → Seg → ℕ
offered_window scaling seg = if is_syn seg then seg.head.window else seg.head.window * 2 ^ scaling.ss

-- ----- sequence numbers
-- the number at a place of the direction with this first number (section 3.4)
abbrev pub seq_at : (first place : ℕ) → Seq
seq_at first place = record { 0 = (first + place) % 2 ^ 32 }

abbrev pub peer_first : Endpoint → ℕ
peer_first e = unwrap_or e.peer 0

-- the number at one of its own places
abbrev pub seq_of : Endpoint → (place : ℕ) → Seq
seq_of e place = seq_at e.iss place

-- what it acknowledges: the next place that is expected
abbrev pub ack_of : Endpoint → Seq
ack_of e = seq_at (peer_first e) (next_place e.rx)

-- ----- segments
-- a header without payload
abbrev pub bare : Head → Seg
bare head = record { head = head; bytes = [] }

-- An ACK. Its number is the highest that was sent and not the next one, so that going back to send again does not make
-- it stale.
abbrev pub ack_head : Endpoint → Head
ack_head e = record {
  flags = 16;
  seq = seq_of e e.tx.max;
  ack = ack_of e;
  window = window_field e;
  mss = None;
  scale = None;
}

abbrev pub acks : Endpoint → Reply
acks e = replies.Sent (bare (ack_head e))

-- the reset of a segment that acknowledges what was not sent: it takes its number from there (section 3.5.2)
abbrev pub resets : Seq → Reply
resets ack = replies.Sent (bare (record {
  flags = 4;
  seq = ack;
  ack = record { 0 = 0 };
  window = 0;
  mss = None;
  scale = None;
}))

-- What a segment gets where there is no connection (section 3.10.7.1): a reset that its sender takes, and nothing to a
-- reset.
abbrev pub stray_reply : Seg → Reply
stray_reply seg =
    if is_rst seg then replies.Nothing
    else if is_ack seg then resets seg.head.ack
    else replies.Sent (bare (record {
      flags = 20;
      seq = record { 0 = 0 };
      ack = record { 0 = (seg.head.seq.0 + seg_len seg) % 2 ^ 32 };
      window = 0;
      mss = None;
      scale = None;
    }))

-- ----- outcomes
-- the endpoint that a call leaves, and what it answers
pub record Outcome : Type 0 where
  pub state : Endpoint
  pub reply : Reply

-- nothing changes
abbrev pub unchanged : Endpoint → Reply → Outcome
unchanged e reply = record { state = e; reply = reply }
