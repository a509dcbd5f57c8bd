-- What a history gave: the segments that it sent, the bytes that were accepted and those that were read.
use Rattle.std.specs.Prelude.{◌≡◌, ℕ, ◌+◌, ◌-◌, ◌≤◌, true, false, List, [], ◌∷◌, ◌++◌, length, flat_map, Some, ⊤}
use Rattle.tas_model.specs.declared.entry.HostParams.{HostParams}
use Rattle.tas_model.specs.declared.entry.Entry.{Entry}
use Rattle.tas_model.specs.declared.entry.Head.{Head}
use Rattle.tas_model.specs.declared.entry.Seg.{Seg}
use Rattle.tas_model.specs.declared.entry.Reply.{Reply}
use Rattle.tas_model.specs.declared.entry.Reply.TheVariants as replies
use Rattle.tas_model.specs.Endpoint.{Endpoint}
use Rattle.tas_model.specs.Segments.{has, is_fin, seq_at, ack_of, bare}
use Rattle.tas_model.specs.Receive.{is_heard}
use Rattle.tas_model.specs.OneStream.{StandsIn}
use Rattle.tas_model.specs.LegalHistory.{Along, replay, taken_bytes}

-- ----- segments
-- the segments of a reply: the one that is sent, or the update of a Recv
abbrev pub segments_in : Reply → List Seg
segments_in (replies.Sent seg) = seg ∷ []
segments_in (replies.Got bytes (Some head)) = bare head ∷ []
segments_in _ = []

-- All segments that were sent, in order.
abbrev pub sent : List Entry → List Seg
sent h = flat_map (λ x. segments_in x.reply) h

-- ----- bytes
-- All bytes that were accepted for sending.
abbrev pub accepted : List Entry → List ℕ
accepted h = flat_map (λ x. taken_bytes x.reply) h

abbrev pub given_bytes : Reply → List ℕ
given_bytes (replies.Got bytes update) = bytes
given_bytes _ = []

-- All bytes that were read.
abbrev pub bytes_read : List Entry → List ℕ
bytes_read h = flat_map (λ x. given_bytes x.reply) h

-- ----- the stream that is sent
-- The segment, of a direction with this first number, says nothing but the stream: its bytes stand there, byte i of the
-- stream at place 1 + i, and its FIN follows the last byte.
pub record SaysPart (first : ℕ) (stream : List ℕ) (seg : Seg) : Type 0 where
  pub place : ℕ
  pub begins : 1 ≤ place
  pub seq : seg.head.seq ≡ seq_at first place
  pub bytes : StandsIn stream (place - 1) seg.bytes
  pub fin : is_fin seg ≡ true → place + length seg.bytes ≡ 1 + length stream

-- so does each of them that has payload or FIN
abbrev pub AllSay : (first : ℕ) (stream : List ℕ) → List Seg → Type 0
AllSay first stream [] = ⊤
AllSay first stream (seg ∷ segs) = (is_heard seg ≡ true → SaysPart first stream seg) × AllSay first stream segs

-- ----- acknowledgements
-- A segment with ACK and without RST acknowledges the next place that is expected.
abbrev pub AcksNext : Endpoint → Head → Type 0
AcksNext e head = has head.flags 16 ≡ true → has head.flags 4 ≡ false → head.ack ≡ ack_of e

abbrev pub AllAckNext : Endpoint → List Seg → Type 0
AllAckNext e [] = ⊤
AllAckNext e (seg ∷ segs) = AcksNext e seg.head × AllAckNext e segs

-- Each segment that the history sent acknowledges the next place of its entry.
abbrev pub AcksInOrder : HostParams → List Entry → Type 0
AcksInOrder params h = Along (λ earlier x. AllAckNext (replay params (earlier ++ x ∷ [])) (segments_in x.reply)) [] h
