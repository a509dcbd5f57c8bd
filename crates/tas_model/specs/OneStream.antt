-- What it means that the peer sends one stream: no place of it ever has two different bytes.
use Rattle.std.specs.Prelude.{◌≡◌, ℕ, ◌+◌, ◌-◌, ◌%◌, ◌^◌, ◌≤◌, true, false, List, [], ◌∷◌, ◌++◌, length, take, drop}
use Rattle.std.specs.Prelude.{max, Option, Some, None, ⊤}
use Rattle.tas_num.specs.Places.{raised}
use Rattle.tas_model.specs.declared.entry.HostParams.{HostParams}
use Rattle.tas_model.specs.declared.entry.Phase.{Phase}
use Rattle.tas_model.specs.declared.entry.Phase.TheVariants as phases
use Rattle.tas_model.specs.declared.entry.Seg.{Seg}
use Rattle.tas_model.specs.declared.entry.Entry.{Entry}
use Rattle.tas_model.specs.declared.entry.Call.{Call}
use Rattle.tas_model.specs.declared.entry.Call.TheVariants as calls
use Rattle.tas_model.specs.Endpoint.{Endpoint, Receiving, Island, phase, next_place}
use Rattle.tas_model.specs.Segments.{Outcome, is_fin, is_syn, peer_first}
use Rattle.tas_model.specs.LegalHistory.{Along, replay}

-- These bytes stand in the stream, the first of them at this index.
abbrev pub StandsIn : (stream : List ℕ) (at : ℕ) (bytes : List ℕ) → Type 0
StandsIn stream at bytes = take (length bytes) (drop at stream) ≡ bytes

abbrev pub IsPrefixOf : List ℕ → List ℕ → Type 0
IsPrefixOf xs ys = (rest : List ℕ) × (xs ++ rest ≡ ys)

-- ----- one segment
-- 2^32 more than the place of the segment's first number, since that may be negative.
abbrev pub raised_place : Endpoint → Seg → ℕ
raised_place e seg = raised (next_place e.rx) ((seg.head.seq.0 + (2 ^ 32 - peer_first e)) % 2 ^ 32)

-- The segment, whose first number has the raised place `from`, says nothing else than the stream: its bytes at places
-- from r on stand there, byte i of the stream at place 1 + i, and a FIN from r on follows the stream's last byte.
pub record Says (stream : List ℕ) (r from : ℕ) (seg : Seg) : Type 0 where
  pub bytes : StandsIn stream (max from (r + 2 ^ 32) - 2 ^ 32 - 1) (drop (r + 2 ^ 32 - from) seg.bytes)
  pub fin : is_fin seg ≡ true → r + 2 ^ 32 ≤ from + length seg.bytes
      → from + length seg.bytes ≡ length stream + 1 + 2 ^ 32

-- past SYN-SENT and before CLOSED
abbrev pub IsSynchronized : Phase → Type 0
IsSynchronized phases.SynSent = ⊥
IsSynchronized phases.Closed = ⊥
IsSynchronized _ = ⊤

-- A call is of the stream: a segment without SYN says nothing else, where there is a connection.
abbrev pub IsOfStream : (stream : List ℕ) → Endpoint → Call → Type 0
IsOfStream stream e (calls.Rx frame seg) = is_syn seg ≡ false → IsSynchronized (phase e)
    → Says stream (next_place e.rx) (raised_place e seg) seg
IsOfStream stream e _ = ⊤

-- ----- a history
abbrev pub OneStreamAfter : HostParams → (stream : List ℕ) → (earlier xs : List Entry) → Type 0
OneStreamAfter params stream earlier xs = Along (λ before x. IsOfStream stream (replay params before) x.call) earlier xs

-- The peer sends one stream. Of the first entry, which opens, nothing is asked.
abbrev pub OneStream : HostParams → (stream : List ℕ) → List Entry → Type 0
OneStream params stream [] = ⊤
OneStream params stream (x ∷ xs) = OneStreamAfter params stream (x ∷ []) xs

-- ----- an endpoint
abbrev pub IslandIn : (stream : List ℕ) → Option Island → Type 0
IslandIn stream None = ⊤
IslandIn stream (Some i) = StandsIn stream i.at i.bytes

-- All that was received is the stream's, and the whole stream where the peer ended.
pub record InStream (stream : List ℕ) (rx : Receiving) : Type 0 where
  pub got : StandsIn stream 0 rx.got
  pub island : IslandIn stream rx.island
  pub ended : rx.ended ≡ true → rx.got ≡ stream

abbrev pub LeavesIn : (stream : List ℕ) → Option Outcome → Type 0
LeavesIn stream None = ⊤
LeavesIn stream (Some o) = InStream stream o.state.rx
