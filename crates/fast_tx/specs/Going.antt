-- A piece as the model's segment, and what its sending has to leave.
use Rattle.std.specs.Prelude.{◌≡◌, ℕ, ◌+◌, ◌-◌, List, length, take, Option, Some, None}
use Rattle.tas_model.specs.Endpoint.{Endpoint}
use Rattle.tas_model.specs.Segments.{bare, one_if}
use Rattle.tas_model.specs.NextSegment.{Going, past, syn_head, going_data, going_probe, going_fin}
use Rattle.flow_state.specs.declared.parts.Parts.{Parts}
use Rattle.flow_state.specs.Stands.{Stands}
use Rattle.fast_tx.specs.declared.piece.Piece.{Piece}
use Rattle.fast_tx.specs.declared.piece.Piece.TheVariants as pieces
use Rattle.fast_tx.specs.declared.emission.Out.{Out}

-- the segment that the endpoint sends as this piece, and the endpoint after it
abbrev pub going_as : Piece → Endpoint → Going
going_as pieces.Syn e = record { seg = bare (syn_head e e.peer); after = record e { tx = past e.tx 1 } }
going_as (pieces.Data len) e = going_data e len
going_as pieces.Probe e = going_probe e
going_as pieces.Fin e = going_fin e

abbrev pub going_by : Option Piece → Endpoint → Option Going
going_by None e = None
going_by (Some piece) e = Some (going_as piece e)

-- a segment's header, and the number of its bytes
abbrev pub out_of : Going → Out
out_of g = record { head = g.seg.head; len = length g.seg.bytes }

abbrev pub next_out_of : Option Going → Option Out
next_out_of None = None
next_out_of (Some g) = Some (out_of g)

-- The segment went: `out` begins with its bytes, and the parts stand for the endpoint after it.
pub record HasGone (parts : Parts) (given : Out) (out : List ℕ) (g : Going) : Type 0 where
  pub out_is : given ≡ out_of g
  pub bytes : take given.len out ≡ g.seg.bytes
  pub after : Stands parts g.after

abbrev pub WasNext : (after : Parts) (sent : Out) (out : List ℕ) → Option Going → Type 0
WasNext after sent out None = ⊥
WasNext after sent out (Some g) = HasGone after sent out g

-- How much an endpoint has left to send: the places up to past the FIN's, and a probe that is due.
abbrev pub left_in : Endpoint → ℕ
left_in e = length e.tx.out + 2 - e.tx.nxt + one_if e.tx.probe
