-- Which segment goes next, told by the compact record alone. Its numbers are kept modulo 2^32, so the rules of the
-- model are said of differences here.
use Rattle.std.specs.Prelude.{ℕ, ◌+◌, ◌-◌, ◌%◌, ◌^◌, ◌==◌, ◌&&◌, Bool, length, min, nat_lt, Option, Some, None, IsSome}
use Rattle.std.specs.Prelude.{if◌then◌else◌}
use Rattle.payload_ring.specs.Window.{end_of}
use Rattle.tas_num.specs.declared.seq.Seq.{Seq}
use Rattle.tas_model.specs.Segments.{seq_at, one_if}
use Rattle.flow_state.specs.declared.parts.Parts.{Parts}
use Rattle.flow_state.specs.declared.call.CallIn.{CallIn}
use Rattle.flow_state.specs.declared.call.CallIn.TheVariants as ins
use Rattle.flow_state.specs.declared.stage.Stage.{Stage}
use Rattle.flow_state.specs.declared.stage.Stage.TheVariants as stages
use Rattle.flow_state.specs.App.{stage_by, is_shut_phase}
use Rattle.fast_tx.specs.declared.piece.Piece.{Piece}
use Rattle.fast_tx.specs.declared.piece.Piece.TheVariants as pieces

-- ----- what the record tells
-- how far one number is past another, modulo 2^32
abbrev pub distance : (one other : Seq) → ℕ
distance one other = (one.0 + (2 ^ 32 - other.0)) % 2 ^ 32

-- the places from the first that is not acknowledged up to the next
abbrev pub in_flight : Parts → ℕ
in_flight p = distance p.nxt p.una

-- the next place is this one
abbrev pub is_next : Parts → (place : ℕ) → Bool
is_next p place = p.nxt.0 == (seq_at p.iss.0 place).0

-- bytes that wait to be sent, from the next place on
abbrev pub bytes_waiting : Parts → ℕ
bytes_waiting p = length p.tx.bytes - in_flight p

-- How many bytes may go: a segment's, those that wait, what the peer's window and the congestion window leave, and what
-- the bucket holds.
abbrev pub bytes_due : Parts → ℕ
bytes_due p =
    min p.smss (min (bytes_waiting p) (min (p.window - in_flight p) (min (p.cwnd - in_flight p) p.bucket.tokens)))

-- A probe of the peer's window of 0 is due, and a byte waits for it (RFC 9293, section 3.8.6.1).
abbrev pub is_probe_due : Parts → Bool
is_probe_due p = p.probe && p.window == 0 && in_flight p == 0 && nat_lt 0 (bytes_waiting p) && nat_lt 0 p.smss

-- the own stream was ended, and all its bytes were sent
abbrev pub is_fin_due : Parts → Bool
is_fin_due p = is_shut_phase p.phase && is_next p (1 + end_of p.tx)

-- ----- what goes
-- past the opening: data before a probe, and the FIN last
abbrev pub running_piece : Parts → Option Piece
running_piece p =
    if nat_lt 0 (bytes_due p) then Some (pieces.Data (bytes_due p))
    else if is_probe_due p then Some pieces.Probe
    else if is_fin_due p then Some pieces.Fin
    else None

abbrev pub piece_at : Stage → Parts → Option Piece
piece_at stages.Opening p = if is_next p 0 then Some pieces.Syn else None
piece_at (stages.Over reason) p = None
piece_at stages.Running p = running_piece p

-- What goes next, where something may.
abbrev pub next_piece : Parts → Option Piece
next_piece p = piece_at (stage_by p.reason p.phase) p

-- how many bytes it has
abbrev pub piece_len : Piece → ℕ
piece_len pieces.Syn = 0
piece_len (pieces.Data len) = len
piece_len pieces.Probe = 1
piece_len pieces.Fin = 0

abbrev pub len_of : Option Piece → ℕ
len_of None = 0
len_of (Some piece) = piece_len piece

-- the call is Emit, and something may go
abbrev pub IsEmission : Parts → CallIn → Type 0
IsEmission p ins.Emit = IsSome (next_piece p)
IsEmission p _ = ⊥

-- How much is left to send: the places up to past the FIN's, and a probe that is due.
abbrev pub left_of : Parts → ℕ
left_of p = distance (seq_at p.iss.0 (2 + end_of p.tx)) p.nxt + one_if p.probe
