-- The first sequence numbers of the flows that a host opens (RFC 9293, section 3.4.1).
use Rattle.std.specs.Prelude.{ℕ, ◌+◌, ◌*◌, ◌%◌, ◌^◌}
use Rattle.tas_num.specs.declared.seq.Seq.{Seq}
use Rattle.tas_model.specs.declared.entry.FourTuple.{FourTuple}

-- the first number of a flow of this four-tuple, where `n` flows of the host were opened before it
abbrev pub FirstNumbers : Type 0
FirstNumbers = FourTuple → (n : ℕ) → Seq

-- Each flow's number is 64,000 past that of the flow that was opened before it, modulo 2^32.
abbrev pub spaced_from : (first : Seq) → FirstNumbers
spaced_from first tuple n = record { 0 = (first.0 + 64000 * n) % 2 ^ 32 }
