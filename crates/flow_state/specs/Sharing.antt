-- Where bytes of a stream are looked for in a record's memory.
use Rattle.std.specs.Prelude.{ℕ, ◌+◌, ◌-◌, ◌%◌, ◌^◌}
use Rattle.tas_num.specs.declared.seq.Seq.{Seq}
use Rattle.flow_state.specs.declared.sharing.Anchor.{Anchor}

-- as far behind the known byte as the number is behind its number, modulo 2^32
abbrev pub place_from : Anchor → Seq → ℕ
place_from a s = (a.at + (s.0 + (2 ^ 32 - a.seq.0)) % 2 ^ 32) % 2 ^ 32
