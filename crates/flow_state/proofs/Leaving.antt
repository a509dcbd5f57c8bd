-- What is told of the end of a history that is left of a record.
use Rattle.std.proofs.Common.{◌≡◌, refl, ap, ℕ, List, length, arith}
use Rattle.std.proofs.lemmas.List.{length-take-le}
use Rattle.tas_model.specs.declared.entry.Entry.{Entry}
use Rattle.tas_model.specs.declared.entry.HostParams.{HostParams}
use Rattle.tas_model.specs.LegalHistory.{Legal, replay}
use Rattle.tas_model.specs.Outputs.{bytes_read}
use Rattle.tas_model.specs.Valid.{InRange}
use Rattle.tas_model.proofs.MovesLaws.{read_is_of_got}
use Rattle.tas_model.proofs.ValidCalls.{valid_replay}
use Rattle.flow_state.specs.declared.slot.CameSlot.{CameSlot}
use Rattle.flow_state.specs.Arena.{Memory, memory_of}

-- as many bytes were read as the endpoint counts
pub read_counted : (params : HostParams) (h : List Entry) → InRange params → Legal params h
    → (replay params h).rx.read ≡ length (bytes_read h)
read_counted params h fits legal =
    let rx = (replay params h).rx in
    omega (
      arith,
      ap length (read_is_of_got params h fits legal),
      length-take-le rx.read rx.got (valid_replay params h fits legal).rx.read,
    )

-- the lists of a memory are all of it
pub memory_kept : (memory : Memory) (bytes : List ℕ) (came : List CameSlot) → bytes ≡ memory.bytes → came ≡ memory.came
    → memory_of bytes came ≡ memory
memory_kept memory bytes came same_bytes same_came = rw (same_bytes, same_came) refl
