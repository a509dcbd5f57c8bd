use Rattle.std.proofs.Common.{◌≡◌, ◌-◌, ◌∙◌, ℕ, List, length, sym, ap, subst, slice_get, Some}
use Rattle.tas_model.specs.declared.entry.Reply.{Reply}
use Rattle.flow_state.specs.declared.stretch.Stretch.{Stretch}
use Rattle.flow_state.specs.Calls.{reply_bytes}
use Rattle.flow_state.specs.Flow.{Flow, last_reply}
use Rattle.flow_state.specs.Arena.{Memory, memory_of}
use Rattle.flow_state.specs.Stretches.{StretchWithin, entries_in}
use Rattle.flow_state.proofs.Looking.{within_last, last_reply_stretches}
use Rattle.flow_state.proofs.record.FlowRecord.last_bytes.Goals as goal

pub last_bytes_of-requires : goal.last_bytes_of-requires
last_bytes_of-requires c =
    let ss : List Stretch = c.self.inside.stretches.items in
    let there : slice_get ss (length ss - 1) ≡ Some c.in-Some.stretch.now =
    subst (λ (xs : List Stretch). slice_get xs (length xs - 1) ≡ Some c.in-Some.stretch.now) c.deref.ensures.value
    (sym c.in-Some.ensures.value) in
    subst (λ (m : Memory). StretchWithin (length m.bytes) (length m.came) c.in-Some.stretch.now)
    (cc (sym c.as_slice.ensures, sym c.came.ensures))
    (within_last (length c.self.inside.arena.memory.bytes) (length c.self.inside.arena.memory.came) ss
    c.in-Some.stretch.now there c.self.invariant.within)

pub returns-in-Some : goal.returns-in-Some
returns-in-Some c =
    let ss : List Stretch = c.self.inside.stretches.items in
    let memory : Memory = c.self.inside.arena.memory in
    let read : memory_of c.as_slice.result.now c.came.result.now ≡ memory =
    ap (λ (bs : List ℕ). memory_of bs c.came.result.now) c.as_slice.ensures
    ∙ ap (memory_of memory.bytes) c.came.ensures in
    let there : slice_get ss (length ss - 1) ≡ Some c.in-Some.stretch.now =
    subst (λ (xs : List Stretch). slice_get xs (length xs - 1) ≡ Some c.in-Some.stretch.now) c.deref.ensures.value
    (sym c.in-Some.ensures.value) in
    c.last_bytes_of.ensures
    ∙ (ap (λ (m : Memory). reply_bytes (last_reply (entries_in m c.in-Some.stretch.now))) read
    ∙ (ap (λ (r : Reply). reply_bytes r) (sym (last_reply_stretches memory ss c.in-Some.stretch.now there))
    ∙ ap (λ (f : Flow). reply_bytes (last_reply f.entries)) c.self.view_is))
