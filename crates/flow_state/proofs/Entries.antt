-- The entries that stretches mean, in memory that grows.
use Rattle.std.proofs.Common.{◌≡◌, ℕ, zero, suc, ◌<◌, ◌≤◌, List, [], ◌∷◌, ◌++◌, length, take, drop, slice_get}
use Rattle.std.proofs.Common.{refl, sym, ◌∙◌, ap, subst, arith, length-drop, take-append-drop, take_all}
use lib.Seq.{drop-append-le}
use Rattle.std.proofs.lemmas.List.{take-append-le}
use Rattle.tas_model.specs.declared.entry.Call.TheVariants as calls
use Rattle.tas_model.specs.declared.entry.Entry.{Entry}
use Rattle.tas_model.specs.declared.entry.Seg.{Seg}
use Rattle.flow_state.specs.declared.slot.CameSlot.{CameSlot}
use Rattle.flow_state.specs.declared.slot.CallSlot.{CallSlot}
use Rattle.flow_state.specs.declared.slot.CallSlot.TheVariants as cs
use Rattle.flow_state.specs.declared.slot.Slot.{Slot}
use Rattle.flow_state.specs.declared.slot.Span.{Span}
use Rattle.flow_state.specs.declared.stretch.Stretch.{Stretch}
use Rattle.flow_state.specs.declared.stretch.Stretch.TheVariants.{One, Quiet, Paced}
use Rattle.flow_state.specs.Arena.{Memory, Grows}
use Rattle.flow_state.specs.Slots.{entry_of, call_in, call_with, frame_in, reply_part, reply_in, bytes_at, SpanWithin}
use Rattle.flow_state.specs.Slots.{CameWithin, IsWithin}
use Rattle.flow_state.specs.Stretches.{entries_in, entries_of, StretchWithin, AllStand}

-- what stands in memory stands there still when it grows
bytes_kept : (arena more : List ℕ) (s : Span) → SpanWithin (length arena) s
    → bytes_at (arena ++ more) s ≡ bytes_at arena s
bytes_kept arena more s fits =
    let front : s.from ≤ length arena = omega arith in
    let inside : s.len ≤ length (drop s.from arena) = omega (arith, length-drop s.from arena) in
    rw (drop-append-le s.from arena more front, take-append-le s.len (drop s.from arena) more inside) refl

came_kept : (old new : List CameSlot) (at : ℕ) → take (length old) new ≡ old → at < length old
    → slice_get new at ≡ slice_get old at
came_kept [] new at same below = absurd (omega arith)
came_kept (c ∷ old) [] at same below = absurd (cc (same))
came_kept (c ∷ old) (d ∷ new) zero same below = cc (same)
came_kept (c ∷ old) (d ∷ new) (suc at) same below = came_kept old new at (cc (same)) (omega arith)

call_kept : (old new : List CameSlot) (bytes : List ℕ) (c : CallSlot) → take (length old) new ≡ old
    → CameWithin (length old) c → call_in new bytes c ≡ call_in old bytes c
call_kept old new bytes (cs.Passive at) same within =
    ap (call_with (λ (c : CameSlot) (seg : Seg). calls.Passive (frame_in c) c.iss seg) bytes)
    (came_kept old new at same within)
call_kept old new bytes (cs.Rx at) same within =
    ap (call_with (λ (c : CameSlot) (seg : Seg). calls.Rx (frame_in c) seg) bytes) (came_kept old new at same within)
call_kept old new bytes (cs.Connect iss) same within = refl
call_kept old new bytes cs.Emit same within = refl
call_kept old new bytes cs.Tick same within = refl
call_kept old new bytes cs.Control same within = refl
call_kept old new bytes cs.Accept same within = refl
call_kept old new bytes cs.Ready same within = refl
call_kept old new bytes (cs.Send offered) same within = refl
call_kept old new bytes (cs.Recv most) same within = refl
call_kept old new bytes cs.Shut same within = refl
call_kept old new bytes cs.Close same within = refl
call_kept old new bytes cs.Abort same within = refl

pub call_longer : (k l : ℕ) (c : CallSlot) → k ≤ l → CameWithin k c → CameWithin l c
call_longer k l (cs.Passive at) le is = omega (arith, is)
call_longer k l (cs.Rx at) le is = omega (arith, is)
call_longer k l (cs.Connect iss) le is = tt
call_longer k l cs.Emit le is = tt
call_longer k l cs.Tick le is = tt
call_longer k l cs.Control le is = tt
call_longer k l cs.Accept le is = tt
call_longer k l cs.Ready le is = tt
call_longer k l (cs.Send offered) le is = tt
call_longer k l (cs.Recv most) le is = tt
call_longer k l cs.Shut le is = tt
call_longer k l cs.Close le is = tt
call_longer k l cs.Abort le is = tt

-- memory grows from itself
pub grows_self : (memory : Memory) → Grows memory memory
grows_self memory = record {
  bytes = take_all (length memory.bytes) memory.bytes (omega arith);
  came = take_all (length memory.came) memory.came (omega arith);
  longer = omega arith;
  longer_came = omega arith;
}

entry_kept : (old new : Memory) (t : ℕ) (s : Slot) → Grows old new → IsWithin (length old.bytes) (length old.came) s
    → entry_of new t s ≡ entry_of old t s
entry_kept old new t s grows within =
    let whole : old.bytes ++ drop (length old.bytes) new.bytes ≡ new.bytes =
    ap (λ (f : List ℕ). f ++ drop (length old.bytes) new.bytes) (sym grows.bytes)
    ∙ take-append-drop (length old.bytes) new.bytes in
    let bytes : bytes_at new.bytes s.bytes ≡ bytes_at old.bytes s.bytes =
    subst (λ (bs : List ℕ). bytes_at bs s.bytes ≡ bytes_at old.bytes s.bytes) whole
    (bytes_kept old.bytes (drop (length old.bytes) new.bytes) s.bytes within.bytes) in
    let call : call_in new.came (bytes_at new.bytes s.bytes) s.call
    ≡ call_in old.came (bytes_at old.bytes s.bytes) s.call =
    ap (λ (bs : List ℕ). call_in new.came bs s.call) bytes
    ∙ call_kept old.came new.came (bytes_at old.bytes s.bytes) s.call grows.came within.came in
    let reply : reply_in (reply_part s.call (bytes_at new.bytes s.bytes)) s.reply
    ≡ reply_in (reply_part s.call (bytes_at old.bytes s.bytes)) s.reply =
    ap (λ (bs : List ℕ). reply_in (reply_part s.call bs) s.reply) bytes in
    cc (call, reply)

stretch_kept : (old new : Memory) (s : Stretch) → Grows old new
    → StretchWithin (length old.bytes) (length old.came) s → entries_in new s ≡ entries_in old s
stretch_kept old new (One t s) grows fits = ap (λ (x : Entry). x ∷ []) (entry_kept old new t s grows fits)
stretch_kept old new (Quiet r) grows fits = refl
stretch_kept old new (Paced r) grows fits = refl

-- what stretches mean they mean still when the memory grows
pub entries_kept : (old new : Memory) (stretches : List Stretch) → Grows old new → AllStand old stretches
    → entries_of new stretches ≡ entries_of old stretches
entries_kept old new [] grows fits = refl
entries_kept old new (s ∷ stretches) grows fits =
    cc (stretch_kept old new s grows fits.0, entries_kept old new stretches grows fits.1)
