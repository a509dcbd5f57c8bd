-- What one end says of a stream, the other end hears of it.
use Rattle.std.proofs.Common.{◌≡◌, ℕ, ◌+◌, ◌-◌, ◌%◌, ◌^◌, ◌<◌, ◌≤◌, Bool, true, false, ◌||◌, List, length, drop, max}
use Rattle.std.proofs.Common.{refl, sym, subst, ap, ◌∙◌, arith, true≢false, length-take, length-drop, ltb}
use Rattle.std.proofs.lemmas.Bool.Decides.{nat_tests}
use Rattle.tas_num.specs.Places.{raised}
use Rattle.tas_num.proofs.Nearest.{raised_is}
use Rattle.tas_model.specs.declared.entry.FrameId.{FrameId}
use Rattle.tas_model.specs.declared.entry.Seg.{Seg}
use Rattle.tas_model.specs.declared.entry.Call.TheVariants as calls
use Rattle.tas_model.specs.Endpoint.{Endpoint, next_place}
use Rattle.tas_model.specs.Segments.{is_fin, peer_first}
use Rattle.tas_model.specs.Receive.{is_heard}
use Rattle.tas_model.specs.OneStream.{StandsIn, Says, IsOfStream, raised_place}
use Rattle.tas_model.specs.Outputs.{SaysPart}
use Rattle.tas_model.proofs.StreamSteps.{stands_nil, stands_rest}

-- ----- a segment without payload and FIN
unheard : (some fin : Bool) → (some || fin) ≡ false → (some ≡ false) × (fin ≡ false)
unheard false false h = (refl, refl)
unheard true fin h = absurd (true≢false h)
unheard false true h = absurd (true≢false h)

says_nothing : (stream : List ℕ) (r from : ℕ) (seg : Seg) → is_heard seg ≡ false → Says stream r from seg
says_nothing stream r from seg h =
    let tells = unheard (ltb 0 (length seg.bytes)) (is_fin seg) h in
    let none : length seg.bytes ≡ 0 = grind (arith, nat_tests, tells.0) in
    record {
      bytes = stands_nil stream (max from (r + 2 ^ 32) - 2 ^ 32 - 1) (drop (r + 2 ^ 32 - from) seg.bytes)
          (omega (arith, none, length-drop (r + 2 ^ 32 - from) seg.bytes));
      fin = λ f. absurd (true≢false (sym f ∙ tells.1));
    }

-- ----- a part of the stream
heard_is : (some fin : Bool) → (some || fin) ≡ true → fin ≡ false → some ≡ true
heard_is true fin h f = refl
heard_is false fin h f = absurd (true≢false (sym h ∙ f))

-- it begins at the FIN's place at the latest
part_ends : (first : ℕ) (stream : List ℕ) (seg : Seg) → is_heard seg ≡ true → (part : SaysPart first stream seg)
    → part.place ≤ length stream + 1
part_ends first stream seg h part = by_fin (is_fin seg) refl
  where
    by_fin : (b : Bool) → is_fin seg ≡ b → part.place ≤ length stream + 1
    by_fin true f = omega (arith, part.fin f)
    by_fin false f =
        let some : 0 < length seg.bytes = grind (
          arith,
          nat_tests,
          heard_is (ltb 0 (length seg.bytes)) (is_fin seg) h f,
        ) in
        omega (
          arith,
          some,
          ap length part.bytes,
          length-take (length seg.bytes) (drop (part.place - 1) stream),
          length-drop (part.place - 1) stream,
        )

-- the number at a place, near enough, is heard as that place
place_heard : (first r place : ℕ) → first < 2 ^ 32 → place < r + 2 ^ 31 → r ≤ place + 2 ^ 31
    → raised r (((first + place) % 2 ^ 32 + (2 ^ 32 - first)) % 2 ^ 32) ≡ place + 2 ^ 32
place_heard first r place small below above =
    raised_is r (((first + place) % 2 ^ 32 + (2 ^ 32 - first)) % 2 ^ 32) place (omega arith)
    (record { residue = omega arith; above = above; below = below })

says_part_at : (stream : List ℕ) (r from : ℕ) (first : ℕ) (seg : Seg) → (part : SaysPart first stream seg)
    → from ≡ part.place + 2 ^ 32 → 1 ≤ r → Says stream r from seg
says_part_at stream r from first seg part is some = record {
  bytes =
      subst (λ (k : ℕ). StandsIn stream (max from (r + 2 ^ 32) - 2 ^ 32 - 1) (drop k seg.bytes)) (omega (arith, is))
      (stands_rest stream (part.place - 1) (r - part.place) (max from (r + 2 ^ 32) - 2 ^ 32 - 1) seg.bytes
      (omega (arith, is, some, part.begins)) part.bytes);
  fin = λ f past. omega (arith, is, part.fin f);
}

-- A segment that says nothing but a stream shorter than 2^31 is of that stream, for an endpoint that has not received
-- more than it.
pub heard_of_stream : (e : Endpoint) (stream : List ℕ) (frame : FrameId) (seg : Seg) → peer_first e < 2 ^ 32
    → length stream + 2 < 2 ^ 31 → next_place e.rx ≤ length stream + 2
    → (is_heard seg ≡ true → SaysPart (peer_first e) stream seg) → IsOfStream stream e (calls.Rx frame seg)
heard_of_stream e stream frame seg small short received says = λ syn sync. by_heard (is_heard seg) refl
  where
    by_heard : (b : Bool) → is_heard seg ≡ b → Says stream (next_place e.rx) (raised_place e seg) seg
    by_heard false h = says_nothing stream (next_place e.rx) (raised_place e seg) seg h
    by_heard true h =
        let part : SaysPart (peer_first e) stream seg = says h in
        let ends : part.place ≤ length stream + 1 = part_ends (peer_first e) stream seg h part in
        let heard : raised (next_place e.rx) (((peer_first e + part.place) % 2 ^ 32 + (2 ^ 32 - peer_first e)) % 2 ^ 32)
        ≡ part.place + 2 ^ 32 =
        place_heard (peer_first e) (next_place e.rx) part.place small (omega (arith, ends, short))
        (omega (arith, received, short)) in
        let from : raised_place e seg ≡ part.place + 2 ^ 32 =
        ap (λ s. raised (next_place e.rx) ((s.0 + (2 ^ 32 - peer_first e)) % 2 ^ 32)) part.seq ∙ heard in
        says_part_at stream (next_place e.rx) (raised_place e seg) (peer_first e) seg part from (omega arith)
