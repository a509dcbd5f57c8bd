-- The parts after bytes were received.
use Rattle.std.proofs.Common.{◌≡◌, ℕ, ◌+◌, ◌-◌, ◌<◌, ◌≤◌, Bool, true, false, cond, leb, List, [], ◌∷◌, ◌++◌, length}
use Rattle.std.proofs.Common.{take, drop, max, min, Option, Some, None, unwrap_or, refl, sym, ◌∙◌, ap, subst, arith}
use Rattle.std.proofs.Common.{length-append, length-drop, eqb}
use Rattle.std.proofs.lemmas.Bool.Decides.{nat_tests}
use Rattle.std.proofs.lemmas.List.{drop-append-le, drop-drop, drop-take, append-nil}
use Rattle.tas_model.proofs.Tests.{on_cond}
use Rattle.tas_num.specs.declared.seq.Seq.{Seq}
use Rattle.payload_ring.specs.Window.{Window, Holds, end_of, room_of}
use Rattle.tas_model.specs.Endpoint.{Endpoint, Receiving, Island, next_place}
use Rattle.tas_model.specs.Segments.{seq_at, peer_first}
use Rattle.tas_model.specs.Reassembly.{with_data, with_part, grown, bridged, kept_apart, trimmed}
use Rattle.tas_model.specs.Valid.{ValidReceiving, IsPastGap, PastGap}
use Rattle.flow_state.specs.declared.parts.Parts.{Parts}
use Rattle.flow_state.specs.Stands.{Stands, IsIsland, IsPeer}
use Rattle.flow_state.proofs.Receiving.{stands_received}
use Rattle.fast_rx.specs.Islands.{bridge, rest}

pub peer_is : (irs : Seq) (o : Option ℕ) → IsPeer irs o → irs.0 ≡ unwrap_or o 0
peer_is irs None is = is
peer_is irs (Some first) is = is

-- the place past the bytes in the ring is that past all that was received in order
pub end_is : (p : Parts) (e : Endpoint) → e.rx.read ≤ length e.rx.got → Stands p e → end_of p.rx ≡ length e.rx.got
end_is p e read s = omega (arith, s.rx.base, ap (length {A = ℕ}) s.rx.bytes, length-drop e.rx.read e.rx.got)

pub received : (p : Parts) (e : Endpoint) (w : Window) (kept : Option (ℕ × ℕ)) (got : List ℕ) (island : Option Island)
    → Stands p e → e.rx.ended ≡ false → e.rx.read ≤ length got → w.ready ≡ p.rx.ready
    → Holds w e.params.ring e.rx.read (drop e.rx.read got) → IsIsland kept w.ahead (length got) island
    → Stands (record p { rx = w; island = kept; rcv = seq_at p.irs.0 (end_of w + 1) })
    (record e { rx = record (e.rx) { got = got; island = island } })
received p e w kept got island s going read ready holds is =
    let kept_bytes : length w.bytes ≡ length got - e.rx.read =
    omega (arith, ap (length {A = ℕ}) holds.bytes, length-drop e.rx.read got) in
    let none : cond {A = ℕ} e.rx.ended 1 0 ≡ 0 = ap (λ (t : Bool). cond {A = ℕ} t 1 0) going in
    let end : end_of w + 1 ≡ 1 + length got + cond e.rx.ended 1 0 = omega (arith, holds.base) in
    stands_received p e w kept _ got e.rx.read island s
    (ap (λ (n : ℕ). seq_at n (end_of w + 1)) (peer_is p.irs e.peer s.irs) ∙ ap (seq_at (peer_first e)) end) ready
    holds is

-- ----- bytes in order
-- the window with a part in order, and with the next cells behind it
abbrev pub grown_window : Window → List ℕ → (more : ℕ) → Window
grown_window w part more = record w {
  bytes = (w.bytes ++ part) ++ take more (drop (length part) w.ahead);
  ahead = drop more (drop (length part) w.ahead);
}

-- what the window holds, where the next cells have these bytes
grown_holds : (w : Window) (ring read : ℕ) (got part bytes : List ℕ) (more : ℕ) → read ≤ length got
    → Holds w ring read (drop read got) → take more (drop (length part) w.ahead) ≡ bytes
    → Holds (grown_window w part more) ring read (drop read ((got ++ part) ++ bytes))
grown_holds w ring read got part bytes more low h there = record {
  size = h.size;
  base = h.base;
  bytes =
      ap (λ (x : List ℕ). (w.bytes ++ part) ++ x) there
      ∙ (ap (λ (x : List ℕ). (x ++ part) ++ bytes) h.bytes
      ∙ (ap (λ (x : List ℕ). x ++ bytes) (sym (drop-append-le read got part low))
      ∙ sym (drop-append-le read (got ++ part) bytes (omega (arith, length-append got part)))));
}

pub empty_is : (xs : List ℕ) → length xs ≡ 0 → xs ≡ []
empty_is [] h = refl
empty_is (x ∷ xs) h = absurd (omega arith)

-- the island's bytes past the new end
bridged_bytes : (ahead bytes : List ℕ) (d k : ℕ) → take (length bytes) (drop d ahead) ≡ bytes → d ≤ k
    → take (d + length bytes - k) (drop k ahead) ≡ drop (k - d) bytes
bridged_bytes ahead bytes d k there low = by_end (leb k (d + length bytes)) refl
  where
    split : k ≡ d + (k - d)
    split = omega arith

    at : drop k ahead ≡ drop (k - d) (drop d ahead)
    at = ap (λ (j : ℕ). drop j ahead) split ∙ sym (drop-drop (k - d) d ahead)

    by_end : (t : Bool) → leb k (d + length bytes) ≡ t → take (d + length bytes - k) (drop k ahead) ≡ drop (k - d) bytes
    by_end true h =
        let inside : k ≤ d + length bytes = grind (arith, nat_tests) in
        let sum : k - d + (d + length bytes - k) ≡ length bytes = omega arith in
        ap (take (d + length bytes - k)) at
        ∙ (sym (drop-take (k - d) (d + length bytes - k) (drop d ahead))
        ∙ (ap (λ (j : ℕ). drop (k - d) (take j (drop d ahead))) sum ∙ ap (drop (k - d)) there))
    by_end false h =
        let past : d + length bytes < k = grind (arith, nat_tests) in
        let none : d + length bytes - k ≡ 0 = omega arith in
        let gone : length (drop (k - d) bytes) ≡ 0 = omega (arith, length-drop (k - d) bytes) in
        ap (λ (j : ℕ). take j (drop k ahead)) none ∙ sym (empty_is (drop (k - d) bytes) gone)

-- an island that is not reached stands where it stood
island_moves : (kept : Option (ℕ × ℕ)) (ahead part got : List ℕ) (i : Island) → length got + length part < i.at
    → IsIsland kept ahead (length got) (Some i)
    → IsIsland (rest kept (length part)) (drop 0 (drop (length part) ahead)) (length (got ++ part)) (Some i)
island_moves kept ahead part got i far is =
    let d : ℕ = i.at - length got in
    let later : leb d (length part) ≡ false = grind (arith, nat_tests) in
    let end : i.at - length (got ++ part) ≡ d - length part = omega (arith, length-append got part) in
    let back : length part + (d - length part) ≡ d = omega arith in
    let moved : rest kept (length part) ≡ Some (d - length part, length i.bytes) =
    ap (λ (o : Option (ℕ × ℕ)). rest o (length part)) is.0 ∙ rw later refl in
    let there : take (length i.bytes) (drop (d - length part) (drop (length part) ahead)) ≡ i.bytes =
    ap (take (length i.bytes)) (drop-drop (d - length part) (length part) ahead ∙ ap (λ (j : ℕ). drop j ahead) back)
    ∙ is.1 in
    rw end (moved, there)

-- ----- the parts after bytes in order
abbrev grown_parts : Parts → List ℕ → (more : ℕ) → Parts
grown_parts p part more = record p {
  rx = grown_window p.rx part more;
  island = rest p.island (length part);
  rcv = seq_at p.irs.0 (end_of (grown_window p.rx part more) + 1);
}

-- how many bytes past the gap they close
abbrev bridged_most : Parts → List ℕ → ℕ
bridged_most p part = min (bridge p.island (length part)) (room_of (record (p.rx) { bytes = p.rx.bytes ++ part }))

-- no more comes in order than the part
plain_holds : (p : Parts) (e : Endpoint) (part : List ℕ) → e.rx.read ≤ length e.rx.got → Stands p e
    → Holds (grown_window p.rx part 0) e.params.ring e.rx.read (drop e.rx.read (e.rx.got ++ part))
plain_holds p e part low s =
    subst (λ (g : List ℕ). Holds (grown_window p.rx part 0) e.params.ring e.rx.read (drop e.rx.read g))
    (append-nil (e.rx.got ++ part)) (grown_holds p.rx e.params.ring e.rx.read e.rx.got part [] 0 low s.rx refl)

without_island : (p : Parts) (e : Endpoint) (part : List ℕ) → ValidReceiving e.params.ring e.rx → e.rx.ended ≡ false
    → Stands p e → e.rx.island ≡ None
    → Stands (grown_parts p part (bridged_most p part)) (record e { rx = record (e.rx) { got = e.rx.got ++ part } })
without_island p e part v going s is =
    let none : p.island ≡ None = subst (IsIsland p.island p.rx.ahead (length e.rx.got)) is s.island in
    let zero_more : bridge p.island (length part) ≡ 0 = ap (λ (o : Option (ℕ × ℕ)). bridge o (length part)) none in
    let more : bridged_most p part ≡ 0 = omega arith in
    let left : rest p.island (length part) ≡ None = ap (λ (o : Option (ℕ × ℕ)). rest o (length part)) none in
    let one : Stands (grown_parts p part 0)
    (record e { rx = record (e.rx) { got = e.rx.got ++ part; island = None } }) =
    received p e (grown_window p.rx part 0) (rest p.island (length part)) (e.rx.got
    ++ part) None s going (omega (arith, v.read, length-append e.rx.got part)) refl
    (plain_holds p e part v.read s) left in
    subst (λ (m : ℕ). Stands (grown_parts p part m) (record e { rx = record (e.rx) { got = e.rx.got ++ part } }))
    (sym more)
    (subst (λ (o : Option Island). Stands (grown_parts p part 0)
    (record e { rx = record (e.rx) { got = e.rx.got ++ part; island = o } })) (sym is) one)

before_island : (p : Parts) (e : Endpoint) (part : List ℕ) (i : Island) → ValidReceiving e.params.ring e.rx
    → e.rx.ended ≡ false → Stands p e → e.rx.island ≡ Some i
    → length e.rx.got + length part < i.at
    → Stands (grown_parts p part (bridged_most p part)) (record e { rx = record (e.rx) { got = e.rx.got ++ part } })
before_island p e part i v going s is far =
    let kept : IsIsland p.island p.rx.ahead (length e.rx.got) (Some i) =
    subst (IsIsland p.island p.rx.ahead (length e.rx.got)) is s.island in
    let later : leb (i.at - length e.rx.got) (length part) ≡ false = grind (arith, nat_tests) in
    let zero_more : bridge p.island (length part) ≡ 0 = ap (λ (o : Option (ℕ × ℕ)). bridge o (length part)) kept.0
    ∙ rw later refl in
    let more : bridged_most p part ≡ 0 = omega arith in
    let one : Stands (grown_parts p part 0)
    (record e { rx = record (e.rx) { got = e.rx.got ++ part; island = Some i } }) =
    received p e (grown_window p.rx part 0) (rest p.island (length part)) (e.rx.got
    ++ part) (Some i) s going (omega (arith, v.read, length-append e.rx.got part)) refl (plain_holds p e part v.read s)
    (island_moves p.island p.rx.ahead part e.rx.got i far kept) in
    subst (λ (m : ℕ). Stands (grown_parts p part m) (record e { rx = record (e.rx) { got = e.rx.got ++ part } }))
    (sym more)
    (subst (λ (o : Option Island). Stands (grown_parts p part 0)
    (record e { rx = record (e.rx) { got = e.rx.got ++ part; island = o } })) (sym is) one)

reaches_island : (p : Parts) (e : Endpoint) (part : List ℕ) (i : Island) → ValidReceiving e.params.ring e.rx
    → e.rx.ended ≡ false → Stands p e → e.rx.island ≡ Some i
    → i.at ≤ length e.rx.got + length part
    → Stands (grown_parts p part (bridged_most p part))
    (record e {
      rx = record (e.rx) {
        got = (e.rx.got ++ part) ++ drop (length (e.rx.got ++ part) - i.at) i.bytes;
        island = None;
      };
    })
reaches_island p e part i v going s is near =
    let k : ℕ = length part in
    let d : ℕ = i.at - length e.rx.got in
    let kept : IsIsland p.island p.rx.ahead (length e.rx.got) (Some i) =
    subst (IsIsland p.island p.rx.ahead (length e.rx.got)) is s.island in
    let gap : PastGap (length e.rx.got) (e.rx.read + e.params.ring) i =
    subst (IsPastGap (length e.rx.got) (e.rx.read + e.params.ring)) is v.island in
    let here : leb d k ≡ true = grind (arith, nat_tests) in
    let unread : length p.rx.bytes ≡ length e.rx.got - e.rx.read =
    omega (arith, ap (length {A = ℕ}) s.rx.bytes, length-drop e.rx.read e.rx.got) in
    let reached : bridge p.island k ≡ d + length i.bytes - k = ap (λ (o : Option (ℕ × ℕ)). bridge o k) kept.0
    ∙ rw here refl in
    let more : bridged_most p part ≡ d + length i.bytes - k =
    omega (arith, gap.within, gap.past, v.read, s.rx.size, length-append p.rx.bytes part) in
    let left : rest p.island k ≡ None = ap (λ (o : Option (ℕ × ℕ)). rest o k) kept.0 ∙ rw here refl in
    let past : k - d ≡ length (e.rx.got ++ part) - i.at = omega (arith, gap.past, length-append e.rx.got part) in
    let bytes : take (d + length i.bytes - k) (drop k p.rx.ahead) ≡ drop (length (e.rx.got ++ part) - i.at) i.bytes =
    bridged_bytes p.rx.ahead i.bytes d k kept.1 (omega (arith, near)) ∙ ap (λ (j : ℕ). drop j i.bytes) past in
    let got : List ℕ = (e.rx.got ++ part) ++ drop (length (e.rx.got ++ part) - i.at) i.bytes in
    subst (λ (m : ℕ). Stands (grown_parts p part m) (record e { rx = record (e.rx) { got = got; island = None } }))
    (sym more)
    (received p e (grown_window p.rx part (d + length i.bytes - k)) (rest p.island k) got None s going
    (omega (
      arith,
      v.read,
      length-append (e.rx.got ++ part) (drop (length (e.rx.got ++ part) - i.at) i.bytes),
      length-append e.rx.got part,
    )) refl
    (grown_holds p.rx e.params.ring e.rx.read e.rx.got part (drop (length (e.rx.got ++ part) - i.at) i.bytes)
    (d + length i.bytes - k) v.read s.rx bytes) left)

-- Bytes in order are received, and those past the gap that they close.
pub grown_stands : (p : Parts) (e : Endpoint) (part : List ℕ) (o : Option Island) → ValidReceiving e.params.ring e.rx
    → e.rx.ended ≡ false → Stands p e → e.rx.island ≡ o
    → Stands (grown_parts p part (bridged_most p part))
    (record e { rx = bridged (record (e.rx) { got = e.rx.got ++ part }) o })
grown_stands p e part None v going s is = without_island p e part v going s is
grown_stands p e part (Some i) v going s is =
    on_cond (λ (x : Receiving). Stands (grown_parts p part (bridged_most p part)) (record e { rx = x }))
    (leb i.at (length (e.rx.got ++ part)))
    (record (e.rx) { got = (e.rx.got ++ part) ++ drop (length (e.rx.got ++ part) - i.at) i.bytes; island = None })
    (record (e.rx) { got = e.rx.got ++ part })
    (λ t. reaches_island p e part i v going s is (near t)) (λ f. before_island p e part i v going s is (far f))
  where
    near : leb i.at (length (e.rx.got ++ part)) ≡ true → i.at ≤ length e.rx.got + length part
    near t = let n : length (e.rx.got ++ part) ≡ length e.rx.got + length part = length-append e.rx.got part in
        grind (arith, nat_tests)

    far : leb i.at (length (e.rx.got ++ part)) ≡ false → length e.rx.got + length part < i.at
    far f = let n : length (e.rx.got ++ part) ≡ length e.rx.got + length part = length-append e.rx.got part in
        grind (arith, nat_tests)

-- ----- which part is received
pub part_is : (rx : Receiving) (window q : ℕ) (payload : List ℕ) → rx.ended ≡ false
    → with_data rx window q payload ≡ with_part rx (max q (1 + length rx.got) - 1)
    (trimmed (1 + length rx.got) window q payload)
part_is rx window q payload going =
    let r : next_place rx ≡ 1 + length rx.got = grind arith in
    ap (λ (t : Bool). cond t rx (with_part rx (max q (next_place rx) - 1) (trimmed (next_place rx) window q payload)))
    going
    ∙ ap (λ (n : ℕ). with_part rx (max q n - 1) (trimmed n window q payload)) r

pub none_part : (rx : Receiving) (at : ℕ) (part : List ℕ) → length part ≡ 0 → with_part rx at part ≡ rx
none_part rx at [] none = refl
none_part rx at (b ∷ part) none = absurd (omega arith)

pub next_part : (rx : Receiving) (at : ℕ) (part : List ℕ) → 0 < length part → at ≡ length rx.got
    → with_part rx at part ≡ grown rx part
next_part rx at [] some here = absurd (omega arith)
next_part rx at (b ∷ part) some here =
    let same : eqb at (length rx.got) ≡ true = grind (arith, nat_tests) in
    ap (λ (t : Bool). cond t (grown rx (b ∷ part)) (record rx { island = kept_apart rx.island at (b ∷ part) })) same

pub far_part : (rx : Receiving) (at : ℕ) (part : List ℕ) → 0 < length part → length rx.got < at
    → with_part rx at part ≡ record rx { island = kept_apart rx.island at part }
far_part rx at [] some past = absurd (omega arith)
far_part rx at (b ∷ part) some past =
    let other : eqb at (length rx.got) ≡ false = grind (arith, nat_tests) in
    ap (λ (t : Bool). cond t (grown rx (b ∷ part)) (record rx { island = kept_apart rx.island at (b ∷ part) })) other
