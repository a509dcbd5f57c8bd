-- The parts after bytes past a gap were joined to those that are kept.
use Rattle.std.proofs.Common.{◌≡◌, ℕ, ◌+◌, ◌-◌, ◌<◌, ◌≤◌, Bool, true, false, cond, leb, List, ◌++◌, length, take, drop}
use Rattle.std.proofs.Common.{max, min, Option, Some, refl, sym, ◌∙◌, ap, subst, arith, length-append, length-drop}
use Rattle.std.proofs.Common.{length-take}
use Rattle.std.proofs.lemmas.Bool.Decides.{nat_tests}
use Rattle.std.proofs.lemmas.List.{take_all}
use Rattle.payload_ring.specs.Window.{overlaid}
use Rattle.tas_model.specs.Endpoint.{Endpoint, Island}
use Rattle.tas_model.specs.Reassembly.{meets, joined, kept_apart}
use Rattle.tas_model.specs.Valid.{ValidReceiving, IsPastGap, PastGap}
use Rattle.flow_state.specs.declared.parts.Parts.{Parts}
use Rattle.flow_state.specs.Stands.{Stands, IsIsland}
use Rattle.flow_state.proofs.Receiving.{stands_received}
use Rattle.fast_rx.proofs.Growing.{empty_is}
use Rattle.fast_rx.proofs.Joining.{StandsAt, joined_stands}

-- the parts with other cells ahead
apart : (p : Parts) (e : Endpoint) (ahead : List ℕ) (kept : Option (ℕ × ℕ)) (island : Option Island) → Stands p e
    → IsIsland kept ahead (length e.rx.got) island
    → Stands (record p { rx = record (p.rx) { ahead = ahead }; island = kept })
    (record e { rx = record (e.rx) { island = island } })
apart p e ahead kept island s is =
    stands_received p e (record (p.rx) { ahead = ahead }) kept p.rcv e.rx.got e.rx.read island s s.rcv refl
    (record { size = s.rx.size; base = s.rx.base; bytes = s.rx.bytes }) is

-- the first x, where there are so many
take_least : (x : ℕ) (xs : List ℕ) → take (min x (length xs)) xs ≡ take x xs
take_least x xs = by_length (leb x (length xs)) refl
  where
    by_length : (t : Bool) → leb x (length xs) ≡ t → take (min x (length xs)) xs ≡ take x xs
    by_length true h = let n : min x (length xs) ≡ x = grind (arith, nat_tests) in ap (λ (k : ℕ). take k xs) n
    by_length false h =
        let n : min x (length xs) ≡ length xs = grind (arith, nat_tests) in
        let all : length xs ≤ x = grind (arith, nat_tests) in
        ap (λ (k : ℕ). take k xs) n ∙ (take_all (length xs) xs (omega arith) ∙ sym (take_all x xs all))

drop_least : (x : ℕ) (xs : List ℕ) → drop (min x (length xs)) xs ≡ drop x xs
drop_least x xs = by_length (leb x (length xs)) refl
  where
    by_length : (t : Bool) → leb x (length xs) ≡ t → drop (min x (length xs)) xs ≡ drop x xs
    by_length true h = let n : min x (length xs) ≡ x = grind (arith, nat_tests) in ap (λ (k : ℕ). drop k xs) n
    by_length false h =
        let all : length xs ≤ x = grind (arith, nat_tests) in
        empty_is (drop (min x (length xs)) xs) (omega (arith, length-drop (min x (length xs)) xs))
        ∙ sym (empty_is (drop x xs) (omega (arith, length-drop x xs)))

-- where the joined bytes are kept, `end` being the end of what is in order
abbrev pub joined_span : Island → (at : ℕ) (part : List ℕ) (end : ℕ) → ℕ × ℕ
joined_span i at part end = (
  min (i.at - end) (at - end),
  max (i.at + length i.bytes - end) (at - end + length part) - min (i.at - end) (at - end),
)

abbrev pub joined_ahead : (ahead : List ℕ) (at : ℕ) (part : List ℕ) (end before behind : ℕ) → List ℕ
joined_ahead ahead at part end before behind =
    overlaid (at + behind - end) (drop behind part) (overlaid (at - end) (take before part) ahead)

joined_is : (ahead : List ℕ) (i : Island) (at : ℕ) (part : List ℕ) (end : ℕ) → end < i.at → end < at
    → at + length part ≤ end + length ahead → at ≤ i.at + length i.bytes → i.at ≤ at + length part
    → StandsAt ahead (i.at - end) i.bytes
    → IsIsland (Some (joined_span i at part end))
    (joined_ahead ahead at part end (min (i.at - at) (length part))
    (min (i.at + length i.bytes - at) (length part))) end (Some (joined i at part))
joined_is ahead i at part end past past' fits meets meets' is =
    let before : ℕ = min (i.at - at) (length part) in
    let behind : ℕ = min (i.at + length i.bytes - at) (length part) in
    let left : length (take before part) ≡ before = omega (arith, length-take before part) in
    let right : length (drop behind part) ≡ length part - behind = length-drop behind part in
    let there : StandsAt (joined_ahead ahead at part end before behind) (min (i.at - end) (at - end))
    ((take before part ++ i.bytes) ++ drop behind part) =
    joined_stands ahead (i.at - end) (at - end) (i.at + length i.bytes - end) (at + behind - end)
    (take before part) i.bytes (drop behind part) is (omega arith)
    (omega (arith, left)) (omega (arith, right)) (λ some. omega (arith, left, some)) (λ none. omega (arith, left, none))
    (λ some. omega (arith, right, some)) in
    let bytes : (take before part ++ i.bytes) ++ drop behind part ≡ (joined i at part).bytes =
    ap (λ (xs : List ℕ). (xs ++ i.bytes) ++ drop behind part) (take_least (i.at - at) part)
    ∙ ap (λ (xs : List ℕ). (take (i.at - at) part ++ i.bytes)
    ++ xs) (drop_least (i.at + length i.bytes - at) part) in
    let start : min (i.at - end) (at - end) ≡ min at i.at - end = omega arith in
    let len : length ((take before part ++ i.bytes) ++ drop behind part)
    ≡ max (i.at + length i.bytes - end) (at - end + length part) - min (i.at - end) (at - end) =
    omega (
      arith,
      left,
      right,
      length-append (take before part ++ i.bytes) (drop behind part),
      length-append (take before part) i.bytes,
    ) in
    let len' : max (i.at + length i.bytes - end) (at - end + length part) - min (i.at - end) (at - end)
    ≡ length (joined i at part).bytes = sym len ∙ ap (length {A = ℕ}) bytes in (
      ap (λ (n : ℕ). span n (max (i.at + length i.bytes - end) (at - end + length part) - min (i.at - end) (at - end)))
          start ∙ ap (span (min at i.at - end)) len',
      subst (λ (n : ℕ). StandsAt (joined_ahead ahead at part end before behind) n (joined i at part).bytes) start
          (subst (StandsAt (joined_ahead ahead at part end before behind) (min (i.at - end) (at - end))) bytes there),
    )
  where
    span : ℕ → ℕ → Option (ℕ × ℕ)
    span a b = Some (a, b)

pub joined_parts : (p : Parts) (e : Endpoint) (i : Island) (at : ℕ) (part : List ℕ) → ValidReceiving e.params.ring e.rx
    → e.rx.island ≡ Some i → Stands p e
    → length e.rx.got < at → at + length part ≤ length e.rx.got + length p.rx.ahead → at ≤ i.at + length i.bytes
    → i.at ≤ at + length part
    → Stands (record p {
      rx = record (p.rx) {
        ahead = joined_ahead p.rx.ahead at part (length e.rx.got) (min (i.at - at) (length part))
            (min (i.at + length i.bytes - at) (length part));
      };
      island = Some (joined_span i at part (length e.rx.got));
    }) (record e { rx = record (e.rx) { island = kept_apart (Some i) at part } })
joined_parts p e i at part v is s past fits touches touches' =
    let kept : IsIsland p.island p.rx.ahead (length e.rx.got) (Some i) =
    subst (IsIsland p.island p.rx.ahead (length e.rx.got)) is s.island in
    let gap : PastGap (length e.rx.got) (e.rx.read + e.params.ring) i =
    subst (IsPastGap (length e.rx.got) (e.rx.read + e.params.ring)) is v.island in
    let meet : meets i at part ≡ true = grind (arith, nat_tests) in
    let all : kept_apart (Some i) at part ≡ Some (joined i at part) =
    ap (λ (t : Bool). cond t (Some (joined i at part)) (Some i)) meet in
    apart p e _ _ (kept_apart (Some i) at part) s
    (subst (IsIsland (Some (joined_span i at part (length e.rx.got)))
    (joined_ahead p.rx.ahead at part (length e.rx.got) (min (i.at - at) (length part))
    (min (i.at + length i.bytes - at) (length part))) (length e.rx.got)) (sym all)
    (joined_is p.rx.ahead i at part (length e.rx.got) gap.past past fits touches touches' kept.1))
