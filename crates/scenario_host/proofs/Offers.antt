-- What a Send offers: the rest of a text, and the bytes of `fill` from one of them on.
use Rattle.std.proofs.Common.{◌≡◌, ◌≤◌, ◌+◌, ◌-◌, ◌%◌, ℕ, zero, suc, List, ◌∷◌, length, map, take, drop, min}
use Rattle.std.proofs.Common.{refl, sym, ap, ◌∙◌, arith, length-drop}
use Rattle.std.specs.List.{range_with_len}
use Rattle.std.proofs.lemmas.List.{drop-map, take-map, take_all}
use Rattle.std.proofs.lemmas.List.FromFn.{length-map-range_with_len}
use Rattle.scenario_runs.specs.Applications.{most, filling}

-- the rest of a text is offered whole
pub rest_offered : (text : List ℕ) (done : ℕ) → length text ≤ 4096
    → take (length text - done) (drop done text) ≡ take most (drop done text)
rest_offered text done few =
    let len = length-drop done text in
    let all : length (drop done text) ≤ length text - done = omega (arith, len) in
    let enough : length (drop done text) ≤ most = omega (arith, len, few) in
    take_all (length text - done) (drop done text) all ∙ sym (take_all most (drop done text) enough)

-- ----- fill
pub length-filling : (count : ℕ) → length (filling count) ≡ count
length-filling count = length-map-range_with_len (λ (k : ℕ). k % 251) 0 count

drop_range : (a n d : ℕ) → d ≤ n → drop d (range_with_len a n) ≡ range_with_len (a + d) (n - d)
drop_range a n zero few =
    let from : a ≡ a + 0 = omega arith in
    let count : n ≡ n - 0 = omega arith in
    ap (λ (b : ℕ). range_with_len b n) from ∙ ap (range_with_len (a + 0)) count
drop_range a zero (suc d) few = absurd (omega (arith, few))
drop_range a (suc n) (suc d) few =
    let from : (a + 1) + d ≡ a + suc d = omega arith in
    let count : n - d ≡ suc n - suc d = omega arith in
    drop_range (a + 1) n d (omega (arith, few))
    ∙ (ap (λ (b : ℕ). range_with_len b (n - d)) from ∙ ap (range_with_len (a + suc d)) count)

take_range : (a n k : ℕ) → take k (range_with_len a n) ≡ range_with_len a (min k n)
take_range a n zero = let none : 0 ≡ min 0 n = omega arith in ap (range_with_len a) none
take_range a zero (suc k) = let none : 0 ≡ min (suc k) 0 = omega arith in ap (range_with_len a) none
take_range a (suc n) (suc k) =
    let count : suc (min k n) ≡ min (suc k) (suc n) = omega arith in
    ap (λ (ks : List ℕ). a ∷ ks) (take_range (a + 1) n k) ∙ ap (range_with_len a) count

abbrev byte : ℕ → ℕ
byte k = k % 251

-- some of so many bytes, from one of them on
some_of : (len from count : ℕ) → from ≤ count
    → take len (drop from (filling count)) ≡ map byte (range_with_len from (min len (count - from)))
some_of len from count few =
    let first : 0 + from ≡ from = omega arith in
    ap (take len) (drop-map byte from (range_with_len 0 count))
    ∙ (take-map byte len (drop from (range_with_len 0 count))
    ∙ ap (map byte)
    (ap (take len) (drop_range 0 count from few ∙ ap (λ (a : ℕ). range_with_len a (count - from)) first)
    ∙ take_range from (count - from) len))

-- they come again
again : (n a b : ℕ) → a % 251 ≡ b % 251 → map byte (range_with_len a n) ≡ map byte (range_with_len b n)
again zero a b same = refl
again (suc n) a b same =
    let next : (a + 1) % 251 ≡ (b + 1) % 251 = omega (arith, same) in
    ap (λ (k : ℕ). k ∷ map byte (range_with_len (a + 1) n)) same
    ∙ ap (λ (ks : List ℕ). b % 251 ∷ ks) (again n (a + 1) (b + 1) next)

-- what is offered of so many, found among others
pub offered_again : (done count whole : ℕ) → done ≤ count → done % 251 + min most (count - done) ≤ whole
    → take (min most (count - done)) (drop (done % 251) (filling whole)) ≡ take most (drop done (filling count))
offered_again done count whole few room =
    let len : ℕ = min most (count - done) in
    let enough : min len (whole - done % 251) ≡ len = omega (arith, room) in
    let same : (done % 251) % 251 ≡ done % 251 = omega arith in
    some_of len (done % 251) whole (omega (arith, room))
    ∙ (ap (λ (n : ℕ). map byte (range_with_len (done % 251) n)) enough
    ∙ (again len (done % 251) done same ∙ sym (some_of most done count few)))
