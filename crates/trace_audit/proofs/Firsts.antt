-- Where a byte is found first.
use Rattle.std.proofs.Common.{◌≡◌, ◌≤◌, ◌<◌, ◌+◌, ℕ, zero, suc, Bool, true, false, List, [], ◌∷◌, length, Option, Some}
use Rattle.std.proofs.Common.{None, slice_index, refl, sym, ap, ◌∙◌, arith, tests}
use Rattle.std.specs.Prelude.{position, nat_lt}
use Rattle.std.specs.List.{position_or_len}
use Rattle.memchr.specs.Find.{IsFirstByte}

-- what stands before the first that passes
before_first : (test : ℕ → Bool) (xs : List ℕ) (k : ℕ) → k < length xs → test (slice_index xs k) ≡ true
    → ((i : ℕ) → i < k → test (slice_index xs i) ≡ false) → position_or_len test xs ≡ k
before_first test [] k h here none = absurd (omega (arith, h))
before_first test (x ∷ xs) zero h here none = rw (position_or_len, here) refl
before_first test (x ∷ xs) (suc k) h here none =
    let more : position_or_len test xs ≡ k = before_first test xs k (omega (arith, h)) here
    (λ i below. none (suc i) (omega (arith, below))) in
    rw (position_or_len, none 0 (omega arith), more) (omega arith)

nowhere : (test : ℕ → Bool) (xs : List ℕ) → ((i : ℕ) → i < length xs → test (slice_index xs i) ≡ false)
    → position_or_len test xs ≡ length xs
nowhere test [] none = refl
nowhere test (x ∷ xs) none =
    let more : position_or_len test xs ≡ length xs = nowhere test xs (λ i h. none (suc i) (omega (arith, h))) in
    rw (position_or_len, none 0 (omega arith), more) (omega arith)

fails : (b : Bool) → (b ≡ true → ⊥) → b ≡ false
fails true never = absurd (never refl)
fails false _ = refl

at_place : (n len : ℕ) → n < len → nat_lt n len ≡ true
at_place n len h = grind (arith, tests, h)

at_end : (n : ℕ) → nat_lt n n ≡ false
at_end n = grind (arith, tests)

-- The first place whose byte passes is what a search by position gives.
pub first_is_position : (test : ℕ → Bool) (xs : List ℕ) (r : Option ℕ) → IsFirstByte test xs r → r ≡ position test xs
first_is_position test xs None none =
    let all : position_or_len test xs ≡ length xs = nowhere test xs
    (λ i h. fails (test (slice_index xs i)) (none i (omega arith) h)) in
    rw (all, at_end (length xs)) refl
first_is_position test xs (Some k) first =
    let place : position_or_len test xs ≡ k = before_first test xs k first.0.high first.1
    (λ i h. fails (test (slice_index xs i)) (first.0.before i (omega arith) h)) in
    rw (place, at_place k (length xs) first.0.high) refl
