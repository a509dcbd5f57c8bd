-- What single words spell: a number, a value behind a name.
use Rattle.std.proofs.Common.{◌≡◌, ◌≢◌, ℕ, ◌+◌, ◌<◌, ◌^◌, ◌&&◌, Bool, true, false, cond, List}
use Rattle.std.proofs.Common.{[], ◌∷◌, ◌++◌, length, take, drop, decimal, Option, Some, None, Result, Ok, Err}
use Rattle.std.proofs.Common.{MatchOption, option_map, bytes_eq, Bor, refl, sym, ap, ◌∙◌, arith}
use Rattle.std.specs.Prelude.{nat_lt}
use Rattle.std.proofs.Math.Seq.{take-append_seam}
use Rattle.std.proofs.lemmas.Bool.{true≢false}
use Rattle.std.proofs.lemmas.Bool.Decides.{nat_tests}
use Rattle.std.proofs.lemmas.List.{take-append-drop, drop_all}
use Rattle.std.proofs.lemmas.Fmt.{decimal_is_IsNumeral, parse-decimal, decimal_nonempty}
use Rattle.std.proofs.lemmas.Slice.Eq.{bytes_eq-Decides}
use Rattle.std.specs.Str.Parse.{ParsesUnsigned, digits_value}
use Rattle.std.specs.Str.Pattern.{FindsTextPrefix}
use Rattle.picture_top.specs.Words.{number_in, is_number, behind, is_colon, flow_in, named}
use Rattle.std.specs.List.{position_or_len, before_first}

-- ----- a number
-- what a number below 2^32 is the decimal of
is_its : (text : List ℕ) (n : ℕ) → is_number text n ≡ true → (n < 2 ^ 32) × (text ≡ decimal n)
is_its text n e = by_tests (nat_lt n (2 ^ 32)) (bytes_eq text (decimal n)) refl refl e
  where
    by_tests : (a b : Bool) → nat_lt n (2 ^ 32) ≡ a → bytes_eq text (decimal n) ≡ b → (a && b) ≡ true
        → (n < 2 ^ 32) × (text ≡ decimal n)
    by_tests true true p q e = (grind (arith, nat_tests, p), (bytes_eq-Decides text (decimal n)).0 q)
    by_tests true false p q e = absurd (true≢false (sym e))
    by_tests false b p q e = absurd (true≢false (sym e))

-- a decimal is that of the number that its digits write
pub number_found : (text : List ℕ) (n : ℕ) → n < 2 ^ 32 → text ≡ decimal n → number_in text ≡ Some n
number_found text n small e =
    let value : digits_value 10 text ≡ n = ap (digits_value 10) e ∙ (decimal_is_IsNumeral n (omega (arith, small))).1 in
    let low : nat_lt n (2 ^ 32) ≡ true = grind (arith, nat_tests, small) in
    let same : bytes_eq text (decimal n) ≡ true = (bytes_eq-Decides text (decimal n)).1 e in
    rw (value, low, same) refl

-- a text that is none has no number
pub no_number : (text : List ℕ) → ((n : ℕ) → n < 2 ^ 32 → text ≢ decimal n) → number_in text ≡ None
no_number text unlike = by_test (is_number text (digits_value 10 text)) refl
  where
    by_test : (b : Bool) → is_number text (digits_value 10 text) ≡ b
        → cond b (Some (digits_value 10 text)) None ≡ None
    by_test false q = refl
    by_test true q = let its = is_its text (digits_value 10 text) q in absurd
        (unlike (digits_value 10 text) its.0 its.1)

-- a text that is not parsed is none
pub unparsed : {E : Type 0} (text : List ℕ) (r : Result ℕ E) (e : E) → ParsesUnsigned 32 10 text r → r ≡ Err e
    → number_in text ≡ None
unparsed text r e parses is = no_number text (λ n small same. absurd
    (cc (is, parse-decimal 32 n text r small (omega (arith, small)) same parses)))

-- nor is one that is not the decimal of what it is parsed as
pub written_else : {E : Type 0} (text : List ℕ) (r : Result ℕ E) (k : ℕ) → ParsesUnsigned 32 10 text r → r ≡ Ok k
    → text ≢ decimal k → number_in text ≡ None
written_else {E} text r k parses is unlike = no_number text other
  where
    other : (n : ℕ) → n < 2 ^ 32 → text ≢ decimal n
    other n small same =
        let here : n ≡ k = cc (is, parse-decimal 32 n text r small (omega (arith, small)) same parses) in
        unlike (same ∙ ap decimal here)

-- ----- a value behind a name
pub stripped : (name word : List ℕ) (r : Option (Bor (List ℕ)))
    → MatchOption r (FindsTextPrefix name word None) (λ x. (n : ℕ) × FindsTextPrefix name word (Some n)
    × (x.now ≡ drop n word) × (length x.now + n ≡ length word)) → option_map (λ text. text.now) r ≡ behind name word
stripped name word None lacks = by_test (bytes_eq (take (length name) word) name) refl
  where
    by_test : (b : Bool) → bytes_eq (take (length name) word) name ≡ b
        → None ≡ cond b (Some (drop (length name) word)) None
    by_test false q = refl
    by_test true q =
        let front : take (length name) word ≡ name = (bytes_eq-Decides (take (length name) word) name).0 q in
        absurd (lacks (drop (length name) word) (sym (take-append-drop (length name) word)
        ∙ ap (λ (xs : List ℕ). xs ++ drop (length name) word) front))
stripped name word (Some x) strips =
    let n = strips.0 in
    let len : n ≡ length name = strips.1.0 in
    let front : take (length name) word ≡ name = ap (take (length name)) strips.1.1
    ∙ take-append_seam name (drop n word) in
    let rest : x.now ≡ drop (length name) word = strips.2 ∙ ap (λ (i : ℕ). drop i word) len in
    rw (rest, (bytes_eq-Decides (take (length name) word) name).1 front) refl

-- ----- a flow
-- no number is written by nothing
nothing_written : number_in [] ≡ None
nothing_written = no_number [] (λ n small e.
    let some : 0 < length (decimal n) = decimal_nonempty n (omega (arith, small)) in
    omega (arith, some, ap length e))

none_named : (host : List ℕ) → named host None ≡ None
none_named [] = refl
none_named (c ∷ host) = refl

-- a text without a colon names none
pub no_colon : (text : List ℕ) → position_or_len is_colon text ≡ length text → flow_in text ≡ None
no_colon text e =
    ap (λ (t : List ℕ). named (before_first is_colon text) (number_in t))
    (drop_all (position_or_len is_colon text + 1) text (omega (arith, e)))
    ∙ (ap (λ (m : Option ℕ). named (before_first is_colon text) m) nothing_written
    ∙ none_named (before_first is_colon text))
