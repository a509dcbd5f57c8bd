-- A line that is whole stays so, whatever comes behind it.
use Rattle.std.proofs.Common.{◌≡◌, ℕ, ◌+◌, ◌-◌, ◌<◌, ◌≤◌, Bool, true, false, not, cond, eqb, leb, List, [], ◌∷◌}
use Rattle.std.proofs.Common.{◌++◌, length, take, drop, Option, Some, None, refl, sym, ap, ◌∙◌, arith, nat_lt, nat_le}
use Rattle.std.proofs.Common.{length-append, length-take, length-drop}
use Rattle.std.specs.Prelude.{position}
use Rattle.std.specs.List.{position_or_len}
use Rattle.std.proofs.lemmas.Bool.Decides.{nat_tests}
use Rattle.std.proofs.lemmas.List.{take-append-le, drop-append-le, take_all}
use Rattle.std.proofs.lemmas.List.Folds.{prefix_len-append}
use Rattle.std.proofs.lemmas.List.Sums.{prefix_len-le-length}
use Rattle.std.proofs.Math.Seq.{take-append-add, drop-append-add, take-append_seam}
use Rattle.kv_sessions.specs.Lines.{Unended, TooLong, Line, first_line, line_at, text_of, is_line_feed}

-- ----- the place of the first byte that passes
place_by : (at n e : ℕ) (b : Bool) → cond b (Some at) None ≡ Some e → b ≡ nat_lt at n → (at ≡ e) × (at < n)
place_by at n e true h t = (cc (h), grind (arith, nat_tests, t))
place_by at n e false h t = absurd (cc (h))

pub place : (p : ℕ → Bool) (xs : List ℕ) (e : ℕ) → position p xs ≡ Some e
    → (position_or_len p xs ≡ e) × (position_or_len p xs < length xs)
place p xs e h = place_by (position_or_len p xs) (length xs) e (nat_lt (position_or_len p xs) (length xs)) h refl

no_place_by : (at n : ℕ) (b : Bool) → ◌≡◌ {A = Option ℕ} (cond b (Some at) None) None → b ≡ nat_lt at n → n ≤ at
no_place_by at n true h t = absurd (cc (h))
no_place_by at n false h t = grind (arith, nat_tests, t)

pub no_place : (p : ℕ → Bool) (xs : List ℕ) → position p xs ≡ None → length xs ≤ position_or_len p xs
no_place p xs h = no_place_by (position_or_len p xs) (length xs) (nat_lt (position_or_len p xs) (length xs)) h refl

at_place : (at n e : ℕ) → at ≡ e → e < n → cond (nat_lt at n) (Some at) None ≡ Some e
at_place at n e same below =
    let t : nat_lt at n ≡ true = grind (arith, nat_tests, same, below) in
    rw t (ap (λ (k : ℕ). Some k) same)

pub at_none : (at n : ℕ) → n ≤ at → ◌≡◌ {A = Option ℕ} (cond (nat_lt at n) (Some at) None) None
at_none at n h = let t : nat_lt at n ≡ false = grind (arith, nat_tests, h) in rw t refl

-- it stays where more comes behind
front : (at n more : ℕ) → at < n → cond (eqb at n) (n + more) at ≡ at
front at n more h = let t : eqb at n ≡ false = grind (arith, nat_tests, h) in rw t refl

place_stays : (p : ℕ → Bool) (xs ys : List ℕ) (e : ℕ) → position p xs ≡ Some e → position p (xs ++ ys) ≡ Some e
place_stays p xs ys e h =
    let here = place p xs e h in
    let same : position_or_len p (xs ++ ys) ≡ e =
    prefix_len-append (λ (c : ℕ). not (p c)) xs ys
    ∙ front (position_or_len p xs) (length xs) (position_or_len p ys) here.1 ∙ here.0 in
    at_place _ _ e same (omega (arith, length-append xs ys, here.0, here.1))

-- among the first n bytes
take_behind : (n : ℕ) (xs ys : List ℕ) → length xs ≤ n → take n (xs ++ ys) ≡ xs ++ take (n - length xs) ys
take_behind n xs ys h =
    let whole : length xs + (n - length xs) ≡ n = omega arith in
    ap (λ (k : ℕ). take k (xs ++ ys)) (sym whole) ∙ take-append-add xs ys (n - length xs)

place_kept : (n : ℕ) (p : ℕ → Bool) (xs ys : List ℕ) (e : ℕ) → position p (take n xs) ≡ Some e
    → position p (take n (xs ++ ys)) ≡ Some e
place_kept n p xs ys e h = by_length (leb n (length xs)) refl
  where
    by_length : (b : Bool) → leb n (length xs) ≡ b → position p (take n (xs ++ ys)) ≡ Some e
    by_length true t =
        let enough : n ≤ length xs = grind (arith, nat_tests, t) in
        rw (take-append-le n xs ys enough) h
    by_length false t =
        let few : length xs ≤ n = grind (arith, nat_tests, t) in
        let all : position p xs ≡ Some e = rw (take_all n xs few) at h in
        rw (take_behind n xs ys few) (place_stays p xs (take (n - length xs) ys) e all)

-- ----- a whole line
line_by : (b : Bool) (t r text rest ys : List ℕ) → cond b (Line t r) TooLong ≡ Line text rest
    → cond b (Line t (r ++ ys)) TooLong ≡ Line text (rest ++ ys)
line_by true t r text rest ys h = cc (h)
line_by false t r text rest ys h = absurd (cc (h))

long_by : (b : Bool) (t r r' : List ℕ) → cond b (Line t r) TooLong ≡ TooLong → cond b (Line t r') TooLong ≡ TooLong
long_by true t r r' h = absurd (cc (h))
long_by false t r r' h = refl

open_or_long : (b : Bool) (text rest : List ℕ) → cond b Unended TooLong ≡ Line text rest → ⊥
open_or_long true text rest h = cc (h)
open_or_long false text rest h = cc (h)

end_within : (bytes : List ℕ) (e : ℕ) → position is_line_feed (take 514 bytes) ≡ Some e → e < length bytes
end_within bytes e h =
    let here = place is_line_feed (take 514 bytes) e h in
    omega (arith, length-take 514 bytes, here.0, here.1)

pub line_stays : (bytes more text rest : List ℕ) → first_line bytes ≡ Line text rest
    → first_line (bytes ++ more) ≡ Line text (rest ++ more)
line_stays bytes more text rest h = by_end (position is_line_feed (take 514 bytes)) refl h
  where
    by_end : (end : Option ℕ) → position is_line_feed (take 514 bytes) ≡ end → line_at bytes end ≡ Line text rest
        → first_line (bytes ++ more) ≡ Line text (rest ++ more)
    by_end None at g = absurd (open_or_long _ text rest g)
    by_end (Some e) at g =
        let within : e < length bytes = end_within bytes e at in
        let before : e ≤ length bytes = omega arith in
        let behind : e + 1 ≤ length bytes = omega arith in
        rw (
          place_kept 514 is_line_feed bytes more e at,
          take-append-le e bytes more before,
          drop-append-le
              (e + 1) bytes more behind,
        )
        (line_by (nat_le (length (text_of (take e bytes))) 512) (text_of (take e bytes)) (drop
        (e + 1) bytes) text rest more g)

pub long_stays : (bytes more : List ℕ) → first_line bytes ≡ TooLong → first_line (bytes ++ more) ≡ TooLong
long_stays bytes more h = by_end (position is_line_feed (take 514 bytes)) refl h
  where
    by_end : (end : Option ℕ) → position is_line_feed (take 514 bytes) ≡ end → line_at bytes end ≡ TooLong
        → first_line (bytes ++ more) ≡ TooLong
    by_end None at g =
        let enough : 514 ≤ length bytes = long_of (nat_lt (length bytes) 514) refl g in
        let still : nat_lt (length (bytes ++ more)) 514 ≡ false =
        (let longer : 514 ≤ length (bytes ++ more) = omega (arith, length-append bytes more) in
        grind (arith, nat_tests, longer)) in
        rw (take-append-le 514 bytes more enough, at, still) refl where
          long_of : (b : Bool) → nat_lt (length bytes) 514 ≡ b → cond b Unended TooLong ≡ TooLong → 514 ≤ length bytes
          long_of true t i = absurd (cc (i))
          long_of false t i = grind (arith, nat_tests, t)
    by_end (Some e) at g =
        let within : e < length bytes = end_within bytes e at in
        let before : e ≤ length bytes = omega arith in
        rw (place_kept 514 is_line_feed bytes more e at, take-append-le e bytes more before)
        (long_by (nat_le (length (text_of (take e bytes))) 512) (text_of (take e bytes)) (drop (e + 1) bytes) _ g)

-- what comes behind a line is less than what began with it
pub line_shortens : (bytes text rest : List ℕ) → first_line bytes ≡ Line text rest → length rest < length bytes
line_shortens bytes text rest h = by_end (position is_line_feed (take 514 bytes)) refl h
  where
    line_rest : (b : Bool) (t r : List ℕ) → cond b (Line t r) TooLong ≡ Line text rest → r ≡ rest
    line_rest true t r g = cc (g)
    line_rest false t r g = absurd (cc (g))

    by_end : (end : Option ℕ) → position is_line_feed (take 514 bytes) ≡ end → line_at bytes end ≡ Line text rest
        → length rest < length bytes
    by_end None at g = absurd (open_or_long _ text rest g)
    by_end (Some e) at g =
        let within : e < length bytes = end_within bytes e at in
        let same = line_rest (nat_le (length (text_of (take e bytes))) 512) (text_of (take e bytes)) (drop
        (e + 1) bytes) g in
        omega (arith, length-drop (e + 1) bytes, ap length same)

-- ----- bytes that end with the line's LF
at_seam : (at n : ℕ) → n ≤ at → at ≤ n → cond (eqb at n) (n + 0) at ≡ n
at_seam at n i j =
    let same : at ≡ n = omega arith in
    let t : eqb at n ≡ true = grind (arith, nat_tests, same) in
    rw t (omega arith)

last_place : (before : List ℕ) → position is_line_feed before ≡ None
    → position is_line_feed (before ++ 10 ∷ []) ≡ Some (length before)
last_place before h =
    let none : length before ≤ position_or_len is_line_feed before = no_place is_line_feed before h in
    let most : position_or_len is_line_feed before ≤ length before =
    prefix_len-le-length (λ (c : ℕ). not (is_line_feed c)) before in
    let same : position_or_len is_line_feed (before ++ 10 ∷ []) ≡ length before =
    prefix_len-append (λ (c : ℕ). not (is_line_feed c)) before (10 ∷ [])
    ∙ at_seam (position_or_len is_line_feed before) (length before) none most in
    at_place _ _ (length before) same (omega (arith, length-append before (10 ∷ [])))

pub line_ends : (before : List ℕ) → position is_line_feed before ≡ None → length before < 514
    → first_line (before ++ 10 ∷ []) ≡ cond (nat_le (length (text_of before)) 512) (Line (text_of before) []) TooLong
line_ends before h short =
    let size : length (before ++ 10 ∷ []) ≤ 514 = omega (arith, length-append before (10 ∷ [])) in
    rw (
      take_all 514 (before ++ 10 ∷ []) size,
      last_place before h,
      take-append_seam before (10 ∷ []),
      drop-append-add before (10 ∷ []) 1,
    ) refl

-- bytes without a LF
pub line_open : (bytes : List ℕ) → position is_line_feed bytes ≡ None → length bytes ≤ 514
    → first_line bytes ≡ cond (nat_lt (length bytes) 514) Unended TooLong
line_open bytes h short = rw (take_all 514 bytes short, h) refl
