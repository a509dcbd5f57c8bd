-- What a text begins with: words and bytes of one kind.
use Rattle.std.proofs.Common.{◌≡◌, ◌≢◌, ℕ, suc, ◌+◌, ◌≤◌, Bool, true, false, not, cond, eqb, ltb, List, [], ◌∷◌}
use Rattle.std.proofs.Common.{◌++◌, length, map, take, Option, Some, None, refl, sym, ap, ◌∙◌, arith}
use Rattle.std.proofs.Common.{take-append-drop}
use Rattle.std.proofs.Common.{inl, inr}
use Rattle.std.specs.Prelude.{position, unwrap_or}
use Rattle.std.specs.Option.{MatchOption}
use Rattle.std.specs.List.{list_all, prefix_len, position_or_len, take_while}
use Rattle.std.proofs.lemmas.Bool.{eqb-true, eq-eqb, and_parts, cases_lt, lt-ltb, le-ltb}
use Rattle.std.proofs.lemmas.List.{take_at, drop_at, length-map}
use Rattle.std.proofs.lemmas.List.Sums.{prefix_len-le-length}
use denote.Ref.{Bor}
use Rattle.report_lines.specs.Fronts.{with, or, behind, past}

-- ----- what comes of a value
pub with_some : {A B : Type 0} (f : A → Option B) (o : Option A) (y : B) → with f o ≡ Some y
    → (x : A) × (o ≡ Some x) × (f x ≡ Some y)
unfolding with
with_some f None y e = absurd (cc (e))
with_some f (Some x) y e = (x, refl, e)

pub with_again : {A B : Type 0} (f : A → Option B) (o : Option A) (x : A) (y : Option B) → o ≡ Some x → f x ≡ y
    → with f o ≡ y
unfolding with
with_again f o x y e h = rw e h

pub with_none : {A B : Type 0} (f : A → Option B) (o : Option A) → o ≡ None → with f o ≡ None
unfolding with
with_none f o e = rw e refl

-- ----- the first of two
-- What holds of each value that either gives holds of the one that is given.
abbrev pub Found : {A : Type 0} → (A → Type 0) → Option A → Type 0
Found {A} P o = (x : A) → o ≡ Some x → P x

pub or_found : {A : Type 0} (P : A → Type 0) (a b : Option A) → Found P a → Found P b → Found P (or a b)
unfolding or
or_found P (Some x) b f g y e = f y e
or_found P None b f g y e = g y e

pub first_again : {A : Type 0} (a b : Option A) (x : A) → a ≡ Some x → or a b ≡ Some x
unfolding or
first_again a b x e = rw e refl

pub second_again : {A : Type 0} (a b : Option A) (x : Option A) → a ≡ None → b ≡ x → or a b ≡ x
unfolding or
second_again a b x e h = rw e h

-- ----- fixed words
pub behind_again : (front rest : List ℕ) → behind front (front ++ rest) ≡ Some rest
unfolding behind
behind_again [] rest = refl
behind_again (c ∷ cs) rest = rw (behind, eq-eqb c c refl) (behind_again cs rest)

tested : {A : Type 0} (t : Bool) (o : Option A) (x : A) → elim t [ true ↦ o | false ↦ None ] ≡ Some x
    → (t ≡ true) × (o ≡ Some x)
tested true o x e = (refl, e)
tested false o x e = absurd (cc (e))

pub behind_front : (front text rest : List ℕ) → behind front text ≡ Some rest → text ≡ front ++ rest
unfolding behind
behind_front [] text rest e = cc (e)
behind_front (c ∷ cs) [] rest e = absurd (cc (e))
behind_front (c ∷ cs) (b ∷ bs) rest e =
    let parts : (eqb b c ≡ true) × (behind cs bs ≡ Some rest) = tested (eqb b c) (behind cs bs) rest e in
    let head : b ≡ c = eqb-true b c parts.0 in
    let others : bs ≡ cs ++ rest = behind_front cs bs rest parts.1 in
    cc (head, others)

pub is_behind : (front text : List ℕ) (r : Option (Bor (List ℕ)))
    → MatchOption r ((rest : List ℕ) → text ≢ front ++ rest) (λ x. text ≡ front ++ x.now)
    → MatchOption r (behind front text ≡ None) (λ x. behind front text ≡ Some x.now)
is_behind front text (Some x) h = ap (behind front) h ∙ behind_again front x.now
is_behind front text None h = by_rest (behind front text) refl where
  by_rest : (o : Option (List ℕ)) → behind front text ≡ o → o ≡ None
  by_rest None e = refl
  by_rest (Some rest) e = absurd (h rest (behind_front front text rest e))

-- ----- bytes of one kind
-- A text does not go on with such a byte.
abbrev pub stops : (ℕ → Bool) → (text : List ℕ) → Bool
stops test [] = true
stops test (c ∷ cs) = not (test c)

run_length : (test : ℕ → Bool) (word rest : List ℕ) → list_all test word ≡ true → stops test rest ≡ true
    → prefix_len test (word ++ rest) ≡ length word
run_length test [] [] all s = refl
run_length test [] (c ∷ cs) all s = by_test (test c) s where
  by_test : (t : Bool) → not t ≡ true → cond t (1 + prefix_len test cs) 0 ≡ 0
  by_test true e = absurd (cc (e))
  by_test false e = refl
run_length test (c ∷ cs) rest all s =
    let parts : (test c ≡ true) × (list_all test cs ≡ true) = and_parts (test c) (list_all test cs) all in
    let more : prefix_len test (cs ++ rest) ≡ length cs = run_length test cs rest parts.1 s in
    rw (parts.0, more) (omega arith)

pub run_again : (test : ℕ → Bool) (word rest : List ℕ) → list_all test word ≡ true → stops test rest ≡ true
    → take_while test (word ++ rest) ≡ word
run_again test word rest all s = take_at word rest (prefix_len test (word ++ rest))
    (sym (run_length test word rest all s))

pub past_again : (test : ℕ → Bool) (word rest : List ℕ) → list_all test word ≡ true → stops test rest ≡ true
    → past test (word ++ rest) ≡ rest
past_again test word rest all s = drop_at word rest (prefix_len test (word ++ rest))
    (sym (run_length test word rest all s))

pub run_whole : (test : ℕ → Bool) (text : List ℕ) → text ≡ take_while test text ++ past test text
run_whole test text = sym (take-append-drop (prefix_len test text) text)

one_passes : (test : ℕ → Bool) (c n : ℕ) (cs : List ℕ) → test c ≡ true → list_all test (take n cs) ≡ true
    → list_all test (take (1 + n) (c ∷ cs)) ≡ true
one_passes test c n cs e h = let next : 1 + n ≡ suc n = omega arith in rw (next, e) h

pub run_passes : (test : ℕ → Bool) (text : List ℕ) → list_all test (take_while test text) ≡ true
run_passes test [] = refl
run_passes test (c ∷ cs) = by_test (test c) refl (run_passes test cs) where
  by_test : (t : Bool) → test c ≡ t → list_all test (take_while test cs) ≡ true
      → list_all test (take (cond t (1 + prefix_len test cs) 0) (c ∷ cs)) ≡ true
  by_test false e h = refl
  by_test true e h = one_passes test c (prefix_len test cs) cs e h

at_place : (n len : ℕ) → n ≤ len → unwrap_or (cond (ltb n len) (Some n) None) len ≡ n
at_place n len h = elim (cases_lt n len) [
  | inl lt ↦ rw (lt-ltb n len lt) refl
  | inr le ↦ rw (le-ltb n len le) (omega arith)
]

twice : (test : ℕ → Bool) (xs : List ℕ) → prefix_len (λ (c : ℕ). not (not (test c))) xs ≡ prefix_len test xs
twice test [] = refl
twice test (c ∷ cs) = by_test (test c) (twice test cs) where
  by_test : (t : Bool) → prefix_len (λ (c : ℕ). not (not (test c))) cs ≡ prefix_len test cs
      → cond (not (not t)) (1 + prefix_len (λ (c : ℕ). not (not (test c))) cs) 0
      ≡ cond t (1 + prefix_len test cs) 0
  by_test true h = ap (λ (n : ℕ). 1 + n) h
  by_test false h = refl

-- the first that fails, or the end, is where the run ends
pub by_position : (test : ℕ → Bool) (text : List ℕ)
    → unwrap_or (position (λ (c : ℕ). not (test c)) text) (length text) ≡ prefix_len test text
by_position test text =
    at_place (position_or_len (λ (c : ℕ). not (test c)) text) (length text)
    (prefix_len-le-length (λ (c : ℕ). not (not (test c))) text) ∙ twice test text

-- ----- names
prefix_mapped : {A B : Type 0} (f : A → B) (p : B → Bool) (xs : List A)
    → prefix_len (λ (x : A). not (p (f x))) xs ≡ prefix_len (λ (y : B). not (p y)) (map f xs)
prefix_mapped f p [] = refl
prefix_mapped {A} {B} f p (x ∷ xs) =
    ap (λ (n : ℕ). cond (not (p (f x))) (1 + n) 0) (prefix_mapped f p xs)

-- the place of a value in a list that is seen through a function
pub position_mapped : {A B : Type 0} (f : A → B) (p : B → Bool) (xs : List A)
    → position (λ (x : A). p (f x)) xs ≡ position p (map f xs)
position_mapped {A} {B} f p xs =
    ap (λ (n : ℕ). cond (ltb n (length xs)) (Some n) None) (prefix_mapped f p xs)
    ∙ ap (λ (len : ℕ). cond (ltb (position_or_len p (map f xs)) len) (Some (position_or_len p (map f xs))) None)
    (sym (length-map xs f))
