-- The names of a report's hosts are of letters and digits, and each is found at its own place alone.
use Rattle.std.proofs.Common.{◌≡◌, ℕ, zero, suc, ◌+◌, ◌≤◌, ◌<◌, Bool, true, false, not, cond, ltb, List, [], ◌∷◌, ◌++◌}
use Rattle.std.proofs.Common.{length, Option, Some, None, refl, sym, ◌∙◌, ap, subst, arith, length-append, inl, inr}
use Rattle.std.proofs.Common.{◌⊎◌}
use Rattle.std.specs.Prelude.{slice_get, bytes_eq, position, codes, nat_lt, ◌||◌, ◌&&◌}
use Rattle.std.specs.List.{position_or_len, list_all, list_any, take_while}
use Rattle.std.proofs.lemmas.Bool.{and_parts}
use Rattle.std.proofs.lemmas.Bool.Decides.{nat_tests}
use Rattle.std.proofs.lemmas.Option.{same_Some}
use Rattle.std.proofs.lemmas.Slice.Eq.{bytes_eq-Decides}
use Rattle.report_lines.specs.Fronts.{behind}
use Rattle.report_lines.specs.Lines.{is_of_word, line_in}
use Rattle.report_lines.specs.Shown.{AreNames}
use Rattle.scenario_text.specs.Words.{is_letter, is_digit}
use Rattle.report_picture.specs.Hosts.{Named, front, is_plain, is_there, may_be_named, addr_in, told_addr, with_addr}
use Rattle.report_picture.specs.Hosts.{with_rest, with_text}

-- ----- places
found : {A : Type 0} (p : A → Bool) (xs : List A) (i : ℕ) → position p xs ≡ Some i
    → (position_or_len p xs ≡ i) × (i < length xs)
found p xs i e = by_test (ltb (position_or_len p xs) (length xs)) (position_or_len p xs) refl refl e where
  by_test : (b : Bool) (n : ℕ) → ltb (position_or_len p xs) (length xs) ≡ b → position_or_len p xs ≡ n
      → cond b (Some n) None ≡ Some i → (position_or_len p xs ≡ i) × (i < length xs)
  by_test true n below is e =
      let same : n ≡ i = same_Some n i e in
      let here : position_or_len p xs ≡ i = is ∙ same in
      (here, grind (arith, nat_tests, below, here))
  by_test false n below is e = absurd (cc (e))

place_is : {A : Type 0} (p : A → Bool) (xs : List A) (i : ℕ) → position_or_len p xs ≡ i → i < length xs
    → position p xs ≡ Some i
place_is p xs i is below = by_place (position_or_len p xs) (length xs) is below where
  by_place : (n len : ℕ) → n ≡ i → i < len → cond (ltb n len) (Some n) None ≡ Some i
  by_place n len is below =
      let t : ltb n len ≡ true = grind (arith, nat_tests, is, below) in
      ap (λ (b : Bool). cond b (Some n) None) t ∙ ap (λ (k : ℕ). Some k) is

-- what stands behind is not looked at
still : {A : Type 0} (p : A → Bool) (xs ys : List A) → position_or_len p xs < length xs
    → position_or_len p (xs ++ ys) ≡ position_or_len p xs
still p [] ys h = absurd (omega (arith, h))
still p (x ∷ xs) ys h = by_first (p x) refl h (λ below. still p xs ys below) where
  by_first : (b : Bool) → p x ≡ b → cond (not b) (1 + position_or_len p xs) 0 < suc (length xs)
      → (position_or_len p xs < length xs → position_or_len p (xs ++ ys) ≡ position_or_len p xs)
      → cond (not b) (1 + position_or_len p (xs ++ ys)) 0 ≡ cond (not b) (1 + position_or_len p xs) 0
  by_first true is h more = refl
  by_first false is h more = ap (λ (n : ℕ). 1 + n) (more (omega (arith, h)))

-- the first that passes stands behind those that do not
last_place : {A : Type 0} (p : A → Bool) (xs : List A) (y : A) → list_any p xs ≡ false → p y ≡ true
    → position_or_len p (xs ++ y ∷ []) ≡ length xs
last_place p [] y none passes = by_test (p y) passes where
  by_test : (b : Bool) → b ≡ true → cond (not b) (1 + 0) 0 ≡ 0
  by_test true e = refl
  by_test false e = absurd (cc (e))
last_place p (x ∷ xs) y none passes = by_first (p x) none (λ rest. last_place p xs y rest passes) where
  by_first : (b : Bool) → (b || list_any p xs) ≡ false
      → (list_any p xs ≡ false → position_or_len p (xs ++ y ∷ []) ≡ length xs)
      → cond (not b) (1 + position_or_len p (xs ++ y ∷ [])) 0 ≡ suc (length xs)
  by_first true none more = absurd (cc (none))
  by_first false none more =
      let later : position_or_len p (xs ++ y ∷ []) ≡ length xs = more none in
      omega (arith, later)

-- ----- one name more
at_place : (names : List (List ℕ)) (name : List ℕ) (i : ℕ) (n : List ℕ)
    → slice_get (names ++ name ∷ []) i ≡ Some n → (slice_get names i ≡ Some n) ⊎ ((i ≡ length names) × (name ≡ n))
at_place [] name zero n e = inr (refl, same_Some name n e)
at_place [] name (suc i) n e = absurd (cc (e))
at_place (x ∷ xs) name zero n e = inl e
at_place (x ∷ xs) name (suc i) n e = by_rest (at_place xs name i n e) where
  by_rest : (slice_get xs i ≡ Some n) ⊎ ((i ≡ length xs) × (name ≡ n))
      → (slice_get (x ∷ xs) (suc i) ≡ Some n) ⊎ ((suc i ≡ suc (length xs)) × (name ≡ n))
  by_rest (inl there) = inl there
  by_rest (inr last) = inr (ap suc last.0, last.1)

same_name : (name : List ℕ) → bytes_eq name name ≡ true
same_name name = (bytes_eq-Decides name name).1 refl

names_more : (names : List (List ℕ)) (name : List ℕ) → AreNames names → length names < 8
    → is_there names name ≡ false → is_plain name ≡ true → AreNames (names ++ name ∷ [])
names_more names name ok few fresh plain = record {
  few = let all : length (names ++ name ∷ []) ≡ length names + 1 = length-append names (name ∷ []) in
      omega (arith, all, few);
  plain = λ i n e. plain_at i n (at_place names name i n e);
  own = λ i n e. own_at i n (at_place names name i n e);
} where
  plain_at : (i : ℕ) (n : List ℕ) → (slice_get names i ≡ Some n) ⊎ ((i ≡ length names) × (name ≡ n))
      → list_all (λ (c : ℕ). is_letter c || is_digit c) n ≡ true
  plain_at i n (inl there) = ok.plain i n there
  plain_at i n (inr last) =
      subst (λ (m : List ℕ). list_all (λ (c : ℕ). is_letter c || is_digit c) m ≡ true) last.1 plain

  more : length (names ++ name ∷ []) ≡ length names + 1
  more = length-append names (name ∷ [])

  last_at : position (λ (m : List ℕ). bytes_eq m name) (names ++ name ∷ []) ≡ Some (length names)
  last_at =
      place_is (λ (m : List ℕ). bytes_eq m name) (names ++ name ∷ []) (length names)
      (last_place (λ (m : List ℕ). bytes_eq m name) names name fresh (same_name name)) (omega (arith, more))

  own_at : (i : ℕ) (n : List ℕ) → (slice_get names i ≡ Some n) ⊎ ((i ≡ length names) × (name ≡ n))
      → position (λ (m : List ℕ). bytes_eq m n) (names ++ name ∷ []) ≡ Some i
  own_at i n (inl there) =
      let here = found (λ (m : List ℕ). bytes_eq m n) names i (ok.own i n there) in
      let below : position_or_len (λ (m : List ℕ). bytes_eq m n) names < length names = omega (arith, here.0, here.1) in
      place_is (λ (m : List ℕ). bytes_eq m n) (names ++ name ∷ []) i
      (still (λ (m : List ℕ). bytes_eq m n) names (name ∷ []) below ∙ here.0) (omega (arith, more, here.1))
  own_at i n (inr last) =
      subst (λ (m : List ℕ). position (λ (k : List ℕ). bytes_eq k m) (names ++ name ∷ []) ≡ Some i) last.1
      (last_at ∙ ap (λ (k : ℕ). Some k) (sym last.0))

-- a name alone
pub one_name : (name : List ℕ) → is_plain name ≡ true → AreNames (name ∷ [])
one_name name plain = names_more [] name none (omega arith) refl plain where
  none : AreNames []
  none = record { few = omega arith; plain = λ i n e. absurd (cc (e)); own = λ i n e. absurd (cc (e)) }

pub no_names : AreNames []
no_names = record { few = omega arith; plain = λ i n e. absurd (cc (e)); own = λ i n e. absurd (cc (e)) }

-- ----- the hosts of a report
-- a line names a host that may be named
with_kept : (n : Named) (name : List ℕ) (addr : ℕ) (b : Bool) → may_be_named n name ≡ b → is_plain name ≡ true
    → AreNames n.names
    → AreNames (cond b (record n { names = n.names ++ name ∷ []; addrs = n.addrs ++ addr ∷ [] }) n).names
with_kept n name addr false may plain ok = ok
with_kept n name addr true may plain ok =
    let first = and_parts (nat_lt (length n.names) 8 && not (is_there n.names name))
    (not n.replay || bytes_eq name (codes "local")) may in
    let second = and_parts (nat_lt (length n.names) 8) (not (is_there n.names name)) first.0 in
    names_more n.names name ok (grind (arith, nat_tests, second.0)) (is_false (is_there n.names name) second.1) plain
  where
    is_false : (b : Bool) → not b ≡ true → b ≡ false
    is_false true e = absurd (cc (e))
    is_false false e = refl

addr_kept : (n : Named) (name : List ℕ) (addr : Option ℕ) → (addr ≡ None) ⊎ (is_plain name ≡ true)
    → AreNames n.names → AreNames (with_addr n name addr).names
addr_kept n name None plain ok = ok
addr_kept n name (Some addr) (inl none) ok = absurd (cc (none))
addr_kept n name (Some addr) (inr plain) ok = with_kept n name addr (may_be_named n name) refl plain ok

told_plain : (name line : List ℕ) → (told_addr name line ≡ None) ⊎ (is_plain name ≡ true)
told_plain name line = by_test (is_plain name) (addr_in (line_in (name ∷ []) (front line))) where
  by_test : (b : Bool) (o : Option ℕ) → (cond b o None ≡ None) ⊎ (b ≡ true)
  by_test true o = inr refl
  by_test false o = inl refl

pub names_kept : (n : Named) (line : List ℕ) → AreNames n.names → AreNames (with_text n line).names
names_kept n line ok = by_rest (behind (codes "host ") line) where
  by_rest : (rest : Option (List ℕ)) → AreNames (with_rest n line rest).names
  by_rest None = ok
  by_rest (Some rest) =
      addr_kept n (take_while is_of_word rest) (told_addr (take_while is_of_word rest) line)
      (told_plain (take_while is_of_word rest) line) ok
