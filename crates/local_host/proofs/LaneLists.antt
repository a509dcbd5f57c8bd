-- Lists: what stands at a place after a write, lists with the same elements, and those that are joined.
use Rattle.std.proofs.Common.{◌≡◌, ℕ, zero, suc, ◌+◌, ◌<◌, ◌≤◌, ◌++◌, List, [], ◌∷◌, length, get_or, set}
use Rattle.std.proofs.Common.{Bool, true, false, cond, Option, Some, None, slice_get, refl, sym, ap, subst, ◌∙◌, arith}
use Rattle.std.proofs.Common.{true≢false, append_assoc, All, not, position, append-nil, nat_lt, ◌⊎◌, inl, inr}
use Rattle.std.specs.Prelude.{count_by, IsPermutation}
use Rattle.std.specs.List.{filter, position_or_len}
use Rattle.std.proofs.lemmas.List.Sums.{sum_by-cons}
use Rattle.std.proofs.lemmas.List.Elements.{All-cons, All-head, All-tail, All-nil}
use Rattle.std.proofs.lemmas.List.Sorted.{IsPermutation-refl, IsPermutation-trans, IsPermutation-append_left}
use Rattle.std.proofs.lemmas.List.Sorted.{IsPermutation-append_right, IsPermutation-append_comm, All-permutation}
use Rattle.std.proofs.lemmas.List.Sorted.{sum_by-IsPermutation}
use Rattle.local_host.specs.Handing.{joined}

-- ----- a write
pub set_there : {X : Type 0} (xs : List X) (i : ℕ) (x : X) → i < length xs → slice_get (set xs i x) i ≡ Some x
set_there [] i x low = absurd (omega (arith, low))
set_there (y ∷ ys) zero x low = refl
set_there (y ∷ ys) (suc i) x low = set_there ys i x (omega (arith, low))

pub set_elsewhere : {X : Type 0} (xs : List X) (i k : ℕ) (x : X) → (i ≡ k → ⊥)
    → slice_get (set xs i x) k ≡ slice_get xs k
set_elsewhere [] i k x other = refl
set_elsewhere (y ∷ ys) zero zero x other = absurd (other refl)
set_elsewhere (y ∷ ys) zero (suc k) x other = refl
set_elsewhere (y ∷ ys) (suc i) zero x other = refl
set_elsewhere (y ∷ ys) (suc i) (suc k) x other = set_elsewhere ys i k x (λ e. other (ap (λ (n : ℕ). suc n) e))

pub set_same : {X : Type 0} (xs : List X) (i : ℕ) (x : X) → slice_get xs i ≡ Some x → set xs i x ≡ xs
set_same [] i x here = refl
set_same {X} (y ∷ ys) zero x here = ap (λ (z : X). z ∷ ys) (sym (some_is y x here)) where
  some_is : (a b : X) → ◌≡◌ {A = Option X} (Some a) (Some b) → a ≡ b
  some_is a b h = cc (h)
set_same {X} (y ∷ ys) (suc i) x here = ap (λ (zs : List X). y ∷ zs) (set_same ys i x here)

pub set_twice : {X : Type 0} (xs : List X) (i : ℕ) (x y : X) → set (set xs i x) i y ≡ set xs i y
set_twice [] i x y = refl
set_twice (z ∷ zs) zero x y = refl
set_twice {X} (z ∷ zs) (suc i) x y = ap (λ (ws : List X). z ∷ ws) (set_twice zs i x y)

pub length_set : {X : Type 0} (xs : List X) (i : ℕ) (x : X) → length (set xs i x) ≡ length xs
length_set [] i x = refl
length_set (y ∷ ys) zero x = refl
length_set (y ∷ ys) (suc i) x = ap (λ (n : ℕ). suc n) (length_set ys i x)

pub there_below : {X : Type 0} (xs : List X) (i : ℕ) (x : X) → slice_get xs i ≡ Some x → i < length xs
there_below [] i x here = absurd (cc (here))
there_below (y ∷ ys) zero x here = omega arith
there_below (y ∷ ys) (suc i) x here = let low : i < length ys = there_below ys i x here in omega (arith, low)

pub there_or : {X : Type 0} (xs : List X) (i : ℕ) (x d : X) → slice_get xs i ≡ Some x → get_or xs i d ≡ x
there_or [] i x d here = absurd (cc (here))
there_or {X} (y ∷ ys) zero x d here = some_is y x here where
  some_is : (a b : X) → ◌≡◌ {A = Option X} (Some a) (Some b) → a ≡ b
  some_is a b h = cc (h)
there_or (y ∷ ys) (suc i) x d here = there_or ys i x d here

-- two lists with the same at each place
pub all_same : {X : Type 0} (xs ys : List X) → length xs ≡ length ys
    → ((q : ℕ) → slice_get xs q ≡ slice_get ys q) → xs ≡ ys
all_same [] [] len same = refl
all_same [] (y ∷ ys) len same = absurd (omega (arith, len))
all_same (x ∷ xs) [] len same = absurd (omega (arith, len))
all_same {X} (x ∷ xs) (y ∷ ys) len same =
    ap (λ (z : X). z ∷ xs) (some_is x y (same 0))
    ∙ ap (λ (zs : List X). y ∷ zs) (all_same xs ys (omega (arith, len)) (λ q. same (suc q))) where
      some_is : (a b : X) → ◌≡◌ {A = Option X} (Some a) (Some b) → a ≡ b
      some_is a b h = cc (h)

-- a write that the test doesn't see
first_kept : {X : Type 0} (test : X → Bool) (xs : List X) (i : ℕ) (x y : X) → slice_get xs i ≡ Some x
    → test y ≡ test x → position_or_len test (set xs i y) ≡ position_or_len test xs
first_kept test [] i x y here same = refl
first_kept {X} test (z ∷ zs) zero x y here same =
    ap (λ (b : Bool). cond (not b) (1 + position_or_len test zs) 0)
    (same ∙ ap test (sym (some_is z x here))) where
      some_is : (a b : X) → ◌≡◌ {A = Option X} (Some a) (Some b) → a ≡ b
      some_is a b h = cc (h)
first_kept test (z ∷ zs) (suc i) x y here same =
    ap (λ (n : ℕ). cond (not (test z)) (1 + n) 0) (first_kept test zs i x y here same)

abbrev found_by : (n len : ℕ) → Option ℕ
found_by n len = cond (nat_lt n len) (Some n) None

pub position_kept : {X : Type 0} (test : X → Bool) (xs : List X) (i : ℕ) (x y : X) → slice_get xs i ≡ Some x
    → test y ≡ test x → position test (set xs i y) ≡ position test xs
position_kept test xs i x y here same =
    ap (λ (n : ℕ). found_by n (length (set xs i y))) (first_kept test xs i x y here same)
    ∙ ap (found_by (position_or_len test xs)) (length_set xs i y)

-- ----- how many pass a test
abbrev pub tally : Bool → ℕ
tally b = cond b 1 0

pub count_cons : {X : Type 0} (p : X → Bool) (x : X) (xs : List X)
    → count_by p (x ∷ xs) ≡ tally (p x) + count_by p xs
count_cons p x xs = sum_by-cons (λ y. cond (p y) 1 0) x xs

one_if : (b : Bool) → b ≡ true → tally b ≡ 1
one_if true h = refl
one_if false h = absurd (true≢false (sym h))

none_if : (b : Bool) → b ≡ false → tally b ≡ 0
none_if true h = absurd (true≢false h)
none_if false h = refl

pub none_passes : {X : Type 0} (p : X → Bool) (xs : List X) → count_by p xs ≡ 0 → filter p xs ≡ []
none_passes p [] h = refl
none_passes {X} p (x ∷ xs) h = by_test (p x) refl (none_passes p xs) where
  by_test : (b : Bool) → p x ≡ b → (count_by p xs ≡ 0 → filter p xs ≡ [])
      → cond b (x ∷ filter p xs) (filter p xs) ≡ []
  by_test true is rest =
      let one : tally (p x) ≡ 1 = one_if (p x) is in absurd (omega (arith, count_cons p x xs, one, h))
  by_test false is rest = rest (omega (arith, count_cons p x xs, h))

-- none in the list passes, so each that does is any
pub none_is : {X : Type 0} (p : X → Bool) (xs : List X) → count_by p xs ≡ 0 → All (λ (y : X). p y ≡ true → ⊥) xs
none_is {X} p [] h = All-nil (λ (y : X). p y ≡ true → ⊥)
none_is {X} p (x ∷ xs) h =
    let rest : count_by p xs ≡ 0 = omega (arith, count_cons p x xs, h) in
    All-cons (λ (y : X). p y ≡ true → ⊥) x xs
    (λ is. let one : tally (p x) ≡ 1 = one_if (p x) is in absurd (omega (arith, count_cons p x xs, one, h)))
    (none_is p xs rest)

record One {X : Type 0} (p : X → Bool) (xs : List X) : Type 0 where
  one : X
  is : filter p xs ≡ one ∷ []
  only : All (λ (y : X). p y ≡ true → y ≡ one) xs

find_one : {X : Type 0} (p : X → Bool) (xs : List X) → count_by p xs ≡ 1 → One p xs
find_one p [] h = absurd (omega (arith, h))
find_one {X} p (x ∷ xs) h = by_test (p x) refl (find_one p xs) where
  by_test : (b : Bool) → p x ≡ b → (count_by p xs ≡ 1 → One p xs) → One p (x ∷ xs)
  by_test true is rest =
      let one : tally (p x) ≡ 1 = one_if (p x) is in
      let none : count_by p xs ≡ 0 = omega (arith, count_cons p x xs, one, h) in
      let never : All (λ (y : X). p y ≡ true → ⊥) xs = none_is p xs none in
      record {
        one = x;
        is = ap (λ (c : Bool). cond c (x ∷ filter p xs) (filter p xs)) is
            ∙ ap (λ (ys : List X). x ∷ ys) (none_passes p xs none);
        only = All-cons (λ (y : X). p y ≡ true → y ≡ x) x xs (λ e. refl) (λ k d low. λ e. absurd (never k d low e));
      }
  by_test false is rest =
      let zero : tally (p x) ≡ 0 = none_if (p x) is in
      let r : One p xs = rest (omega (arith, count_cons p x xs, zero, h)) in
      record {
        one = r.one;
        is = ap (λ (c : Bool). cond c (x ∷ filter p xs) (filter p xs)) is ∙ r.is;
        only = All-cons (λ (y : X). p y ≡ true → y ≡ r.one) x xs (λ e. absurd (true≢false (sym e ∙ is))) r.only;
      }

head_is : {X : Type 0} (p : X → Bool) (xs : List X) (z x : X) → filter p xs ≡ z ∷ []
    → All (λ (y : X). p y ≡ true → y ≡ x) xs → z ≡ x
head_is p [] z x h all = absurd (cc (h))
head_is {X} p (y ∷ ys) z x h all =
    by_test (p y) refl h (λ e. head_is p ys z x e (All-tail (λ (w : X). p w ≡ true → w ≡ x) y ys all)) where
      by_test : (b : Bool) → p y ≡ b → cond b (y ∷ filter p ys) (filter p ys) ≡ z ∷ []
          → (filter p ys ≡ z ∷ [] → z ≡ x) → z ≡ x
      by_test true is e rest = first_is y z (filter p ys) e
          ∙ All-head (λ (w : X). p w ≡ true → w ≡ x) y ys all is where
            first_is : (a b : X) (ts : List X) → a ∷ ts ≡ b ∷ [] → b ≡ a
            first_is a b ts h = cc (h)
      by_test false is e rest = rest e

at_most_one : (n : ℕ) → n ≤ 1 → (n ≡ 0) ⊎ (n ≡ 1)
at_most_one zero h = inl refl
at_most_one (suc zero) h = inr refl
at_most_one (suc (suc n)) h = absurd (omega (arith, h))

-- Of lists with the same elements, of which one passes at most, the same passes.
pub same_filter : {X : Type 0} (p : X → Bool) (xs ys : List X) → IsPermutation xs ys → count_by p ys ≤ 1
    → filter p xs ≡ filter p ys
same_filter {X} p xs ys perm few = by_count (at_most_one (count_by p ys) few) where
  same : count_by p ys ≡ count_by p xs
  same = sum_by-IsPermutation (λ (x : X). cond (p x) 1 0) xs ys perm

  by_count : (count_by p ys ≡ 0) ⊎ (count_by p ys ≡ 1) → filter p xs ≡ filter p ys
  by_count (inl none) = none_passes p xs (sym same ∙ none) ∙ sym (none_passes p ys none)
  by_count (inr one) =
      let a : One p xs = find_one p xs (sym same ∙ one) in
      let b : One p ys = find_one p ys one in
      let e : b.one ≡ a.one = head_is p ys b.one a.one b.is
      (All-permutation (λ (y : X). p y ≡ true → y ≡ a.one) xs ys perm a.only) in
      a.is ∙ (ap (λ (z : X). z ∷ []) (sym e) ∙ sym b.is)

-- ----- lists that are joined
pub perm_by : {X : Type 0} (xs ys : List X) → xs ≡ ys → IsPermutation xs ys
perm_by xs ys e = subst (IsPermutation xs) e (IsPermutation-refl xs)

pub joined_push : {A B : Type 0} (g : A → List B) (xs : List A) (y : A) → joined g (xs ++ y ∷ []) ≡ joined g xs ++ g y
joined_push g [] y = append-nil (g y)
joined_push {A} {B} g (x ∷ xs) y = ap (λ (zs : List B). g x ++ zs) (joined_push g xs y)
    ∙ sym (append_assoc (g x) (joined g xs) (g y))

-- one of them has more
pub joined_more : {A B : Type 0} (g : A → List B) (xs : List A) (k : ℕ) (y d : A) (zs : List B) → k < length xs
    → IsPermutation (g y) (g (get_or xs k d) ++ zs) → IsPermutation (joined g (set xs k y)) (joined g xs ++ zs)
joined_more g [] k y d zs low more = absurd (omega (arith, low))
joined_more {A} {B} g (x ∷ xs) zero y d zs low more =
    let js : List B = joined g xs in
    IsPermutation-trans (g y ++ js) ((g x ++ zs) ++ js) ((g x ++ js) ++ zs)
    (IsPermutation-append_left js (g y) (g x ++ zs) more)
    (subst (λ (ws : List B). IsPermutation ws ((g x ++ js) ++ zs)) (sym (append_assoc (g x) zs js))
    (subst (IsPermutation (g x ++ (zs ++ js))) (sym (append_assoc (g x) js zs))
    (IsPermutation-append_right (g x) (zs ++ js) (js ++ zs) (IsPermutation-append_comm zs js))))
joined_more {A} {B} g (x ∷ xs) (suc k) y d zs low more =
    subst (IsPermutation (g x ++ joined g (set xs k y))) (sym (append_assoc (g x) (joined g xs) zs))
    (IsPermutation-append_right (g x) (joined g (set xs k y)) (joined g xs ++ zs)
    (joined_more g xs k y d zs (omega (arith, low)) more))

-- the middle two of four change places
pub crossed : {X : Type 0} (ws bs cs ds : List X) → IsPermutation ((ws ++ bs) ++ (cs ++ ds)) ((ws ++ cs) ++ (bs ++ ds))
crossed {X} ws bs cs ds =
    subst (λ (xs : List X). IsPermutation xs ((ws ++ cs) ++ (bs ++ ds))) (sym (append_assoc ws bs (cs ++ ds)))
    (subst (IsPermutation (ws ++ (bs ++ (cs ++ ds)))) (sym (append_assoc ws cs (bs ++ ds)))
    (IsPermutation-append_right ws (bs ++ (cs ++ ds)) (cs ++ (bs ++ ds))
    (subst (λ (xs : List X). IsPermutation xs (cs ++ (bs ++ ds))) (append_assoc bs cs ds)
    (subst (IsPermutation ((bs ++ cs) ++ ds)) (append_assoc cs bs ds)
    (IsPermutation-append_left ds (bs ++ cs) (cs ++ bs) (IsPermutation-append_comm bs cs))))))
