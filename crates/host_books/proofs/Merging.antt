-- Words of turns, put together: for the law orders_are_merged.
use Rattle.std.proofs.Common.{◌≡◌, ◌≢◌, ℕ, zero, suc, ◌==◌, cond, Bool, true, false, List, [], ◌∷◌, ◌++◌, length}
use Rattle.std.proofs.Common.{take, drop, filter, refl, sym, ap, ◌∙◌, subst, arith}
use Rattle.std.proofs.lemmas.Bool.Decides.{nat_tests}
use mathlib.Core.Option as O
use lib.ListN.{get_elem?}
use Rattle.flow_lock.specs.Orders.{Order, of}
use Rattle.flow_lock.specs.declared.view.Deed.{Deed}
use Rattle.host_books.specs.Words.{without_first, merged, AreWords}

same_turn : (p : ℕ) → (p == p) ≡ true
same_turn p = grind (arith, nat_tests)

is_turn : (p q : ℕ) → (p == q) ≡ true → p ≡ q
is_turn p q e = grind (arith, nat_tests)

other_turn : (p q : ℕ) → (p == q) ≡ false → p ≢ q
other_turn p q e same =
    absurd (let n : true ≡ false = sym (same_turn q) ∙ (ap (λ k. k == q) (sym same) ∙ e) in true_false n)
  where
    true_false : true ≡ false → ⊥
    true_false e = grind (arith, nat_tests)

shorter : {M : Type 0} (l : List M) (n : ℕ) → length l ≡ suc n → length (drop 1 l) ≡ n
shorter [] n e = absurd (omega arith)
shorter (m ∷ ms) n e = omega arith

abbrev value_or : {X : Type 0} → X → O.Option X → X
value_or d O.none = d
value_or d (O.some x) = x

module _ {M : Type 0} where
  -- the rest of the order has words for the rest
  next : (x : ℕ × Deed) (xs : Order) (words : ℕ → List M) → AreWords (x ∷ xs) words
      → AreWords xs (without_first x.0 words)
  next x xs words fits p = by (x.0 == p) refl
    where
      by : (b : Bool) → (x.0 == p) ≡ b → length (without_first x.0 words p) ≡ length (of p xs)
      by true e =
          let here : length (words p) ≡ suc (length (of p xs)) =
          subst (λ b. length (words p) ≡ length (cond b (x.1 ∷ of p xs) (of p xs))) e (fits p) in
          subst (λ b. length (cond b (drop 1 (words p)) (words p)) ≡ length (of p xs)) (sym e)
          (shorter (words p) (length (of p xs)) here)
      by false e =
          subst (λ b. length (cond b (drop 1 (words p)) (words p)) ≡ length (of p xs)) (sym e)
          (subst (λ b. length (words p) ≡ length (cond b (x.1 ∷ of p xs) (of p xs))) e (fits p))

  -- the turn of the first deed has a word
  first : (x : ℕ × Deed) (xs : Order) (words : ℕ → List M) → AreWords (x ∷ xs) words
      → (m : M) × (ms : List M) × (words x.0 ≡ m ∷ ms)
  first x xs words fits = by (words x.0) refl
    where
      here : length (words x.0) ≡ suc (length (of x.0 xs))
      here = subst (λ b. length (words x.0) ≡ length (cond b (x.1 ∷ of x.0 xs) (of x.0 xs))) (same_turn x.0) (fits x.0)

      by : (l : List M) → words x.0 ≡ l → (m : M) × (ms : List M) × (words x.0 ≡ m ∷ ms)
      by [] e = absurd (let n : 0 ≡ suc (length (of x.0 xs)) = sym (ap length e) ∙ here in omega arith)
      by (m ∷ ms) e = (m, ms, e)

  -- the first word, and those of the rest
  split : (x : ℕ × Deed) (xs : Order) (words : ℕ → List M) (m : M) (ms : List M) → words x.0 ≡ m ∷ ms
      → merged (x ∷ xs) words ≡ m ∷ merged xs (without_first x.0 words)
  split x xs words m ms e = ap (λ l. take 1 l ++ merged xs (without_first x.0 words)) e

  pub len : (order : Order) (words : ℕ → List M) → AreWords order words → length (merged order words) ≡ length order
  len [] words fits = refl
  len (x ∷ xs) words fits =
      let f = first x xs words fits in
      ap length (split x xs words f.0 f.1 f.2) ∙ ap suc (len xs (without_first x.0 words) (next x xs words fits))

  after_first : (l : List M) (j : ℕ) → get_elem? (drop 1 l) j ≡ get_elem? l (suc j)
  after_first [] j = refl
  after_first (m ∷ ms) j = refl

  abbrev Placed : Order → (ℕ → List M) → (k : ℕ) → (x : ℕ × Deed) → Type 0
  Placed order words k x =
      (j : ℕ) × (get_elem? (of x.0 order) j ≡ O.some x.1)
      × (get_elem? (merged order words) k ≡ get_elem? (words x.0) j)

  placed_later : (y : ℕ × Deed) (ys : Order) (words : ℕ → List M) → AreWords (y ∷ ys) words → (k : ℕ) (x : ℕ × Deed)
      → Placed ys (without_first y.0 words) k x → Placed (y ∷ ys) words (suc k) x
  placed_later y ys words fits k x rest = by (y.0 == x.0) refl
    where
      moved : get_elem? (merged (y ∷ ys) words) (suc k) ≡ get_elem? (without_first y.0 words x.0) rest.0
      moved =
          let f = first y ys words fits in
          ap (λ l. get_elem? l (suc k)) (split y ys words f.0 f.1 f.2) ∙ rest.2

      by : (b : Bool) → (y.0 == x.0) ≡ b → Placed (y ∷ ys) words (suc k) x
      by true e = (
        suc rest.0,
        subst (λ b. get_elem? (cond b (y.1 ∷ of x.0 ys) (of x.0 ys)) (suc rest.0) ≡ O.some x.1) (sym e) rest.1,
        moved
            ∙ (ap (λ b. get_elem? (cond b (drop 1 (words x.0)) (words x.0)) rest.0) e
            ∙ after_first (words x.0) rest.0),
      )
      by false e = (
        rest.0,
        subst (λ b. get_elem? (cond b (y.1 ∷ of x.0 ys) (of x.0 ys)) rest.0 ≡ O.some x.1) (sym e) rest.1,
        moved ∙ ap (λ b. get_elem? (cond b (drop 1 (words x.0)) (words x.0)) rest.0) e,
      )

  pub placed : (order : Order) (words : ℕ → List M) → AreWords order words
      → (k : ℕ) (x : ℕ × Deed) → get_elem? order k ≡ O.some x → Placed order words k x
  placed [] words fits k x at = absurd (no_elem at)
    where
      no_elem : get_elem? {A = ℕ × Deed} [] k ≡ O.some x → ⊥
      no_elem e = grind (arith, nat_tests)
  placed (y ∷ ys) words fits zero x at = subst (Placed (y ∷ ys) words 0) (ap (value_or y) at) here
    where
      here : Placed (y ∷ ys) words 0 y
      here =
          let f = first y ys words fits in (
            0,
            subst (λ b. get_elem? (cond b (y.1 ∷ of y.0 ys) (of y.0 ys)) 0 ≡ O.some y.1) (sym (same_turn y.0)) refl,
            ap (λ l. get_elem? l 0) (split y ys words f.0 f.1 f.2) ∙ ap (λ l. get_elem? l 0) (sym f.2),
          )
  placed (y ∷ ys) words fits (suc k) x at =
      placed_later y ys words fits k x (placed ys (without_first y.0 words) (next y ys words fits) k x at)

  -- ----- tests
  empty : (l : List M) → length l ≡ 0 → l ≡ []
  empty [] e = refl
  empty (m ∷ ms) e = absurd (omega arith)

  none_first : (m : M) (l : List M) → m ∷ l ≡ [] → ⊥
  none_first m l e = let n : suc (length l) ≡ 0 = ap length e in omega arith

  -- the first word, by whether it passes
  passed : (test : M → Bool) (m : M) (l : List M) (b : Bool) → test m ≡ b
      → filter test (m ∷ l) ≡ cond b (m ∷ filter test l) (filter test l)
  passed test m l b is = ap (λ b. cond b (m ∷ filter test l) (filter test l)) is

  -- what is left out stays left out
  fails : (test : M → Bool) (l : List M) → filter test l ≡ [] → filter test (drop 1 l) ≡ []
  fails test [] e = refl
  fails test (m ∷ ms) e = by (test m) refl
    where
      by : (b : Bool) → test m ≡ b → filter test ms ≡ []
      by true is = absurd (none_first m (filter test ms) (sym (passed test m ms true is) ∙ e))
      by false is = sym (passed test m ms false is) ∙ e

  others_left : (test : M → Bool) (p r : ℕ) (words : ℕ → List M) → ((q : ℕ) → q ≢ p → filter test (words q) ≡ [])
      → (q : ℕ) → q ≢ p → filter test (without_first r words q) ≡ []
  others_left test p r words others q differs = pick (r == q)
    where
      pick : (b : Bool) → filter test (cond b (drop 1 (words q)) (words q)) ≡ []
      pick true = fails test (words q) (others q differs)
      pick false = others q differs

  filtered_more : (x : ℕ × Deed) (xs : Order) (words : ℕ → List M) → AreWords (x ∷ xs) words → (test : M → Bool) (p : ℕ)
      → ((q : ℕ) → q ≢ p → filter test (words q) ≡ [])
      → filter test (merged xs (without_first x.0 words)) ≡ filter test (without_first x.0 words p)
      → filter test (merged (x ∷ xs) words) ≡ filter test (words p)
  filtered_more x xs words fits test p others rest = by (x.0 == p) refl
    where
      m : M
      m = (first x xs words fits).0

      ms : List M
      ms = (first x xs words fits).1

      e : words x.0 ≡ m ∷ ms
      e = (first x xs words fits).2

      one : filter test (merged (x ∷ xs) words) ≡ filter test (m ∷ merged xs (without_first x.0 words))
      one = ap (filter test) (split x xs words m ms e)

      by : (b : Bool) → (x.0 == p) ≡ b → filter test (merged (x ∷ xs) words) ≡ filter test (words p)
      by true is =
          let same : words p ≡ m ∷ ms = ap words (sym (is_turn x.0 p is)) ∙ e in
          let tail : without_first x.0 words p ≡ ms =
          ap (λ b. cond b (drop 1 (words p)) (words p)) is ∙ ap (drop 1) same in
          one
          ∙ (ap (λ l. cond (test m) (m ∷ l) l) (rest ∙ ap (filter test) tail) ∙ ap (filter test) (sym same))
      by false is =
          let tail : without_first x.0 words p ≡ words p = ap (λ b. cond b (drop 1 (words p)) (words p)) is in
          let no : filter test (m ∷ ms) ≡ [] = ap (filter test) (sym e) ∙ others x.0 (other_turn x.0 p is) in
          one ∙ (skip (test m) refl no ∙ (rest ∙ ap (filter test) tail))
        where
          skip : (b : Bool) → test m ≡ b → filter test (m ∷ ms) ≡ []
              → filter test (m ∷ merged xs (without_first x.0 words))
              ≡ filter test (merged xs (without_first x.0 words))
          skip true t none = absurd (none_first m (filter test ms) (sym (passed test m ms true t) ∙ none))
          skip false t none = passed test m (merged xs (without_first x.0 words)) false t

  pub filtered : (order : Order) (words : ℕ → List M) → AreWords order words
      → (test : M → Bool) (p : ℕ) → ((q : ℕ) → q ≢ p → filter test (words q) ≡ [])
      → filter test (merged order words) ≡ filter test (words p)
  filtered [] words fits test p others = sym (ap (filter test) (empty (words p) (fits p)))
  filtered (x ∷ xs) words fits test p others =
      filtered_more x xs words fits test p others
      (filtered xs (without_first x.0 words) (next x xs words fits) test p (others_left test p x.0 words others))
