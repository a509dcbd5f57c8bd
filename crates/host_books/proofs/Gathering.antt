-- What holds of each turn's words holds of all in one order: for the laws words_are_gathered and
-- turns_leave_alike.
use Rattle.std.proofs.Common.{◌≡◌, ◌≢◌, ℕ, zero, suc, ◌<◌, ◌≤◌, ◌==◌, cond, Bool, true, false, List, [], ◌∷◌, ◌++◌}
use Rattle.std.proofs.Common.{map, fold, take, drop, refl, sym, ap, ◌∙◌, subst, arith, true≢false, append_assoc}
use Rattle.std.specs.Prelude.{IsPermutation, nat_lt}
use Rattle.std.proofs.lemmas.Bool.Decides.{nat_tests}
use Rattle.std.proofs.lemmas.List.Sorted.{IsPermutation-refl, IsPermutation-trans, IsPermutation-append_left}
use Rattle.std.proofs.lemmas.List.Sorted.{IsPermutation-append_right, IsPermutation-append_comm}
use Rattle.host_rounds.specs.Lists.{Each}
use Rattle.host_rounds.proofs.Lists.{fold_append}
use Rattle.flow_lock.specs.Orders.{Order, of}
use Rattle.flow_lock.specs.declared.view.Deed.{Deed}
use Rattle.host_books.specs.Words.{without_first, merged, deed_in, AreOf, AreBelow, joined, joined_below}
use Rattle.host_books.specs.Words.{ArePairs, AreAllPairs}

same_turn : (p : ℕ) → (p == p) ≡ true
same_turn p = grind (arith, nat_tests)

is_turn : (p q : ℕ) → (p == q) ≡ true → p ≡ q
is_turn p q h = grind (arith, nat_tests, h)

before_turn : (p q : ℕ) → p < q → (p == q) ≡ false
before_turn p q lt = grind (arith, nat_tests, lt)

after_turn : (p q : ℕ) → q < p → (p == q) ≡ false
after_turn p q lt = grind (arith, nat_tests, lt)

other_turn : (p q : ℕ) → (p == q) ≡ false → p ≢ q
other_turn p q h same = true≢false (sym (same_turn q) ∙ (ap (λ k. k == q) (sym same) ∙ h))

no_cons : {X : Type 0} (x : X) (xs : List X) → x ∷ xs ≡ [] → ⊥
no_cons x xs e = absurd (cc e)

heads : {X : Type 0} (a b : X) (xs ys : List X) → a ∷ xs ≡ b ∷ ys → a ≡ b
heads a b xs ys e = cc e

tails : {X : Type 0} (a b : X) (xs ys : List X) → a ∷ xs ≡ b ∷ ys → xs ≡ ys
tails a b xs ys e = cc e

by_same : {X : Type 0} (xs ys : List X) → xs ≡ ys → IsPermutation xs ys
by_same xs ys e = subst (IsPermutation xs) e (IsPermutation-refl xs)

-- the second part comes first
second_first : {X : Type 0} (a b c : List X) → IsPermutation (a ++ (b ++ c)) (b ++ (a ++ c))
second_first a b c =
    IsPermutation-trans (a ++ (b ++ c)) ((a ++ b) ++ c) (b ++ (a ++ c))
    (by_same (a ++ (b ++ c)) ((a ++ b) ++ c) (sym (append_assoc a b c)))
    (IsPermutation-trans ((a ++ b) ++ c) ((b ++ a) ++ c) (b ++ (a ++ c))
    (IsPermutation-append_left c (a ++ b) (b ++ a) (IsPermutation-append_comm a b))
    (by_same ((b ++ a) ++ c) (b ++ (a ++ c)) (append_assoc b a c)))

module _ {M : Type 0} where
  -- ----- each
  each_first : (P : M → Type 0) (l : List M) (rest : List M) → Each P l → Each P rest → Each P (take 1 l ++ rest)
  each_first P [] rest l r = r
  each_first P (m ∷ ms) rest l r = (l.0, r)

  each_left : (P : M → Type 0) (l : List M) → Each P l → Each P (drop 1 l)
  each_left P [] each = tt
  each_left P (m ∷ ms) each = each.1

  each_without : (P : M → Type 0) (r : ℕ) (words : ℕ → List M) → ((p : ℕ) → Each P (words p))
      → (q : ℕ) → Each P (without_first r words q)
  each_without P r words each q = pick (r == q)
    where
      pick : (b : Bool) → Each P (cond b (drop 1 (words q)) (words q))
      pick true = each_left P (words q) (each q)
      pick false = each q

  pub all_each : (P : M → Type 0) (order : Order) (words : ℕ → List M) → ((p : ℕ) → Each P (words p))
      → Each P (merged order words)
  all_each P [] words each = tt
  all_each P (x ∷ xs) words each =
      each_first P (words x.0) (merged xs (without_first x.0 words)) (each x.0)
      (all_each P xs (without_first x.0 words) (each_without P x.0 words each))

  -- ----- deeds
  module _ (deed : M → Deed) where
    -- the words of the rest
    next : (x : ℕ × Deed) (xs : Order) (words : ℕ → List M) → AreOf deed (x ∷ xs) words
        → AreOf deed xs (without_first x.0 words)
    next x xs words are p = by (x.0 == p) refl
      where
        left : (l : List M) → map deed l ≡ x.1 ∷ of p xs → map deed (drop 1 l) ≡ of p xs
        left [] e = absurd (no_cons x.1 (of p xs) (sym e))
        left (m ∷ ms) e = tails (deed m) x.1 (map deed ms) (of p xs) e

        by : (b : Bool) → (x.0 == p) ≡ b → map deed (without_first x.0 words p) ≡ of p xs
        by true e =
            subst (λ b. map deed (cond b (drop 1 (words p)) (words p)) ≡ of p xs) (sym e)
            (left (words p)
            (subst (λ b. map deed (words p) ≡ cond b (x.1 ∷ of p xs) (of p xs)) e (are p)))
        by false e =
            subst (λ b. map deed (cond b (drop 1 (words p)) (words p)) ≡ of p xs) (sym e)
            (subst (λ b. map deed (words p) ≡ cond b (x.1 ∷ of p xs) (of p xs)) e (are p))

    -- the first word
    record First (x : ℕ × Deed) (words : ℕ → List M) : Type 0 where
      word : M
      rest : List M
      is : words x.0 ≡ word ∷ rest
      deed_is : deed word ≡ x.1

    first : (x : ℕ × Deed) (xs : Order) (words : ℕ → List M) → AreOf deed (x ∷ xs) words → First x words
    first x xs words are = by (words x.0) refl
      where
        here : map deed (words x.0) ≡ x.1 ∷ of x.0 xs
        here = subst (λ b. map deed (words x.0) ≡ cond b (x.1 ∷ of x.0 xs) (of x.0 xs)) (same_turn x.0) (are x.0)

        by : (l : List M) → words x.0 ≡ l → First x words
        by [] e = absurd (no_cons x.1 (of x.0 xs) (sym here ∙ ap (map deed) e))
        by (m ∷ ms) e = record {
          word = m;
          rest = ms;
          is = e;
          deed_is = heads (deed m) x.1 (map deed ms) (of x.0 xs) (ap (map deed) (sym e) ∙ here);
        }

    -- the words of all begin with it
    split : (x : ℕ × Deed) (xs : Order) (words : ℕ → List M) (f : First x words)
        → merged (x ∷ xs) words ≡ f.word ∷ merged xs (without_first x.0 words)
    split x xs words f = ap (λ l. take 1 l ++ merged xs (without_first x.0 words)) f.is

    pub all_deeds : (order : Order) (words : ℕ → List M) → AreOf deed order words
        → map deed (merged order words) ≡ map deed_in order
    all_deeds [] words are = refl
    all_deeds (x ∷ xs) words are =
        let f = first x xs words are in
        ap (map deed) (split x xs words f)
        ∙ (λ i. f.deed_is i ∷ all_deeds xs (without_first x.0 words) (next x xs words are) i)

    -- ----- pairs
    module _ (R : M → M → Type 0) where
      pairs_left : (l : List M) → ArePairs R l → ArePairs R (drop 1 l)
      pairs_left [] pairs = tt
      pairs_left (m ∷ ms) pairs = pairs.1

      still_pairs : (r : ℕ) (words : ℕ → List M) → AreAllPairs R words → AreAllPairs R (without_first r words)
      still_pairs r words pairs = (
        λ p. own p (r == p),
        λ p q differs. each_pick (λ (m : M). Each (R m) (without_first r words q)) p (r == p)
            (each_words p q differs (r == q)),
      )
        where
          own : (p : ℕ) (b : Bool) → ArePairs R (cond b (drop 1 (words p)) (words p))
          own p true = pairs_left (words p) (pairs.0 p)
          own p false = pairs.0 p

          each_pick : (P : M → Type 0) (p : ℕ) (b : Bool) → Each P (words p)
              → Each P (cond b (drop 1 (words p)) (words p))
          each_pick P p true each = each_left P (words p) each
          each_pick P p false each = each

          lift : (P Q : M → Type 0) → ((m : M) → P m → Q m) → (l : List M) → Each P l → Each Q l
          lift P Q f [] each = tt
          lift P Q f (m ∷ ms) each = (f m each.0, lift P Q f ms each.1)

          each_words : (p q : ℕ) → p ≢ q → (b : Bool)
              → Each (λ (m : M). Each (R m) (cond b (drop 1 (words q)) (words q))) (words p)
          each_words p q differs true =
              lift (λ (m : M). Each (R m) (words q)) (λ (m : M). Each (R m) (drop 1 (words q)))
              (λ m each. each_left (R m) (words q) each) (words p) (pairs.1 p q differs)
          each_words p q differs false = pairs.1 p q differs

      pub all_pairs : (order : Order) (words : ℕ → List M) → AreOf deed order words → AreAllPairs R words
          → ArePairs R (merged order words)
      all_pairs [] words are pairs = tt
      all_pairs (x ∷ xs) words are pairs =
          let f = first x xs words are in
          subst (ArePairs R) (sym (split x xs words f)) (
            all_each (R f.word) xs (without_first x.0 words) (λ q. behind f q (x.0 == q) refl),
            all_pairs xs (without_first x.0 words) (next x xs words are) (still_pairs x.0 words pairs),
          )
        where
          behind : (f : First x words) (q : ℕ) (b : Bool) → (x.0 == q) ≡ b → Each (R f.word) (without_first x.0 words q)
          behind f q true e =
              subst (λ b. Each (R f.word) (cond b (drop 1 (words q)) (words q))) (sym e)
              (subst (λ l. Each (R f.word) (drop 1 l)) (sym (ap words (sym (is_turn x.0 q e)) ∙ f.is))
              (subst (ArePairs R) f.is (pairs.0 x.0)).0)
          behind f q false e =
              subst (λ b. Each (R f.word) (cond b (drop 1 (words q)) (words q))) (sym e)
              (subst (Each (λ (m : M). Each (R m) (words q))) f.is (pairs.1 x.0 q (other_turn x.0 q e))).0

    -- ----- what they have
    module _ {B : Type 0} (g : M → List B) where
      -- turns below it stay
      same_below : (n r : ℕ) (words : ℕ → List M) → n ≤ r
          → joined_below g n (without_first r words) ≡ joined_below g n words
      same_below zero r words le = refl
      same_below (suc k) r words le =
          let not_it : (r == k) ≡ false = after_turn r k (omega (arith, le)) in
          (λ i. same_below k r words (omega (arith, le)) i ++ joined g (cond (not_it i) (drop 1 (words k)) (words k)))

      one_out : (n r : ℕ) (words : ℕ → List M) (m : M) (ms : List M) → words r ≡ m ∷ ms → r < n
          → IsPermutation (joined_below g n words) (g m ++ joined_below g n (without_first r words))
      one_out zero r words m ms is lt = absurd (omega (arith, lt))
      one_out (suc k) r words m ms is lt = by (r == k) refl (λ low. one_out k r words m ms is low)
        where
          lower : (r == k) ≡ false → r < k
          lower h = grind (arith, nat_tests, h, lt)

          by : (b : Bool) → (r == k) ≡ b
              → (r < k → IsPermutation (joined_below g k words) (g m ++ joined_below g k (without_first r words)))
              → IsPermutation (joined_below g k words ++ joined g (words k))
              (g m ++ (joined_below g k (without_first r words)
              ++ joined g (cond (r == k) (drop 1 (words k)) (words k))))
          by true e rest =
              let here : words k ≡ m ∷ ms = ap words (sym (is_turn r k e)) ∙ is in
              let le : k ≤ r = let s = is_turn r k e in omega (arith, s) in
              let kept : joined_below g k words ≡ joined_below g k (without_first r words) =
              sym (same_below k r words le) in
              let own : joined g ms ≡ joined g (cond (r == k) (drop 1 (words k)) (words k)) =
              λ i. joined g (cond (sym e i) (drop 1 (sym here i)) (sym here i)) in
              IsPermutation-trans (joined_below g k words ++ joined g (words k))
              (joined_below g k words ++ (g m ++ joined g ms))
              (g m ++ (joined_below g k (without_first r words)
              ++ joined g (cond (r == k) (drop 1 (words k)) (words k))))
              (by_same (joined_below g k words ++ joined g (words k)) (joined_below g k words ++ (g m ++ joined g ms))
              (ap (λ l. joined_below g k words ++ joined g l) here))
              (IsPermutation-trans (joined_below g k words ++ (g m ++ joined g ms))
              (g m ++ (joined_below g k words ++ joined g ms))
              (g m ++ (joined_below g k (without_first r words)
              ++ joined g (cond (r == k) (drop 1 (words k)) (words k))))
              (second_first (joined_below g k words) (g m) (joined g ms))
              (by_same (g m ++ (joined_below g k words ++ joined g ms))
              (g m ++ (joined_below g k (without_first r words)
              ++ joined g (cond (r == k) (drop 1 (words k)) (words k))))
              (λ i. g m ++ (kept i ++ own i))))
          by false e rest =
              let own : joined g (words k) ≡ joined g (cond (r == k) (drop 1 (words k)) (words k)) =
              λ i. joined g (cond (sym e i) (drop 1 (words k)) (words k)) in
              IsPermutation-trans (joined_below g k words ++ joined g (words k))
              ((g m ++ joined_below g k (without_first r words)) ++ joined g (words k))
              (g m ++ (joined_below g k (without_first r words)
              ++ joined g (cond (r == k) (drop 1 (words k)) (words k))))
              (IsPermutation-append_left (joined g (words k)) (joined_below g k words)
              (g m ++ joined_below g k (without_first r words)) (rest (lower e)))
              (by_same ((g m ++ joined_below g k (without_first r words)) ++ joined g (words k))
              (g m ++ (joined_below g k (without_first r words)
              ++ joined g (cond (r == k) (drop 1 (words k)) (words k))))
              (append_assoc (g m) (joined_below g k (without_first r words)) (joined g (words k))
              ∙ (λ i. g m ++ (joined_below g k (without_first r words) ++ own i))))

      -- the turns of the rest are below, too
      below_next : (n : ℕ) (x : ℕ × Deed) (xs : Order) → AreBelow n (x ∷ xs) → AreBelow n xs
      below_next n x xs below p le = by (x.0 == p) (below p le)
        where
          by : (b : Bool) → cond b (x.1 ∷ of p xs) (of p xs) ≡ [] → of p xs ≡ []
          by true e = absurd (no_cons x.1 (of p xs) e)
          by false e = e

      first_below : (n : ℕ) (x : ℕ × Deed) (xs : Order) → AreBelow n (x ∷ xs) → x.0 < n
      first_below n x xs below = by (nat_lt x.0 n) refl
        where
          none : n ≤ x.0 → ⊥
          none le =
              no_cons x.1 (of x.0 xs)
              (subst (λ b. cond b (x.1 ∷ of x.0 xs) (of x.0 xs) ≡ []) (same_turn x.0) (below x.0 le))

          by : (b : Bool) → nat_lt x.0 n ≡ b → x.0 < n
          by true e = grind (arith, nat_tests, e)
          by false e = absurd (none (grind (arith, nat_tests, e)))

      no_words : (n : ℕ) (words : ℕ → List M) → AreOf deed [] words → joined_below g n words ≡ []
      no_words zero words are = refl
      no_words (suc k) words are = λ i. no_words k words are i ++ nothing (words k) (are k) i
        where
          nothing : (l : List M) → map deed l ≡ [] → joined g l ≡ []
          nothing [] e = refl
          nothing (m ∷ ms) e = absurd (no_cons (deed m) (map deed ms) e)

      pub all_moved : (n : ℕ) (order : Order) (words : ℕ → List M) → AreBelow n order → AreOf deed order words
          → IsPermutation (joined_below g n words) (joined g (merged order words))
      all_moved n [] words below are = by_same (joined_below g n words) [] (no_words n words are)
      all_moved n (x ∷ xs) words below are =
          let f = first x xs words are in
          let left : ℕ → List M = without_first x.0 words in
          IsPermutation-trans (joined_below g n words) (g f.word ++ joined_below g n left)
          (joined g (merged (x ∷ xs) words))
          (one_out n x.0 words f.word f.rest f.is (first_below n x xs below))
          (subst (IsPermutation (g f.word ++ joined_below g n left)) (ap (joined g) (sym (split x xs words f)))
          (IsPermutation-append_right (g f.word) (joined_below g n left) (joined g (merged xs left))
          (all_moved n xs left (below_next n x xs below) (next x xs words are))))

      -- ----- in the order of deeds, or turn by turn
      module _ {X : Type 0} (f : X → B → X) where
        -- it doesn't matter which comes first
        abbrev pub AreEither : M → M → Type 0
        AreEither m k = Each (λ (b : B). Each (λ (c : B). (x : X) → f (f x b) c ≡ f (f x c) b) (g k)) (g m)

        one_past : (b : B) (cs : List B) → Each (λ (c : B). (x : X) → f (f x b) c ≡ f (f x c) b) cs → (x : X)
            → fold f (f x b) cs ≡ f (fold f x cs) b
        one_past b [] either x = refl
        one_past b (c ∷ cs) either x = ap (λ y. fold f y cs) (either.0 x) ∙ one_past b cs either.1 (f x c)

        all_past : (bs cs : List B)
            → Each (λ (b : B). Each (λ (c : B). (x : X) → f (f x b) c ≡ f (f x c) b) cs) bs → (x : X)
            → fold f (fold f x bs) cs ≡ fold f (fold f x cs) bs
        all_past [] cs either x = refl
        all_past (b ∷ bs) cs either x =
            all_past bs cs either.1 (f x b) ∙ ap (λ y. fold f y bs) (one_past b cs either.0 x)

        words_past : (m : M) (ks : List M) → Each (AreEither m) ks → (x : X)
            → fold f (fold f x (g m)) (joined g ks) ≡ fold f (fold f x (joined g ks)) (g m)
        words_past m [] either x = refl
        words_past m (k ∷ ks) either x =
            fold_append f (fold f x (g m)) (g k) (joined g ks)
            ∙ (ap (λ y. fold f y (joined g ks)) (all_past (g m) (g k) either.0 x)
            ∙ (words_past m ks either.1 (fold f x (g k))
            ∙ ap (λ y. fold f y (g m)) (sym (fold_append f x (g k) (joined g ks)))))

        turns_past : (m : M) (n : ℕ) (words : ℕ → List M)
            → ((q : ℕ) → q < n → Each (AreEither m) (words q)) → (x : X)
            → fold f (fold f x (g m)) (joined_below g n words) ≡ fold f (fold f x (joined_below g n words)) (g m)
        turns_past m zero words either x = refl
        turns_past m (suc k) words either x =
            fold_append f (fold f x (g m)) (joined_below g k words) (joined g (words k))
            ∙ (ap (λ y. fold f y (joined g (words k)))
            (turns_past m k words (λ q lt. either q (omega (arith, lt))) x)
            ∙ (words_past m (words k) (either k (omega arith)) (fold f x (joined_below g k words))
            ∙ ap (λ y. fold f y (g m)) (sym (fold_append f x (joined_below g k words) (joined g (words k))))))

        -- the first word of a turn is done first
        first_out : (n r : ℕ) (words : ℕ → List M) (m : M) (ms : List M) → words r ≡ m ∷ ms → r < n
            → AreAllPairs AreEither words → (x : X)
            → fold f x (joined_below g n words)
            ≡ fold f (fold f x (g m)) (joined_below g n (without_first r words))
        first_out zero r words m ms is lt pairs x = absurd (omega (arith, lt))
        first_out (suc k) r words m ms is lt pairs x =
            by (r == k) refl (λ low. first_out k r words m ms is low pairs x)
          where
            lower : (r == k) ≡ false → r < k
            lower h = grind (arith, nat_tests, h, lt)

            below : List B
            below = joined_below g k words

            rest : List B
            rest = joined g (cond (r == k) (drop 1 (words k)) (words k))

            differs : (q : ℕ) → q < r → r ≢ q
            differs q low same = absurd (omega (arith, low, same))

            either : (q : ℕ) → q < r → Each (AreEither m) (words q)
            either q low =
                (subst (Each (λ (w : M). Each (AreEither w) (words q))) is (pairs.1 r q (differs q low))).0

            by : (b : Bool) → (r == k) ≡ b
                → (r < k → fold f x (joined_below g k words)
                ≡ fold f (fold f x (g m)) (joined_below g k (without_first r words)))
                → fold f x (joined_below g k words ++ joined g (words k))
                ≡ fold f (fold f x (g m)) (joined_below g k (without_first r words)
                ++ joined g (cond (r == k) (drop 1 (words k)) (words k)))
            by true e more =
                let here : words k ≡ m ∷ ms = ap words (sym (is_turn r k e)) ∙ is in
                let le : k ≤ r = let s = is_turn r k e in omega (arith, s) in
                let kept : below ≡ joined_below g k (without_first r words) = sym (same_below k r words le) in
                let own : joined g ms ≡ rest = λ i. joined g (cond (sym e i) (drop 1 (sym here i)) (sym here i)) in
                fold_append f x below (joined g (words k))
                ∙ (ap (λ l. fold f (fold f x below) (joined g l)) here
                ∙ (fold_append f (fold f x below) (g m) (joined g ms)
                ∙ (ap (λ y. fold f y (joined g ms))
                (sym (turns_past m k words (λ q lt. either q (omega (arith, lt, le))) x))
                ∙ ((λ i. fold f (fold f (fold f x (g m)) (kept i)) (own i))
                ∙ sym (fold_append f (fold f x (g m)) (joined_below g k (without_first r words)) rest)))))
            by false e more =
                let own : joined g (words k) ≡ rest =
                λ i. joined g (cond (sym e i) (drop 1 (words k)) (words k)) in
                fold_append f x below (joined g (words k))
                ∙ ((λ i. fold f (more (lower e) i) (own i))
                ∙ sym (fold_append f (fold f x (g m)) (joined_below g k (without_first r words)) rest))

        pub all_folded : (n : ℕ) (order : Order) (words : ℕ → List M) → AreBelow n order → AreOf deed order words
            → AreAllPairs AreEither words → (x : X)
            → fold f x (joined g (merged order words)) ≡ fold f x (joined_below g n words)
        all_folded n [] words below are pairs x = ap (fold f x) (sym (no_words n words are))
        all_folded n (y ∷ ys) words below are pairs x =
            let one = first y ys words are in
            let left : ℕ → List M = without_first y.0 words in
            ap (λ l. fold f x (joined g l)) (split y ys words one)
            ∙ (fold_append f x (g one.word) (joined g (merged ys left))
            ∙ (all_folded n ys left (below_next n y ys below) (next y ys words are)
            (still_pairs AreEither y.0 words pairs) (fold f x (g one.word))
            ∙ sym (first_out n y.0 words one.word one.rest one.is (first_below n y ys below) pairs x)))
