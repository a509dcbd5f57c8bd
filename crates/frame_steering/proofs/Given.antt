-- Each frame that was handed out goes to one core: for the law each_frame_goes_to_one_core.
use Rattle.std.proofs.Common.{◌≡◌, ℕ, zero, suc, ◌<◌, ◌≤◌, ◌==◌, cond, Bool, true, false, List, [], ◌∷◌, ◌++◌}
use Rattle.std.proofs.Common.{length, refl, sym, subst, arith, All, append_assoc}
use Rattle.std.specs.Prelude.{IsPermutation}
use Rattle.std.proofs.lemmas.Bool.Decides.{nat_tests}
use Rattle.std.proofs.lemmas.List.Elements.{All-head, All-tail}
use Rattle.std.proofs.lemmas.List.Sorted.{IsPermutation-refl, IsPermutation-trans, IsPermutation-append_left}
use Rattle.std.proofs.lemmas.List.Sorted.{IsPermutation-append_right, IsPermutation-append_comm}
use Rattle.frame_steering.specs.Giving.{given_to, given_below}

is_core : (c k : ℕ) → (c == k) ≡ true → c ≡ k
is_core c k h = grind (arith, nat_tests, h)

other_core : (c k : ℕ) → k < c → (c == k) ≡ false
other_core c k lt = grind (arith, nat_tests, lt)

lower : (c k : ℕ) → (c == k) ≡ false → c < suc k → c < k
lower c k h lt = grind (arith, nat_tests, h, lt)

module _ {X : Type 0} where
  by_same : (xs ys : List X) → xs ≡ ys → IsPermutation xs ys
  by_same xs ys e = subst (IsPermutation xs) e (IsPermutation-refl xs)

  -- one from the middle comes first
  to_front : (x : X) (a b : List X) → IsPermutation (a ++ (x ∷ b)) (x ∷ (a ++ b))
  to_front x a b =
      IsPermutation-trans (a ++ (x ∷ b)) ((a ++ (x ∷ [])) ++ b) (x ∷ (a ++ b))
      (by_same (a ++ (x ∷ b)) ((a ++ (x ∷ [])) ++ b) (sym (append_assoc a (x ∷ []) b)))
      (IsPermutation-append_left b (a ++ (x ∷ [])) ((x ∷ []) ++ a) (IsPermutation-append_comm a (x ∷ [])))

  -- a frame for a core past these is for none of them
  none_below : (n c : ℕ) (cs : List ℕ) (x : X) (xs : List X) → n ≤ c
      → given_below n (c ∷ cs) (x ∷ xs) ≡ given_below n cs xs
  none_below zero c cs x xs le = refl
  none_below (suc k) c cs x xs le =
      let not_it : (c == k) ≡ false = other_core c k (omega (arith, le)) in
      (λ i. none_below k c cs x xs (omega (arith, le)) i
      ++ cond (not_it i) (x ∷ given_to k cs xs) (given_to k cs xs))

  one_below : (n c : ℕ) (cs : List ℕ) (x : X) (xs : List X) → c < n
      → IsPermutation (given_below n (c ∷ cs) (x ∷ xs)) (x ∷ given_below n cs xs)
  one_below zero c cs x xs lt = absurd (omega (arith, lt))
  one_below (suc k) c cs x xs lt = by_test (c == k) refl (λ low. one_below k c cs x xs low)
    where
      by_test : (b : Bool) → (c == k) ≡ b
          → (c < k → IsPermutation (given_below k (c ∷ cs) (x ∷ xs)) (x ∷ given_below k cs xs))
          → IsPermutation (given_below k (c ∷ cs) (x ∷ xs) ++ cond (c == k) (x ∷ given_to k cs xs) (given_to k cs xs))
          (x ∷ (given_below k cs xs ++ given_to k cs xs))
      by_test true is rest =
          let le : k ≤ c = let e = is_core c k is in omega (arith, e) in
          subst (λ l. IsPermutation l (x ∷ (given_below k cs xs ++ given_to k cs xs)))
          (λ i. sym (none_below k c cs x xs le) i ++ cond (sym is i) (x ∷ given_to k cs xs) (given_to k cs xs))
          (to_front x (given_below k cs xs) (given_to k cs xs))
      by_test false is rest =
          subst (λ b. IsPermutation
          (given_below k (c ∷ cs) (x ∷ xs) ++ cond b (x ∷ given_to k cs xs) (given_to k cs xs))
          (x ∷ (given_below k cs xs ++ given_to k cs xs))) (sym is)
          (IsPermutation-append_left (given_to k cs xs) (given_below k (c ∷ cs) (x ∷ xs)) (x ∷ given_below k cs xs)
          (rest (lower c k is lt)))

  nobody : (n : ℕ) (cs : List ℕ) → given_below {X = X} n cs [] ≡ []
  nobody zero cs = refl
  nobody (suc k) [] = λ i. nobody k [] i ++ []
  nobody (suc k) (c ∷ cs) = λ i. nobody k (c ∷ cs) i ++ []

  pub given_once : (n : ℕ) (handed : List ℕ) (xs : List X) → length handed ≡ length xs → All (λ c. c < n) handed
      → IsPermutation (given_below n handed xs) xs
  given_once n [] [] same low = by_same (given_below n [] []) [] (nobody n [])
  given_once n [] (x ∷ xs) same low = absurd (omega (arith, same))
  given_once n (c ∷ cs) [] same low = absurd (omega (arith, same))
  given_once n (c ∷ cs) (x ∷ xs) same low =
      IsPermutation-trans (given_below n (c ∷ cs) (x ∷ xs)) (x ∷ given_below n cs xs) (x ∷ xs)
      (one_below n c cs x xs (All-head (λ k. k < n) c cs low))
      (IsPermutation-append_right (x ∷ []) (given_below n cs xs) xs
      (given_once n cs xs (omega (arith, same)) (All-tail (λ k. k < n) c cs low)))
