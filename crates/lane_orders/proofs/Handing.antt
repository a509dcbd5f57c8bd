-- What was handed to all turns, and what they left: for the laws frames_are_handed_once and ticks_of_turns_are_shared.
use Rattle.std.proofs.Common.{◌≡◌, ℕ, zero, suc, ◌≤◌, Bool, true, false, List, [], ◌∷◌, ◌++◌, length, refl, sym}
use Rattle.std.proofs.Common.{ap, ◌∙◌, subst, arith, append_assoc, append-nil, length-append}
use Rattle.std.specs.Prelude.{IsPermutation, nat_le}
use Rattle.std.proofs.lemmas.Bool.Decides.{nat_tests}
use Rattle.std.proofs.lemmas.List.Sorted.{IsPermutation-refl, IsPermutation-trans, IsPermutation-append}
use Rattle.std.proofs.lemmas.List.Sorted.{IsPermutation-append_left, IsPermutation-append_right}
use Rattle.std.proofs.lemmas.List.Sorted.{IsPermutation-append_comm}
use Rattle.std.proofs.lemmas.List.Sorted.{length_permutation}
use Rattle.host_rounds.specs.Deliveries.{Arrival}
use Rattle.frame_steering.specs.Giving.{given_below}
use Rattle.frame_steering.proofs.Given.{given_once}
use Rattle.host_books.specs.Books.{Book}
use Rattle.host_books.specs.Words.{joined_below}
use Rattle.lane_orders.specs.Turns.{Did, IsDone, AreGiven, frame_by, taken_in, words_in, handed_below, left_below}
use Rattle.lane_orders.specs.Ticks.{IsHandOut}

-- ----- lists with the same elements
module _ {X : Type 0} where
  pub by_same : (xs ys : List X) → xs ≡ ys → IsPermutation xs ys
  by_same xs ys e = subst (IsPermutation xs) e (IsPermutation-refl xs)

  -- the second part comes first
  second_first : (a b c : List X) → IsPermutation (a ++ (b ++ c)) (b ++ (a ++ c))
  second_first a b c =
      IsPermutation-trans (a ++ (b ++ c)) ((a ++ b) ++ c) (b ++ (a ++ c))
      (by_same (a ++ (b ++ c)) ((a ++ b) ++ c) (sym (append_assoc a b c)))
      (IsPermutation-trans ((a ++ b) ++ c) ((b ++ a) ++ c) (b ++ (a ++ c))
      (IsPermutation-append_left c (a ++ b) (b ++ a) (IsPermutation-append_comm a b))
      (by_same ((b ++ a) ++ c) (b ++ (a ++ c)) (append_assoc b a c)))

  -- the first halves come first
  pub four : (a x d y : List X) → IsPermutation ((a ++ x) ++ (d ++ y)) ((a ++ d) ++ (x ++ y))
  four a x d y =
      IsPermutation-trans ((a ++ x) ++ (d ++ y)) (a ++ (x ++ (d ++ y))) ((a ++ d) ++ (x ++ y))
      (by_same ((a ++ x) ++ (d ++ y)) (a ++ (x ++ (d ++ y))) (append_assoc a x (d ++ y)))
      (IsPermutation-trans (a ++ (x ++ (d ++ y))) (a ++ (d ++ (x ++ y))) ((a ++ d) ++ (x ++ y))
      (IsPermutation-append_right a (x ++ (d ++ y)) (d ++ (x ++ y)) (second_first x d y))
      (by_same (a ++ (d ++ (x ++ y))) ((a ++ d) ++ (x ++ y)) (sym (append_assoc a d (x ++ y)))))

  is_empty : (xs : List X) → length xs ≡ 0 → xs ≡ []
  is_empty [] e = refl
  is_empty (x ∷ xs) e = absurd (omega (arith, e))

  -- what has the elements of nothing is nothing
  pub same_as_none : (xs : List X) → IsPermutation [] xs → xs ≡ []
  same_as_none xs p = is_empty xs (length_permutation [] xs p)

  pub first_of_none : (xs ys : List X) → IsPermutation [] (xs ++ ys) → xs ≡ []
  first_of_none xs ys p =
      let same : length (xs ++ ys) ≡ 0 = length_permutation [] (xs ++ ys) p in
      is_empty xs (omega (arith, same, length-append xs ys))

module _ {S A : Type 0} (did : ℕ → Did S A) where
  -- ----- what was taken and what was left
  pub taken_or_left : (t : ℕ) (books : List Book) → ((p : ℕ) → IsDone t books (did p)) → (n : ℕ)
      → IsPermutation (handed_below n did) (joined_below frame_by n (words_in did) ++ left_below n did)
  taken_or_left t books done zero = IsPermutation-refl []
  taken_or_left t books done (suc p) =
      let a = joined_below frame_by p (words_in did) in
      let x = left_below p did in
      let d = taken_in (did p) in
      let y = (did p).left in
      IsPermutation-trans (handed_below p did ++ (did p).frames) ((a ++ x) ++ (d ++ y)) ((a ++ d) ++ (x ++ y))
      (IsPermutation-append (handed_below p did) (a ++ x) (did p).frames (d ++ y) (taken_or_left t books done p)
      (done p).frames)
      (four a x d y)

  -- ----- where nothing was handed out
  pub none_handed : ((p : ℕ) → (did p).frames ≡ []) → (n : ℕ) → handed_below n did ≡ []
  none_handed none zero = refl
  none_handed none (suc p) = λ i. none_handed none p i ++ none p i

  -- ----- the hand-out
  module _ (cores : ℕ) (handed : List ℕ) (frames : List Arrival) (given : AreGiven cores handed frames did) where
    cores_have : (n : ℕ) → n ≤ cores → handed_below n did ≡ given_below n handed frames
    cores_have zero le = refl
    cores_have (suc p) le = λ i. cores_have p (omega (arith, le)) i ++ given.own p (omega (arith, le)) i

    pub all_have : (n : ℕ) → cores ≤ n → handed_below n did ≡ given_below cores handed frames
    all_have zero le =
        let same : 0 ≡ cores = omega (arith, le) in
        ap (λ k. given_below k handed frames) same
    all_have (suc p) le = by_test (nat_le cores p) refl (all_have p)
      where
        by_test : (b : Bool) → nat_le cores p ≡ b
            → (cores ≤ p → handed_below p did ≡ given_below cores handed frames)
            → handed_below p did ++ (did p).frames ≡ given_below cores handed frames
        by_test true e rest =
            let below : cores ≤ p = grind (arith, nat_tests, e) in
            (λ i. rest below i ++ given.others p below i) ∙ append-nil (given_below cores handed frames)
        by_test false e rest =
            let same : suc p ≡ cores = grind (arith, nat_tests, e, le) in
            cores_have (suc p) (omega (arith, same)) ∙ ap (λ k. given_below k handed frames) same

pub handed_once : {S A : Type 0} (frames : List Arrival) (cores turns : ℕ) (did : ℕ → Did S A)
    → IsHandOut frames cores turns did → IsPermutation (handed_below turns did) frames
handed_once frames cores turns did out =
    subst (λ l. IsPermutation l frames) (sym (all_have did cores out.handed frames out.given turns out.turned))
    (given_once cores out.handed frames out.same out.below)
