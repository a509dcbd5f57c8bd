-- What turns have, turn by turn, as one list: for the law phases_are_turns.
use Rattle.std.proofs.Common.{◌≡◌, ◌≢◌, ℕ, zero, suc, ◌+◌, ◌≤◌, List, [], ◌∷◌, ◌++◌, length, map, refl, sym, ap, ◌∙◌}
use Rattle.std.proofs.Common.{arith, append_assoc, append-nil}
use Rattle.std.specs.Prelude.{⊤}
use Rattle.host_rounds.specs.Lists.{Each}
use Rattle.flow_lock.specs.Orders.{Order, of}
use Rattle.host_books.specs.Tries.{Word, deed_of}
use Rattle.host_books.specs.Words.{ArePairs, AreAllPairs, joined, joined_below}
use Rattle.lane_orders.specs.Turns.{Did, did_nothing, words_in, handed_below, left_below}
use Rattle.phase_orders.specs.Lanes.{did_at}

module _ {S A : Type 0} where
  -- ----- lists of what turns have
  abbrev gathered_below : {B : Type 0} → (Did S A → List B) → (turns : ℕ) → (ℕ → Did S A) → List B
  gathered_below g zero did = []
  gathered_below g (suc p) did = gathered_below g p did ++ g (did p)

  first_out : {B : Type 0} (g : Did S A → List B) (n : ℕ) (did : ℕ → Did S A)
      → gathered_below g (suc n) did ≡ g (did 0) ++ gathered_below g n (λ p. did (suc p))
  first_out g zero did = sym (append-nil (g (did 0)))
  first_out g (suc n) did =
      ap (λ l. l ++ g (did (suc n))) (first_out g n did)
      ∙ append_assoc (g (did 0)) (gathered_below g n (λ p. did (suc p))) (g (did (suc n)))

  in_list : {B : Type 0} (g : Did S A → List B) (ds : List (Did S A))
      → gathered_below g (length ds) (did_at ds) ≡ joined g ds
  in_list g [] = refl
  in_list g (d ∷ ds) = first_out g (length ds) (did_at (d ∷ ds)) ∙ ap (λ l. g d ++ l) (in_list g ds)

  handed_same : (n : ℕ) (did : ℕ → Did S A)
      → handed_below n did ≡ gathered_below (λ (d : Did S A). d.frames) n did
  handed_same zero did = refl
  handed_same (suc p) did = ap (λ l. l ++ (did p).frames) (handed_same p did)

  left_same : (n : ℕ) (did : ℕ → Did S A) → left_below n did ≡ gathered_below (λ (d : Did S A). d.left) n did
  left_same zero did = refl
  left_same (suc p) did = ap (λ l. l ++ (did p).left) (left_same p did)

  joined_same : {B : Type 0} (g : Word S A → List B) (n : ℕ) (did : ℕ → Did S A)
      → joined_below g n (words_in did) ≡ gathered_below (λ (d : Did S A). joined g d.words) n did
  joined_same g zero did = refl
  joined_same g (suc p) did = ap (λ l. l ++ joined g (did p).words) (joined_same g p did)

  pub handed_in_list : (ds : List (Did S A))
      → handed_below (length ds) (did_at ds) ≡ joined (λ (d : Did S A). d.frames) ds
  handed_in_list ds = handed_same (length ds) (did_at ds) ∙ in_list (λ (d : Did S A). d.frames) ds

  pub left_in_list : (ds : List (Did S A))
      → left_below (length ds) (did_at ds) ≡ joined (λ (d : Did S A). d.left) ds
  left_in_list ds = left_same (length ds) (did_at ds) ∙ in_list (λ (d : Did S A). d.left) ds

  pub joined_in_list : {B : Type 0} (g : Word S A → List B) (ds : List (Did S A))
      → joined_below g (length ds) (words_in (did_at ds)) ≡ joined (λ (d : Did S A). joined g d.words) ds
  joined_in_list g ds =
      joined_same g (length ds) (did_at ds) ∙ in_list (λ (d : Did S A). joined g d.words) ds

  -- ----- what holds of each
  pub at_each : (P : Did S A → Type 0) → P did_nothing → (ds : List (Did S A)) → Each P ds → (n : ℕ)
      → P (did_at ds n)
  at_each P none [] each n = none
  at_each P none (d ∷ ds) each zero = each.0
  at_each P none (d ∷ ds) each (suc n) = at_each P none ds each.1 n

  -- their words are those of the deeds of turns with these names
  abbrev pub AreDeedsFrom : Order → (p : ℕ) → List (Did S A) → Type 0
  AreDeedsFrom order p [] = (q : ℕ) → p ≤ q → of q order ≡ []
  AreDeedsFrom order p (d ∷ ds) = (map deed_of d.words ≡ of p order) × AreDeedsFrom order (suc p) ds

  pub deeds_at : (order : Order) (p : ℕ) (ds : List (Did S A)) → AreDeedsFrom order p ds → (n : ℕ)
      → map deed_of (did_at ds n).words ≡ of (n + p) order
  deeds_at order p [] rest n = sym (rest (n + p) (omega arith))
  deeds_at order p (d ∷ ds) are zero =
      let same : p ≡ 0 + p = omega arith in are.0 ∙ ap (λ k. of k order) same
  deeds_at order p (d ∷ ds) are (suc n) =
      let same : n + suc p ≡ suc n + p = omega arith in
      deeds_at order (suc p) ds are.1 n ∙ ap (λ k. of k order) same

  -- ----- pairs
  module _ (R : Word S A → Word S A → Type 0) where
    abbrev pub Across : Did S A → Did S A → Type 0
    Across d e = Each (λ (m : Word S A). Each (R m) e.words) d.words

    abbrev pub AreAcross : Did S A → Did S A → Type 0
    AreAcross d e = Across d e × Across e d

    abbrev pub AreTwoByTwo : List (Did S A) → Type 0
    AreTwoByTwo [] = ⊤
    AreTwoByTwo (d ∷ ds) = Each (AreAcross d) ds × AreTwoByTwo ds

    to_none : (ms : List (Word S A)) → Each (λ (m : Word S A). Each (R m) []) ms
    to_none [] = tt
    to_none (m ∷ ms) = (tt, to_none ms)

    across : (ds : List (Did S A)) → AreTwoByTwo ds → (p q : ℕ) → p ≢ q → Across (did_at ds p) (did_at ds q)
    across [] pairs p q differs = tt
    across (d ∷ ds) pairs zero zero differs = absurd (differs refl)
    across (d ∷ ds) pairs zero (suc q) differs =
        (at_each (AreAcross d) (to_none d.words, tt) ds pairs.0 q).0
    across (d ∷ ds) pairs (suc p) zero differs =
        (at_each (AreAcross d) (to_none d.words, tt) ds pairs.0 p).1
    across (d ∷ ds) pairs (suc p) (suc q) differs = across ds pairs.1 p q (λ e. differs (ap suc e))

    pub all_pairs_at : (ds : List (Did S A)) → Each (λ (d : Did S A). ArePairs R d.words) ds → AreTwoByTwo ds
        → AreAllPairs R (words_in (did_at ds))
    all_pairs_at ds own pairs = (
      λ p. at_each (λ (d : Did S A). ArePairs R d.words) tt ds own p,
      λ p q differs. across ds pairs p q differs,
    )
