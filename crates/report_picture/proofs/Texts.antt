-- Places of bytes in a text.
use Rattle.std.proofs.Common.{◌≡◌, ◌≤◌, ℕ, Bool, true, false, not, cond, ltb, List, [], ◌∷◌, length, map, Option}
use Rattle.std.proofs.Common.{Some, None, refl, sym}
use Rattle.std.proofs.Common.{ap, ◌∙◌, ◌+◌, ◌||◌, arith}
use Rattle.std.specs.Prelude.{position, unwrap_or}
use Rattle.std.specs.List.{position_or_len, prefix_len, list_any}
use Rattle.std.proofs.lemmas.Bool.Decides.{nat_tests}
use Rattle.std.proofs.lemmas.List.Sums.{prefix_len-le-length}

at_place : (n len : ℕ) → n ≤ len → unwrap_or (cond (ltb n len) (Some n) None) len ≡ n
at_place n len h = by_test (ltb n len) refl where
  by_test : (b : Bool) → ltb n len ≡ b → unwrap_or (cond b (Some n) None) len ≡ n
  by_test true e = refl
  by_test false e = grind (arith, nat_tests, e, h)

-- the first that passes, or the end, is where those that do not end
pub up_to : (test : ℕ → Bool) (text : List ℕ)
    → unwrap_or (position test text) (length text) ≡ prefix_len (λ (c : ℕ). not (test c)) text
up_to test text =
    at_place (position_or_len test text) (length text) (prefix_len-le-length (λ (c : ℕ). not (test c)) text)

-- one of a list that is seen through a function
pub any_mapped : {A B : Type 0} (f : A → B) (p : B → Bool) (xs : List A)
    → list_any (λ (x : A). p (f x)) xs ≡ list_any p (map f xs)
any_mapped f p [] = refl
any_mapped f p (x ∷ xs) = ap (λ (b : Bool). p (f x) || b) (any_mapped f p xs)
