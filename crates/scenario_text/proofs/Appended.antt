-- Texts that are appended one after another.
use Rattle.std.proofs.Common.{◌≡◌, ℕ, ◌+◌, ◌<◌, List, [], ◌∷◌, ◌++◌, length, take, flat_map, get_or, ap, sym, ◌∙◌}
use Rattle.std.proofs.Common.{append_assoc, append-nil, rules}
use Rattle.std.proofs.lemmas.List.{take_more}
use Rattle.std.proofs.lemmas.List.Concat.{flat_map-append}

pub four_appended : (before first second third all a b c d : List ℕ) → first ≡ before ++ a → second ≡ first ++ b
    → third ≡ second ++ c → all ≡ third ++ d → all ≡ before ++ (a ++ b ++ c ++ d)
four_appended before first second third all a b c d e1 e2 e3 e4 =
    e4 ∙ (ap (λ (t : List ℕ). t ++ d) (e3 ∙ ap (λ (t : List ℕ). t ++ c) (e2 ∙ ap (λ (t : List ℕ). t ++ b) e1)) ∙ joined)
  where
    joined : (((before ++ a) ++ b) ++ c) ++ d ≡ before ++ (a ++ b ++ c ++ d)
    joined = search (rules, append_assoc)

-- the text of one item more
pub one_more : {A : Type 0} (f : A → List ℕ) (xs : List A) (i : ℕ) (x : A) (before now after : List ℕ) → i < length xs
    → x ≡ get_or xs i x → now ≡ before ++ flat_map f (take i xs) → after ≡ now ++ f x
    → after ≡ before ++ flat_map f (take (i + 1) xs)
one_more f xs i x before now after below is so_far more =
    let front : take (i + 1) xs ≡ take i xs ++ x ∷ [] =
    take_more xs i x below ∙ ap (λ y. take i xs ++ y ∷ []) (sym is) in
    let all : flat_map f (take (i + 1) xs) ≡ flat_map f (take i xs) ++ f x =
    ap (flat_map f) front
    ∙ (flat_map-append f (take i xs) (x ∷ []) ∙ ap (λ (t : List ℕ). flat_map f (take i xs) ++ t) (append-nil (f x))) in
    more
    ∙ (ap (λ (t : List ℕ). t ++ f x) so_far
    ∙ (append_assoc before (flat_map f (take i xs)) (f x) ∙ ap (λ (t : List ℕ). before ++ t) (sym all)))
