-- Lists and the place that a loop has come to.
use Rattle.std.proofs.Common.{◌≡◌, ℕ, ◌+◌, ◌<◌, List, [], ◌∷◌, ◌++◌, length, map, get_or, take, drop, Some, slice_get}
use Rattle.std.proofs.Common.{refl, sym, ap, ◌∙◌, add-one, drop-cons, arith, length-take}
use Rattle.std.proofs.lemmas.List.{take_more, map-append}
use Rattle.std.proofs.lemmas.Option.{slice_get_within, get_or_from_slice_get}

-- the element there, and those behind it
pub cut_at : {X : Type 0} (xs : List X) (i : ℕ) (x : X) → slice_get xs i ≡ Some x → drop i xs ≡ x ∷ drop (i + 1) xs
cut_at xs i x e =
    let inside : i < length xs = slice_get_within xs i x e in
    let cut : drop i xs ≡ get_or xs i x ∷ drop (i + 1) xs = rw (add-one, drop-cons xs i x inside) refl in
    cut ∙ ap (λ y. y ∷ drop (i + 1) xs) (get_or_from_slice_get xs i x x e)

-- and those up to it
pub taken_more : {X : Type 0} (xs : List X) (i : ℕ) (x : X) → slice_get xs i ≡ Some x
    → take (i + 1) xs ≡ take i xs ++ x ∷ []
taken_more xs i x e =
    take_more xs i x (slice_get_within xs i x e) ∙ ap (λ y. take i xs ++ y ∷ []) (get_or_from_slice_get xs i x x e)

pub taken_len : {X : Type 0} (xs : List X) (i : ℕ) (x : X) → slice_get xs i ≡ Some x → length (take i xs) ≡ i
taken_len xs i x e = let inside : i < length xs = slice_get_within xs i x e in omega (arith, length-take i xs)

-- what was made of those up to it, one more
pub mapped_more : {X Y : Type 0} (f : X → Y) (xs : List X) (i : ℕ) (x : X) (y : Y) (ys zs : List Y)
    → slice_get xs i ≡ Some x
    → ys ≡ map f (take i xs) → y ≡ f x → zs ≡ ys ++ y ∷ [] → zs ≡ map f (take (i + 1) xs)
mapped_more f xs i x y ys zs e was made more =
    more
    ∙ (ap (λ ws. ws ++ y ∷ []) was
    ∙ (ap (λ w. map f (take i xs) ++ w ∷ []) made
    ∙ sym (ap (map f) (taken_more xs i x e) ∙ map-append f (take i xs) (x ∷ []))))
