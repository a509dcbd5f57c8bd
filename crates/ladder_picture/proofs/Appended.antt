-- Texts that are appended one after another.
use Rattle.std.proofs.Common.{◌≡◌, ℕ, ◌+◌, ◌<◌, List, [], ◌∷◌, ◌++◌, length, get_or, take, map, flat_map, ap, sym, ◌∙◌}
use Rattle.std.proofs.Common.{append_assoc, append-nil}
use Rattle.std.proofs.lemmas.List.{take_more, map-append}
use Rattle.std.proofs.lemmas.List.Concat.{flat_map-append}

pub joined2 : (o0 o1 o2 a1 a2 : List ℕ) → o1 ≡ o0 ++ a1 → o2 ≡ o1 ++ a2 → o2 ≡ o0 ++ (a1 ++ a2)
joined2 o0 o1 o2 a1 a2 e1 e2 = e2 ∙ (ap (λ (t : List ℕ). t ++ a2) e1 ∙ append_assoc o0 a1 a2)

pub joined3 : (o0 o1 o2 o3 a1 a2 a3 : List ℕ)
    → o1 ≡ o0 ++ a1 → o2 ≡ o1 ++ a2 → o3 ≡ o2 ++ a3
    → o3 ≡ o0 ++ (a1 ++ a2 ++ a3)
joined3 o0 o1 o2 o3 a1 a2 a3 e1 e2 e3 =
    joined2 o0 o2 o3 (a1 ++ a2) a3
    (joined2 o0 o1 o2 a1 a2 e1 e2) e3

pub joined4 : (o0 o1 o2 o3 o4 a1 a2 a3 a4 : List ℕ)
    → o1 ≡ o0 ++ a1 → o2 ≡ o1 ++ a2 → o3 ≡ o2 ++ a3 → o4 ≡ o3 ++ a4
    → o4 ≡ o0 ++ (a1 ++ a2 ++ a3 ++ a4)
joined4 o0 o1 o2 o3 o4 a1 a2 a3 a4 e1 e2 e3 e4 =
    joined2 o0 o3 o4 (a1 ++ a2 ++ a3) a4
    (joined3 o0 o1 o2 o3 a1 a2 a3 e1 e2 e3) e4

pub joined5 : (o0 o1 o2 o3 o4 o5 a1 a2 a3 a4 a5 : List ℕ)
    → o1 ≡ o0 ++ a1 → o2 ≡ o1 ++ a2 → o3 ≡ o2 ++ a3 → o4 ≡ o3 ++ a4 → o5 ≡ o4 ++ a5
    → o5 ≡ o0 ++ (a1 ++ a2 ++ a3 ++ a4 ++ a5)
joined5 o0 o1 o2 o3 o4 o5 a1 a2 a3 a4 a5 e1 e2 e3 e4 e5 =
    joined2 o0 o4 o5 (a1 ++ a2 ++ a3 ++ a4) a5
    (joined4 o0 o1 o2 o3 o4 a1 a2 a3 a4 e1 e2 e3 e4) e5

pub joined6 : (o0 o1 o2 o3 o4 o5 o6 a1 a2 a3 a4 a5 a6 : List ℕ)
    → o1 ≡ o0 ++ a1 → o2 ≡ o1 ++ a2 → o3 ≡ o2 ++ a3 → o4 ≡ o3 ++ a4 → o5 ≡ o4 ++ a5 → o6 ≡ o5 ++ a6
    → o6 ≡ o0 ++ (a1 ++ a2 ++ a3 ++ a4 ++ a5 ++ a6)
joined6 o0 o1 o2 o3 o4 o5 o6 a1 a2 a3 a4 a5 a6 e1 e2 e3 e4 e5 e6 =
    joined2 o0 o5 o6 (a1 ++ a2 ++ a3 ++ a4 ++ a5) a6
    (joined5 o0 o1 o2 o3 o4 o5 a1 a2 a3 a4 a5 e1 e2 e3 e4 e5) e6

pub joined7 : (o0 o1 o2 o3 o4 o5 o6 o7 a1 a2 a3 a4 a5 a6 a7 : List ℕ)
    → o1 ≡ o0 ++ a1 → o2 ≡ o1 ++ a2 → o3 ≡ o2 ++ a3 → o4 ≡ o3 ++ a4 → o5 ≡ o4 ++ a5 → o6 ≡ o5 ++ a6 → o7 ≡ o6 ++ a7
    → o7 ≡ o0 ++ (a1 ++ a2 ++ a3 ++ a4 ++ a5 ++ a6 ++ a7)
joined7 o0 o1 o2 o3 o4 o5 o6 o7 a1 a2 a3 a4 a5 a6 a7 e1 e2 e3 e4 e5 e6 e7 =
    joined2 o0 o6 o7 (a1 ++ a2 ++ a3 ++ a4 ++ a5 ++ a6) a7
    (joined6 o0 o1 o2 o3 o4 o5 o6 a1 a2 a3 a4 a5 a6 e1 e2 e3 e4 e5 e6) e7

pub joined8 : (o0 o1 o2 o3 o4 o5 o6 o7 o8 a1 a2 a3 a4 a5 a6 a7 a8 : List ℕ)
    → o1 ≡ o0 ++ a1 → o2 ≡ o1 ++ a2 → o3 ≡ o2 ++ a3 → o4 ≡ o3 ++ a4 → o5 ≡ o4 ++ a5 → o6 ≡ o5 ++ a6 → o7 ≡ o6 ++ a7
    → o8 ≡ o7 ++ a8
    → o8 ≡ o0 ++ (a1 ++ a2 ++ a3 ++ a4 ++ a5 ++ a6 ++ a7 ++ a8)
joined8 o0 o1 o2 o3 o4 o5 o6 o7 o8 a1 a2 a3 a4 a5 a6 a7 a8 e1 e2 e3 e4 e5 e6 e7 e8 =
    joined2 o0 o7 o8 (a1 ++ a2 ++ a3 ++ a4 ++ a5 ++ a6 ++ a7) a8
    (joined7 o0 o1 o2 o3 o4 o5 o6 o7 a1 a2 a3 a4 a5 a6 a7 e1 e2 e3 e4 e5 e6 e7) e8

-- a path whose way has two parts
pub line_joined : (o0 o1 o2 o3 start way rest end : List ℕ) → o1 ≡ o0 ++ start → o2 ≡ o1 ++ way
    → o3 ≡ o2 ++ (rest ++ end) → o3 ≡ o0 ++ (start ++ (way ++ rest) ++ end)
line_joined o0 o1 o2 o3 start way rest end e1 e2 e3 =
    joined3 o0 o1 o2 o3 start way (rest ++ end) e1 e2 e3
    ∙ ap (λ (t : List ℕ). o0 ++ t)
    (append_assoc start way (rest ++ end)
    ∙ (ap (λ (t : List ℕ). start ++ t) (sym (append_assoc way rest end)) ∙ sym (append_assoc start (way ++ rest) end)))

-- the text of one item more
pub one_more : {A : Type 0} (f : A → List ℕ) (xs : List A) (i : ℕ) (d : A) (before now after : List ℕ) → i < length xs
    → now ≡ before ++ flat_map f (take i xs) → after ≡ now ++ f (get_or xs i d)
    → after ≡ before ++ flat_map f (take (i + 1) xs)
one_more f xs i d before now after below so_far more =
    more
    ∙ (ap (λ (t : List ℕ). t ++ f (get_or xs i d)) so_far
    ∙ (append_assoc before (flat_map f (take i xs)) (f (get_or xs i d))
    ∙ ap (λ (t : List ℕ). before ++ t) (sym (ap (flat_map f) (take_more xs i d below)
    ∙ (flat_map-append f (take i xs) (get_or xs i d ∷ [])
    ∙ ap (λ (t : List ℕ). flat_map f (take i xs) ++ t) (append-nil (f (get_or xs i d))))))))

-- the same of items as they are seen
pub one_seen : {A B : Type 0} (f : B → List ℕ) (see : A → B) (xs : List A) (i : ℕ) (x : A) (before now after : List ℕ)
    → i < length xs → x ≡ get_or xs i x → now ≡ before ++ flat_map f (map see (take i xs)) → after ≡ now ++ f (see x)
    → after ≡ before ++ flat_map f (map see (take (i + 1) xs))
one_seen f see xs i x before now after below is so_far more =
    let front : map see (take (i + 1) xs) ≡ map see (take i xs) ++ see x ∷ [] =
    ap (map see) (take_more xs i x below ∙ ap (λ y. take i xs ++ y ∷ []) (sym is)) ∙ map-append see (take i xs)
    (x ∷ []) in
    more
    ∙ (ap (λ (t : List ℕ). t ++ f (see x)) so_far
    ∙ (append_assoc before (flat_map f (map see (take i xs))) (f (see x))
    ∙ ap (λ (t : List ℕ). before ++ t) (sym (ap (flat_map f) front
    ∙ (flat_map-append f (map see (take i xs)) (see x ∷ [])
    ∙ ap (λ (t : List ℕ). flat_map f (map see (take i xs)) ++ t) (append-nil (f (see x))))))))
