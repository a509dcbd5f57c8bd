-- Changes of one item of a list: what is found then, and which of them are one.
use Rattle.std.proofs.Common.{◌≡◌, ℕ, zero, suc, cond, Bool, true, false, List, [], ◌∷◌, Some}
use Rattle.std.proofs.Common.{slice_get, refl, sym, ap, ◌∙◌, subst}
use Rattle.std.specs.List.{find}
use Rattle.host_rounds.specs.Lists.{Each, change_first, change_at}

-- ----- at a place
pub get_changed : {X : Type 0} (n : ℕ) (f : X → X) (xs : List X) (x : X) → slice_get xs n ≡ Some x
    → slice_get (change_at n f xs) n ≡ Some (f x)
get_changed n f [] x at = absurd (cc (at))
get_changed zero f (y ∷ ys) x at = let same : y ≡ x = cc (at) in ap (λ z. Some (f z)) same
get_changed (suc n) f (y ∷ ys) x at = get_changed n f ys x at

pub get_other : {X : Type 0} (n m : ℕ) (f : X → X) (xs : List X) → (n ≡ m → ⊥)
    → slice_get (change_at n f xs) m ≡ slice_get xs m
get_other n m f [] other = refl
get_other zero zero f (y ∷ ys) other = absurd (other refl)
get_other zero (suc m) f (y ∷ ys) other = refl
get_other (suc n) zero f (y ∷ ys) other = refl
get_other (suc n) (suc m) f (y ∷ ys) other = get_other n m f ys (λ h. other (ap suc h))

pub change_same : {X : Type 0} (n : ℕ) (f g : X → X) (xs : List X) (x : X) → slice_get xs n ≡ Some x → f x ≡ g x
    → change_at n f xs ≡ change_at n g xs
change_same n f g [] x at same = refl
change_same {X} zero f g (y ∷ ys) x at same =
    let is : y ≡ x = cc (at) in
    ap (λ (z : X). z ∷ ys) (ap f is ∙ same ∙ sym (ap g is))
change_same {X} (suc n) f g (y ∷ ys) x at same = ap (λ (zs : List X). y ∷ zs) (change_same n f g ys x at same)

-- what holds of each holds there
pub each_at : {X : Type 0} (P : X → Type 0) (xs : List X) (n : ℕ) (x : X) → Each P xs → slice_get xs n ≡ Some x → P x
each_at P [] n x each at = absurd (cc (at))
each_at {X} P (y ∷ ys) zero x each at = let same : y ≡ x = cc (at) in subst P same each.0
each_at P (y ∷ ys) (suc n) x each at = each_at P ys n x each.1 at

-- ----- the first that passes
-- what a change of the first makes of a list, by whether its own first passes
pub first_here : {X : Type 0} (test : X → Bool) (f : X → X) (x : X) (xs : List X) → test x ≡ true
    → change_first test f (x ∷ xs) ≡ f x ∷ xs
first_here {X} test f x xs here =
    ap (λ (b : Bool). elim b [ true ↦ f x ∷ xs | false ↦ x ∷ change_first test f xs ]) here

pub first_later : {X : Type 0} (test : X → Bool) (f : X → X) (x : X) (xs : List X) → test x ≡ false
    → change_first test f (x ∷ xs) ≡ x ∷ change_first test f xs
first_later {X} test f x xs here =
    ap (λ (b : Bool). elim b [ true ↦ f x ∷ xs | false ↦ x ∷ change_first test f xs ]) here

pub found_here : {X : Type 0} (test : X → Bool) (x : X) (xs : List X) → test x ≡ true → find test (x ∷ xs) ≡ Some x
found_here test x xs here = ap (λ b. cond b (Some x) (find test xs)) here

pub found_later : {X : Type 0} (test : X → Bool) (x : X) (xs : List X) → test x ≡ false
    → find test (x ∷ xs) ≡ find test xs
found_later test x xs here = ap (λ b. cond b (Some x) (find test xs)) here

-- one of the two, for a proof by cases
pub by_bool : {P : Type 0} (b : Bool) → (b ≡ true → P) → (b ≡ false → P) → P
by_bool true f g = f refl
by_bool false f g = g refl

-- the one that is found passes
pub found_passes : {X : Type 0} (test : X → Bool) (xs : List X) (x : X) → find test xs ≡ Some x → test x ≡ true
found_passes test [] x found = absurd (cc (found))
found_passes {X} test (y ∷ ys) x found =
    by_bool (test y) here (λ h. found_passes test ys x (sym (found_later test y ys h) ∙ found))
  where
    here : test y ≡ true → test x ≡ true
    here h = let same : Some y ≡ Some x = sym (found_here test y ys h) ∙ found in
        let is : y ≡ x = cc (same) in subst (λ (z : X). test z ≡ true) is h

-- changes that agree on the one that is found are one
pub first_same : {X : Type 0} (test : X → Bool) (f g : X → X) (xs : List X) (x : X) → find test xs ≡ Some x
    → f x ≡ g x → change_first test f xs ≡ change_first test g xs
first_same test f g [] x found same = refl
first_same {X} test f g (y ∷ ys) x found same =
    by_bool (test y) here (λ h. later h (first_same test f g ys x (sym (found_later test y ys h) ∙ found) same))
  where
    here : test y ≡ true → change_first test f (y ∷ ys) ≡ change_first test g (y ∷ ys)
    here h =
        let both : Some y ≡ Some x = sym (found_here test y ys h) ∙ found in
        let is : y ≡ x = cc (both) in
        first_here test f y ys h
        ∙ ap (λ (z : X). z ∷ ys) (ap f is ∙ same ∙ sym (ap g is))
        ∙ sym (first_here test g y ys h)

    later : test y ≡ false → change_first test f ys ≡ change_first test g ys
        → change_first test f (y ∷ ys) ≡ change_first test g (y ∷ ys)
    later h rest =
        first_later test f y ys h ∙ ap (λ (zs : List X). y ∷ zs) rest ∙ sym (first_later test g y ys h)

-- and changes that are one agree on it
pub first_value : {X : Type 0} (test : X → Bool) (f g : X → X) (xs : List X) (x : X) → find test xs ≡ Some x
    → change_first test f xs ≡ change_first test g xs → f x ≡ g x
first_value test f g [] x found same = absurd (cc (found))
first_value {X} test f g (y ∷ ys) x found same =
    by_bool (test y) here (λ h. first_value test f g ys x (sym (found_later test y ys h) ∙ found) (tails h))
  where
    here : test y ≡ true → f x ≡ g x
    here h =
        let both : Some y ≡ Some x = sym (found_here test y ys h) ∙ found in
        let is : y ≡ x = cc (both) in
        let lists : f y ∷ ys ≡ g y ∷ ys = sym (first_here test f y ys h) ∙ same ∙ first_here test g y ys h in
        let heads : f y ≡ g y = cc (lists) in
        sym (ap f is) ∙ heads ∙ ap g is

    tails : test y ≡ false → change_first test f ys ≡ change_first test g ys
    tails h =
        let lists : y ∷ change_first test f ys ≡ y ∷ change_first test g ys =
        sym (first_later test f y ys h) ∙ same ∙ first_later test g y ys h in
        cc (lists)

-- ----- two tests that nothing passes both of, also when it was changed
pub record AreTwoTests {X : Type 0} (one : X → Bool) (f : X → X) (other : X → Bool) : Type 0 where
  pub before : (x : X) → one x ≡ true → other x ≡ false
  pub after : (x : X) → one x ≡ true → other (f x) ≡ false

-- a change of the first of the one leaves what is found by the other
pub find_other : {X : Type 0} (one other : X → Bool) (f : X → X) (xs : List X) → AreTwoTests one f other
    → find other (change_first one f xs) ≡ find other xs
find_other one other f [] two = refl
find_other {X} one other f (y ∷ ys) two =
    by_bool (one y) here (λ h. later h (find_other one other f ys two))
  where
    here : one y ≡ true → find other (change_first one f (y ∷ ys)) ≡ find other (y ∷ ys)
    here h =
        ap (find other) (first_here one f y ys h)
        ∙ found_later other (f y) ys (two.after y h)
        ∙ sym (found_later other y ys (two.before y h))

    later : one y ≡ false → find other (change_first one f ys) ≡ find other ys
        → find other (change_first one f (y ∷ ys)) ≡ find other (y ∷ ys)
    later h more = ap (find other) (first_later one f y ys h) ∙ ap (cond (other y) (Some y)) more

-- changes of the first of each may come in any order
pub firsts_pass : {X : Type 0} (one other : X → Bool) (f g : X → X) (xs : List X) → AreTwoTests one f other
    → AreTwoTests other g one
    → change_first other g (change_first one f xs) ≡ change_first one f (change_first other g xs)
firsts_pass one other f g [] two back = refl
firsts_pass {X} one other f g (y ∷ ys) two back =
    by_bool (one y) first (λ h. by_bool (other y) (second h) (third h (firsts_pass one other f g ys two back)))
  where
    Pass : List X → Type 0
    Pass xs = change_first other g (change_first one f xs) ≡ change_first one f (change_first other g xs)

    first : one y ≡ true → Pass (y ∷ ys)
    first h =
        ap (change_first other g) (first_here one f y ys h)
        ∙ first_later other g (f y) ys (two.after y h)
        ∙ sym (first_here one f y (change_first other g ys) h)
        ∙ sym (ap (change_first one f) (first_later other g y ys (two.before y h)))

    second : one y ≡ false → other y ≡ true → Pass (y ∷ ys)
    second h k =
        ap (change_first other g) (first_later one f y ys h)
        ∙ first_here other g y (change_first one f ys) k
        ∙ sym (first_later one f (g y) ys (back.after y k))
        ∙ sym (ap (change_first one f) (first_here other g y ys k))

    third : one y ≡ false → Pass ys → other y ≡ false → Pass (y ∷ ys)
    third h rest k =
        ap (change_first other g) (first_later one f y ys h)
        ∙ first_later other g y (change_first one f ys) k
        ∙ ap (λ (zs : List X). y ∷ zs) rest
        ∙ sym (first_later one f y (change_first other g ys) h)
        ∙ sym (ap (change_first one f) (first_later other g y ys k))
