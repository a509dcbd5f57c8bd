-- Rows of moves.
use Rattle.std.proofs.Common.{◌≡◌, ℕ, zero, suc, List, [], ◌∷◌, slice_get, Some, refl, sym, subst, ap}
use Rattle.std.proofs.Common.{◌∙◌}
use Rattle.host_rounds.specs.Lists.{change_at}
use Rattle.host_rounds.specs.Hosts.{Live, Host, Starts}
use Rattle.host_rounds.specs.Moves.{Move, moved, AreMoves}

-- ----- lists
-- the change of an item that is known
pub change_known : {X : Type 0} (n : ℕ) (f g : X → X) (xs : List X) (x : X) → slice_get xs n ≡ Some x → f x ≡ g x
    → change_at n f xs ≡ change_at n g xs
change_known n f g [] x here same = refl
change_known {X} zero f g (y ∷ xs) x here same =
    let e : y ≡ x = cc (here) in
    ap (λ (z : X). z ∷ xs) (ap f e ∙ same ∙ ap g (sym e))
change_known {X} (suc n) f g (y ∷ xs) x here same = ap (λ (zs : List X). y ∷ zs) (change_known n f g xs x here same)

-- two changes of one item
pub change_twice : {X : Type 0} (n : ℕ) (f g : X → X) (xs : List X)
    → change_at n g (change_at n f xs) ≡ change_at n (λ (x : X). g (f x)) xs
change_twice n f g [] = refl
change_twice zero f g (x ∷ xs) = refl
change_twice {X} (suc n) f g (x ∷ xs) = ap (λ (zs : List X). x ∷ zs) (change_twice n f g xs)

-- no change
pub change_none : {X : Type 0} (n : ℕ) (xs : List X) → change_at n (λ (x : X). x) xs ≡ xs
change_none n [] = refl
change_none zero (x ∷ xs) = refl
change_none {X} (suc n) (x ∷ xs) = ap (λ (zs : List X). x ∷ zs) (change_none n xs)

-- ----- rows of moves
abbrev pub Row : Starts → ℕ → Host → Host → Type 0
Row starts t before after = (moves : List Move) × AreMoves starts t before moves after

pub none : (starts : Starts) (t : ℕ) (host : Host) → Row starts t host host
none starts t host = ([], refl)

abbrev pub with_flows : Host → List Live → Host
with_flows host ls = record host { flows = ls }

-- no move leads to what is the same
pub same_row : (starts : Starts) (t : ℕ) (a b c : Host) → b ≡ c → Row starts t a b → Row starts t a c
same_row starts t a b c e row = subst (λ (h : Host). Row starts t a h) e row

pub joined : (starts : Starts) (t : ℕ) (a b c : Host) (ms : List Move) → AreMoves starts t a ms b → Row starts t b c
    → Row starts t a c
joined starts t a b c [] same row = subst (λ (h : Host). Row starts t h c) (sym same) row
joined starts t a b c (m ∷ ms) are row =
    let rest : Row starts t (moved starts t a m) c = joined starts t (moved starts t a m) b c ms are.1 row in
    (m ∷ rest.0, (are.0, rest.1))
