-- Where an item stands in a list of what is made of each: for the answer for `Books::place_of`.
use Rattle.std.proofs.Common.{◌≡◌, ◌+◌, Bool, true, false, List, [], ◌∷◌, map, refl, sym, ap, ◌∙◌}
use Rattle.std.specs.Prelude.{position}
use Rattle.std.specs.Option.{option_map}
use Rattle.slow_rounds.proofs.Slots.{position_here, position_past}

pub position_map : {X Y : Type 0} (p : Y → Bool) (f : X → Y) (xs : List X)
    → position p (map f xs) ≡ position (λ (x : X). p (f x)) xs
position_map p f [] = refl
position_map {X} p f (x ∷ xs) = by (p (f x)) refl (position_map p f xs)
  where
    by : (t : Bool) → p (f x) ≡ t → position p (map f xs) ≡ position (λ (y : X). p (f y)) xs
        → position p (f x ∷ map f xs) ≡ position (λ (y : X). p (f y)) (x ∷ xs)
    by true e rest =
        position_here p (f x) (map f xs) e ∙ sym (position_here (λ (y : X). p (f y)) x xs e)
    by false e rest =
        position_past p (f x) (map f xs) e
        ∙ (ap (option_map (λ i. 1 + i)) rest ∙ sym (position_past (λ (y : X). p (f y)) x xs e))
