-- What was done to both halves of a list was done to all of it.
use Rattle.std.proofs.Common.{◌≡◌, List, ◌++◌, map, Result, OnOk, ap, sym, ◌∙◌}
use Rattle.std.proofs.lemmas.List.{map-append}
use Rattle.local_host.proofs.Places.{ok_both}

pub halves_done : {T E X : Type 0} (r : Result T E) (f : X → X) (all low high front back : List X) → all ≡ low ++ high
    → OnOk r (front ≡ map f low) → OnOk r (back ≡ map f high) → OnOk r (front ++ back ≡ map f all)
halves_done {T} {E} {X} r f all low high front back is = ok_both r
    (λ first second. ap (λ (zs : List X). zs ++ back) first
    ∙ (ap (λ (zs : List X). map f low ++ zs) second
    ∙ (sym (map-append f low high) ∙ ap (map f) (sym is))))
