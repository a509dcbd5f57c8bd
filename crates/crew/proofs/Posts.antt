-- What is known of a crew's posts once the last one is taken away.
use Rattle.std.proofs.Common.{◌≡◌, List, [], ◌∷◌, ◌++◌, ap, ◌∙◌}
use Rattle.std.specs.Prelude.{Option, Some, None, IfSome, option_to_list}
use Rattle.std.proofs.lemmas.List.{map-append}
use Rattle.crew.specs.Crews.{desk_of, desks_of}
use Rattle.crew.specs.declared.post.Post.{Post}

pub desks_taken : {W : Type 0} → (all left : List (Post W)) (taken : Option (Post W))
    → all ≡ left ++ option_to_list taken → IfSome taken (λ p. desks_of all ≡ desks_of left ++ desk_of p ∷ [])
desks_taken all left None is = tt
desks_taken all left (Some p) is = ap desks_of is ∙ map-append desk_of left (p ∷ [])
