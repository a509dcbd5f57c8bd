-- Whether there are bytes, told by their number.
use Rattle.std.proofs.Common.{◌≡◌, ℕ, List, [], ◌∷◌, length, refl, arith}
use Rattle.std.specs.Prelude.{◌==◌, bytes_eq}
use Rattle.std.proofs.lemmas.Bool.Decides.{nat_tests}

pub no_bytes : (xs : List ℕ) → (length xs == 0) ≡ bytes_eq xs []
no_bytes [] = refl
no_bytes (x ∷ xs) = grind (arith, nat_tests)
