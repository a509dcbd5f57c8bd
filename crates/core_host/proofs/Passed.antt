-- How many frames cores left: for the answer for `passed_in`.
use Rattle.std.proofs.Common.{◌≡◌, ◌+◌, ℕ, List, ◌∷◌, ◌++◌, length, arith, length-append}
use Rattle.core_phase.specs.declared.lane.Lane.{Lane}
use Rattle.host_books.specs.Words.{joined}
use Rattle.phase_orders.specs.Collecting.{all_passed, exceptions_of, deferred_of}

-- those of one lane more
pub passed_more : (v : Lane) (vs : List Lane)
    → length (all_passed (v ∷ vs))
    ≡ (length (exceptions_of v) + length (deferred_of v)) + length (all_passed vs)
passed_more v vs =
    let all = length-append (joined exceptions_of (v ∷ vs)) (joined deferred_of (v ∷ vs)) in
    let rest = length-append (joined exceptions_of vs) (joined deferred_of vs) in
    let one = length-append (exceptions_of v) (joined exceptions_of vs) in
    let two = length-append (deferred_of v) (joined deferred_of vs) in
    omega (arith, all, rest, one, two)
