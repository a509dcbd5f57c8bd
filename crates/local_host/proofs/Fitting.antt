-- Of the bytes that a capture shows, those wait that fit behind the ones that wait already: for `Shown::see`.
use Rattle.std.proofs.Common.{◌≡◌, ℕ, ◌+◌, ◌-◌, ◌≤◌, ◌++◌, List, length, take, min, sym, ap, ◌∙◌, arith}
use Rattle.std.proofs.Math.Seq.{take-append-add}
use Rattle.std.proofs.lemmas.List.{take_min}

pub first_that_fit : (most n : ℕ) (waiting fresh : List ℕ) → length waiting ≤ most
    → n ≡ min (most - length waiting) (length fresh) → waiting ++ take n fresh ≡ take most (waiting ++ fresh)
first_that_fit most n waiting fresh few is =
    let whole : length waiting + (most - length waiting) ≡ most = omega (arith, few) in
    ap (λ (k : ℕ). waiting ++ take k fresh) is
    ∙ (ap (λ (bs : List ℕ). waiting ++ bs) (take_min (most - length waiting) fresh)
    ∙ (sym (take-append-add waiting fresh (most - length waiting))
    ∙ ap (λ (k : ℕ). take k (waiting ++ fresh)) whole))
