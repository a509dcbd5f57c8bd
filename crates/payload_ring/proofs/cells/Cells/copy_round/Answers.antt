use Rattle.std.proofs.Common.{◌≡◌, ℕ, ◌-◌, ◌++◌, List, length, take, drop, ap, ◌∙◌, arith}
use Rattle.payload_ring.proofs.Turning.{read-round}
use Rattle.payload_ring.proofs.cells.Cells.copy_round.Goals as goal

pub returns : goal.returns
returns c =
    let i : ℕ = c.index_of-index.result in
    let m : ℕ = c.min-count.result in
    let n : ℕ = length c.args.out.now in
    let cells : List ℕ = c.args.self.now.cells in
    let front : c.copy.new.out ≡ take m (drop i cells) = c.copy.ensures
    ∙ ap (λ (k : ℕ). take k (drop i cells)) c.split_at_mut-front.ensures.front_len in
    let back : c.copy-2.new.out ≡ take (n - m) cells = c.copy-2.ensures
    ∙ ap (λ (k : ℕ). take k cells) (omega (arith, c.split_at_mut-front.ensures.back_len)) in
    ap (λ (xs : List ℕ). xs ++ c.copy-2.new.out) front
    ∙ (ap (λ (xs : List ℕ). take m (drop i cells) ++ xs) back
    ∙ read-round c.args.start c.args.at i m n cells c.requires.start c.requires.fits
    (λ h. c.index_of-index.ensures.before (omega (arith, h, c.len.ensures)))
    (λ h. omega (arith, h, c.len.ensures, c.index_of-index.ensures.past (omega (arith, h, c.len.ensures))))
    (omega (arith, c.min-count.ensures, c.len-2.ensures)))
