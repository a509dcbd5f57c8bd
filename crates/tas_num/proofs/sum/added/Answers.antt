use Rattle.std.proofs.Common.{◌≡◌, ℕ, ◌+◌, ◌*◌, ◌/◌, ◌<◌, [], drop, length, sum, slice_index, slice_index_or, subst}
use Rattle.std.proofs.Common.{sym, ap, ◌∙◌, arith}
use Rattle.std.proofs.lemmas.List.Sums.{sum_by-cons}
use Rattle.tas_num.specs.Sums.{words}
use Rattle.tas_num.proofs.Pairs.{Splits, pair_at}
use Rattle.tas_num.proofs.sum.added.Goals as goal

pub loop-pair-preserved : goal.loop-pair-preserved
loop-pair-preserved c =
    let b = c.args.b.now in
    let i = c.loop-pair.pair-index in
    let here : i < length b / 2 = omega (arith, c.loop-pair-test.true, c.as_chunks.ensures.front_len) in
    let split = pair_at i (length b / 2) b here (omega arith) in
    let next : Splits i b c.as_chunks.result.0.now = subst (Splits i b) (sym c.as_chunks.ensures.front) split in
    let pair = slice_index_or c.as_chunks.result.0.now i [] in
    let word : ℕ = 256 * slice_index pair 0 + slice_index pair 1 in
    let behind = words (drop (2 * (i + 1)) b) in
    let added : sum (words (drop (2 * i) b)) ≡ word + sum behind =
    ap (λ bytes. sum (words bytes)) next ∙ sum_by-cons (λ w. w) word behind in
    let so_far = c.loop-pair.invariant in
    let value = c.from_be_bytes in (
      omega (arith, added, so_far.0, c.from-total.ensures, value.ensures),
      omega (arith, so_far.1, c.from-total.ensures, value.type_inv),
    )
