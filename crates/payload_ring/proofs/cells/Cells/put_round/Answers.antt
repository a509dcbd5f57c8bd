use Rattle.std.proofs.Common.{arith}
use Rattle.payload_ring.proofs.Turning.{written-round}
use Rattle.payload_ring.proofs.cells.Cells.put_round.Goals as goal

pub returns-clause-cells : goal.returns-clause-cells
returns-clause-cells c =
    rw (c.put-2.ensures.cells, c.put.ensures.cells, c.split_at.ensures.front, c.split_at.ensures.back)
    (written-round c.args.start c.args.at c.index_of-index.result _ c.args.piece.now c.args.self.now.cells
    c.requires.start c.requires.fits
    (λ h. c.index_of-index.ensures.before (omega (arith, h, c.len.ensures)))
    (λ h. omega (arith, h, c.len.ensures, c.index_of-index.ensures.past (omega (arith, h, c.len.ensures))))
    (omega (arith, c.min.ensures, c.len-2.ensures)))
