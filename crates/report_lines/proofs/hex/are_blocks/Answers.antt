use Rattle.std.proofs.Common.{arith, ◌≡◌, ◌∙◌, ◌*◌, sym, ap, length}
use Rattle.std.specs.Simd.Lanes.{chunk}
use Rattle.std.proofs.lemmas.Bool.{false_from_ne_true}
use Rattle.std.proofs.lemmas.Simd.{length-chunk}
use Rattle.std.proofs.lemmas.Slice.Eq.{bytes_eq-Decides}
use Rattle.report_lines.specs.Fronts.{bytes_in}
use Rattle.report_lines.proofs.HexVectors.{block_hex, block_same, block_differs, blocks_done, lanes_same}
use Rattle.report_lines.proofs.HexVectors.{lanes_none, sixteen}
use Rattle.report_lines.proofs.hex.are_blocks.Goals as goal

pub bytes_of-requires : goal.bytes_of-requires
bytes_of-requires c = block_hex c.args.digits.now c.sixteens.block c.requires.digits

pub returns-then-bytes_of-bytes-ne0 : goal.returns-then-bytes_of-bytes-ne0
returns-then-bytes_of-bytes-ne0 c =
    let made : length c.bytes_of.result ≡ 16 = ap length c.bytes_of.ensures
    ∙ sixteen c.args.digits.now c.sixteens.block (omega arith) in
    let there = length-chunk (16 * c.sixteens.block) 16 c.args.bytes.now (omega arith) in
    sym (false_from_ne_true _ (λ is. c.if-bytes_of-bytes-ne0.true (lanes_none c.bytes_of.result
    (chunk (16 * c.sixteens.block) 16 c.args.bytes.now) made there
    (block_differs c.args.digits.now c.args.bytes.now c.bytes_of.result c.sixteens.block (omega arith) (omega arith)
    c.bytes_of.ensures c.sixteens.invariant
    ((bytes_eq-Decides c.args.bytes.now (bytes_in c.args.digits.now)).0 is)))))

pub sixteens-preserved : goal.sixteens-preserved
sixteens-preserved c =
    let made : length c.bytes_of.result ≡ 16 = ap length c.bytes_of.ensures
    ∙ sixteen c.args.digits.now c.sixteens.block (omega arith) in
    let there = length-chunk (16 * c.sixteens.block) 16 c.args.bytes.now (omega arith) in
    block_same c.args.digits.now c.args.bytes.now c.bytes_of.result c.sixteens.block (omega arith) (omega arith)
    c.bytes_of.ensures (lanes_same c.bytes_of.result (chunk (16 * c.sixteens.block) 16 c.args.bytes.now) made there
    c.if-bytes_of-bytes-ne0.false) c.sixteens.invariant

pub returns : goal.returns
returns c =
    sym ((bytes_eq-Decides c.args.bytes.now (bytes_in c.args.digits.now)).1
    (blocks_done c.args.digits.now c.args.bytes.now c.sixteens.block (omega arith) (omega arith) (omega arith)
    c.sixteens.invariant))
