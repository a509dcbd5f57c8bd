use Rattle.std.proofs.Common.{arith, sym}
use Rattle.std.proofs.lemmas.Bool.{false_from_ne_true}
use Rattle.std.proofs.lemmas.Slice.Eq.{bytes_eq-Decides}
use Rattle.report_lines.specs.Fronts.{bytes_in}
use Rattle.report_lines.proofs.HexBytes.{one_same, one_differs, all_written}
use Rattle.report_lines.proofs.hex.are_rest.Goals as goal

pub returns-then-bytes-i : goal.returns-then-bytes-i
returns-then-bytes-i c =
    sym (false_from_ne_true _ (λ is. c.if-bytes-i.true
    (one_differs c.args.digits.now c.args.bytes.now c.bytes.i c.byte_of.result (omega arith) (omega arith)
    c.byte_of.ensures c.bytes.invariant ((bytes_eq-Decides c.args.bytes.now (bytes_in c.args.digits.now)).0 is))))

pub bytes-preserved : goal.bytes-preserved
bytes-preserved c =
    one_same c.args.digits.now c.args.bytes.now c.bytes.i c.byte_of.result (omega arith) (omega arith)
    c.byte_of.ensures c.if-bytes-i.false c.bytes.invariant

pub returns : goal.returns
returns c =
    sym ((bytes_eq-Decides c.args.bytes.now (bytes_in c.args.digits.now)).1
    (all_written c.args.digits.now c.args.bytes.now c.bytes.i (omega arith) (omega arith) c.bytes.invariant))
