use Rattle.std.proofs.Common.{◌*◌, ◌/◌, ◌∙◌, ◌&&◌, Bool, length, sym, ap, arith}
use Rattle.std.specs.Str.{bytes_eq}
use Rattle.std.proofs.lemmas.Bool.{false_from_ne_true}
use Rattle.std.proofs.lemmas.Slice.Eq.{bytes_eq-Decides}
use Rattle.report_lines.specs.Fronts.{bytes_in}
use Rattle.report_lines.proofs.HexBytes.{half_as_many}
use Rattle.report_lines.proofs.HexVectors.{eq_of_parts}
use Rattle.report_lines.proofs.hex.are_bytes.Goals as goal

pub returns-then-bytes-digits : goal.returns-then-bytes-digits
returns-then-bytes-digits c =
    sym (false_from_ne_true _ (λ is. c.if-bytes-digits.true
    (ap length ((bytes_eq-Decides c.args.bytes.now (bytes_in c.args.digits.now)).0 is)
    ∙ half_as_many c.args.digits.now)))

pub returns-then-are_blocks : goal.returns-then-are_blocks
returns-then-are_blocks c =
    let whole = eq_of_parts c.args.bytes.now c.args.digits.now c.split_at-2.result.0.now c.split_at-2.result.1.now
    c.split_at.result.0.now c.split_at.result.1.now (length c.args.bytes.now / 16 * 16) (omega arith) (omega arith)
    c.split_at-2.ensures.front c.split_at-2.ensures.back c.split_at.ensures.front c.split_at.ensures.back in
    sym (whole ∙ (ap (λ (t : Bool). t && bytes_eq c.split_at-2.result.1.now (bytes_in c.split_at.result.1.now))
    (sym c.are_blocks.ensures ∙ c.if-are_blocks.true) ∙ sym c.are_rest.ensures))

pub returns-else-are_blocks : goal.returns-else-are_blocks
returns-else-are_blocks c =
    let whole = eq_of_parts c.args.bytes.now c.args.digits.now c.split_at-2.result.0.now c.split_at-2.result.1.now
    c.split_at.result.0.now c.split_at.result.1.now (length c.args.bytes.now / 16 * 16) (omega arith) (omega arith)
    c.split_at-2.ensures.front c.split_at-2.ensures.back c.split_at.ensures.front c.split_at.ensures.back in
    c.if-are_blocks.false
    ∙ sym (whole ∙ ap (λ (t : Bool). t && bytes_eq c.split_at-2.result.1.now (bytes_in c.split_at.result.1.now))
    (sym c.are_blocks.ensures ∙ c.if-are_blocks.false))
