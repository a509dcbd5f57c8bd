use Rattle.std.proofs.Common.{ℕ, false, slice_index, ap, ◌∙◌, arith}
use Rattle.std.proofs.lemmas.Nat.{and_mask}
use Rattle.std.specs.Fmt.{digit_glyph}
use Rattle.run_texts.proofs.Digits.{digits_step, digits_done}
use Rattle.run_texts.proofs.hex_digits.write_rest.Goals as goal

pub bytes-preserved : goal.bytes-preserved
bytes-preserved c =
    let byte : ℕ = slice_index c.args.bytes.now c.bytes.i in
    digits_step c.args.bytes.now c.bytes.digits c.bytes.i _ _ (omega arith) (omega arith) c.digit.ensures
    (c.digit-in-bytes.ensures ∙ ap (digit_glyph false) (and_mask byte 4)) c.bytes.invariant

pub returns : goal.returns
returns c = digits_done c.args.bytes.now c.bytes.digits c.bytes.i (omega arith) (omega arith) c.bytes.invariant
