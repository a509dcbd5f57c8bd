use Rattle.std.proofs.Common.{◌*◌, ◌/◌, length}
use Rattle.run_texts.proofs.Writing.{hex_rest}
use Rattle.run_texts.proofs.hex_digits.write_many.Goals as goal

pub returns : goal.returns
returns c =
    let bytes = c.args.bytes.now in
    let whole = hex_rest bytes (length bytes / 16 * 16) in
    cc
