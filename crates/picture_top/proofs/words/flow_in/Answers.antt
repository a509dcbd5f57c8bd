use Rattle.std.proofs.Common.{◌∙◌, ap, sym, option_map, arith}
use Rattle.picture_top.specs.Asking.{name_in}
use Rattle.picture_top.proofs.Spelling.{no_colon}
use Rattle.picture_top.proofs.words.flow_in.Goals as goal

pub returns-in_err-host : goal.returns-in_err-host
returns-in_err-host c =
    ap (option_map name_in) c.from_residual.ensures
    ∙ sym (no_colon c.args.text.now (c.in_err-host.ensures.byte (omega arith) (λ w o h. h)))
