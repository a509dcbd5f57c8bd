use Rattle.std.proofs.Common.{List, ℕ, ◌∙◌}
use Rattle.std.specs.Prelude.{bytes_eq}
use denote.Ref.{Bor}
use Rattle.report_picture.proofs.Texts.{any_mapped}
use Rattle.report_picture.proofs.hosts.is_among.Goals as goal

pub returns : goal.returns
returns c =
    c.any_is.ensures
    ∙ any_mapped (λ (n : Bor (List ℕ)). n.now) (λ (n : List ℕ). bytes_eq n c.args.name.now) c.args.names.now
