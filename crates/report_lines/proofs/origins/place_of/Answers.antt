use Rattle.std.proofs.Common.{List, ℕ, ◌∙◌}
use Rattle.std.specs.Prelude.{bytes_eq}
use denote.Ref.{Bor}
use Rattle.report_lines.proofs.Texts.{position_mapped}
use Rattle.report_lines.proofs.origins.place_of.Goals as goal

pub returns-clause-place : goal.returns-clause-place
returns-clause-place c =
    c.place_in.ensures.place
    ∙ position_mapped (λ (n : Bor (List ℕ)). n.now) (λ (n : List ℕ). bytes_eq n c.args.name.now) c.args.names.now
