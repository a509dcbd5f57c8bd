use Rattle.std.proofs.Common.{rules, ap, sym, ◌∙◌}
use Rattle.steering.specs.Tables.{Place, Sight}
use Rattle.steering.proofs.Steps.{forks}
use Rattle.steering.proofs.steering.Steering.pass.Goals as goal

pub split_pass-pass-requires : goal.split_pass-pass-requires
split_pass-pass-requires c =
    let own = ap (λ (s : Sight). s.place.cell) c.from.view_is
    ∙ (ap (λ (p : Place). p.cell) c.requires.own ∙ sym (ap (λ (p : Place). p.cell) c.self.view_is)) in
    (search rules, (search rules, (own, forks _ _)))
