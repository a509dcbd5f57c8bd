use Rattle.std.proofs.Common.{◌∙◌, ◌+◌, sym, Some, None, eqb, ℕ}
use Rattle.std.proofs.lemmas.List.{take_rest}
use Rattle.scenario_text.proofs.Cuts.{parts_by}
use Rattle.scenario_text.proofs.words.cut.Goals as goal

pub returns-in-Some-clause-parts : goal.returns-in-Some-clause-parts
returns-in-Some-clause-parts c =
    let parts = parts_by (λ (x : ℕ). eqb x c.args.byte) c.args.text.now (Some c.in-Some.at) (sym c.in-Some.is
    ∙ c.place_of.ensures) in
    rw (take_rest c.args.text.now (c.in-Some.at + 1)) parts.1

pub returns-in-None-clause-parts : goal.returns-in-None-clause-parts
returns-in-None-clause-parts c = parts_by (λ (x : ℕ). eqb x c.args.byte) c.args.text.now None (sym c.in-None.is
    ∙ c.place_of.ensures)
