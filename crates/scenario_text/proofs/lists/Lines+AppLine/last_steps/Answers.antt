use Rattle.std.proofs.Common.{◌≡◌, ◌+◌, ◌∙◌, sym, ap, length, arith}
use Rattle.scenario_text.specs.Drafts.{last_steps}
use Rattle.scenario_text.proofs.RoleMaps.{last_at}
use Rattle.scenario_text.proofs.lists.Lines+AppLine.last_steps.Goals as goal

pub returns-in-Some : goal.returns-in-Some
returns-in-Some c =
    let last : c.in-Some.last + 1 ≡ length c.self.inside.items.items =
    omega (arith, c.in-Some.ensures, c.len.ensures) in
    c.len-in-Some.ensures
    ∙ ap length (sym (last_at c.self.inside.items.items c.in-Some.last c.index.result.now last c.index.ensures)
    ∙ ap last_steps c.self.view_is)
