use Rattle.std.proofs.Common.{◌≡◌, ◌+◌, ◌∙◌, ap, length, arith}
use Rattle.scenario_text.specs.Drafts.{with_step}
use Rattle.scenario_text.proofs.RoleMaps.{set_last}
use Rattle.scenario_text.proofs.lists.Lines+AppLine.push_step.Goals as goal

pub returns-in_ok-push : goal.returns-in_ok-push
returns-in_ok-push c =
    let last : c.in-Some.last + 1 ≡ length c.self.inside.items.items =
    omega (arith, c.in-Some.ensures, c.len.ensures) in
    set_last c.self.inside.items.items c.in-Some.last c.index_mut.result.now _ c.args.step last
    c.index_mut.ensures.value c.in_ok-push.ensures.ok ∙ ap (λ apps. with_step apps c.args.step) c.self.view_is
