use Rattle.std.proofs.Common.{ℕ, ap, ◌∙◌}
use Rattle.scenario_host.specs.Resting.{seen}
use Rattle.scenario_host.proofs.Rests.{seen_none}
use Rattle.scenario_host.proofs.resting.AppScripts.look_at_all.Goals as goal

pub returns-clause-seen : goal.returns-clause-seen
returns-clause-seen c =
    let marks = c.mark_all.new.asleep.items in
    let scripts = c.wake_all.new.self.items.items in
    ap (λ (n : ℕ). seen n marks scripts) c.wake_all.ensures.passed
    ∙ (seen_none marks scripts ∙ c.wake_all.ensures.items)
