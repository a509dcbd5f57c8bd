use Rattle.std.proofs.Common.{List, ap, ◌∙◌}
use Rattle.std.specs.List.{list_all}
use Rattle.host_rounds.specs.Scripts.{Site}
use Rattle.scenario_runs.specs.Applications.{Script, has_ended}
use Rattle.scenario_host.proofs.Rests.{seen_ended}
use Rattle.scenario_host.proofs.host.ScenarioHost.have_ended.Goals as goal

pub returns : goal.returns
returns c =
    let scripts = c.self.inside.scripts in
    c.have_ended.ensures
    ∙ (ap (list_all has_ended) c.as_slice.ensures.value
    ∙ (seen_ended scripts.passed scripts.asleep.items scripts.items.items
    ∙ ap (λ (site : Site (List Script)). list_all has_ended site.scripts) c.self.view_is))
