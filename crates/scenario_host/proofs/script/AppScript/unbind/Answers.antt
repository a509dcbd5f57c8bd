use Rattle.std.proofs.Common.{List, ℕ, map, ap, ◌∙◌}
use Rattle.scenario_runs.specs.Applications.{Bound, unbind}
use Rattle.scenario_host.specs.Scripts.{named, script_of}
use Rattle.scenario_host.proofs.Naming.{map-filter_named}
use Rattle.scenario_host.proofs.script.AppScript.unbind.Goals as goal

pub returns : goal.returns
returns c =
    ap (λ (names : List (List ℕ × Bound)). record (script_of c.self.inside) { names = names })
    (ap (map named) c.drop_named.ensures ∙ map-filter_named c.self.inside.names.items c.args.name.now)
    ∙ ap (unbind c.args.name.now) c.self.view_is
