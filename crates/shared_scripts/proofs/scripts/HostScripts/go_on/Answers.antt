-- Answers of the proof of scripts/HostScripts/go_on.
use Rattle.std.proofs.Common.{List, sym, subst}
use Rattle.scenario_runs.specs.Applications.{Script}
use Rattle.shared_scripts.specs.Going.{CanGoOn}
use Rattle.shared_scripts.proofs.scripts.HostScripts.go_on.Goals as goal

pub go_on_all-requires : goal.go_on_all-requires
go_on_all-requires g c =
    subst (λ (xs : List Script). CanGoOn c.args.tick xs c.args.host.now) (sym c.self.view_is)
    (c.played_hosts_go_on.ensures c.args.s.now c.args.tick c.args.self.now c.args.host.now c.requires)
