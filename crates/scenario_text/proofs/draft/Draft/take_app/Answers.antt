use Rattle.scenario_text.proofs.RoleMaps.{on_ok}
use Rattle.scenario_text.proofs.NameSets.{app_named, takes_so}
use Rattle.scenario_text.proofs.draft.Draft.take_app.Goals as goal

pub returns-clause-names : goal.returns-clause-names
returns-clause-names c =
    on_ok _ _
    (app_named c.args.names.now c.args.self.now c.clear.new.self c.take_name.new.names c.args.host c.args.name
    c.clear.ensures.empty
    (takes_so c.args.names.now.apps c.take_name.new.names c.as_slice.result.now c.as_slice-2.result.now c.args.host
    c.args.name c.as_slice.ensures c.as_slice-2.ensures c.in_ok-take_name.ensures))
