use Rattle.scenario_text.proofs.RoleMaps.{on_ok}
use Rattle.scenario_text.proofs.NameSets.{kill_named, takes_so}
use Rattle.scenario_text.proofs.draft.Draft.take_kill.Goals as goal

pub returns-clause-names : goal.returns-clause-names
returns-clause-names c =
    on_ok _ _
    (kill_named c.args.names.now c.args.self.now c.take_name.new.names c.args.line
    (takes_so c.args.names.now.kills c.take_name.new.names c.as_slice.result.now c.as_slice-2.result.now
    c.args.line.host c.args.line.app c.as_slice.ensures c.as_slice-2.ensures c.in_ok-take_name.ensures))
