use Rattle.scenario_text.proofs.RoleMaps.{on_ok}
use Rattle.scenario_text.proofs.NameSets.{step_named}
use Rattle.scenario_text.proofs.draft.Draft.take_step.Goals as goal

pub returns-clause-names : goal.returns-clause-names
returns-clause-names c =
    on_ok _ _
    (step_named c.args.names.now c.args.self.now c.take_role.new.roles c.args.step c.requires.some c.requires.fresh
    c.in_ok-take_role.ensures)
