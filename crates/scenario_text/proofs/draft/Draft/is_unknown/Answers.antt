use Rattle.scenario_text.proofs.NameSets.{kill_known}
use Rattle.scenario_text.proofs.draft.Draft.is_unknown.Goals as goal

pub returns-in-Kill : goal.returns-in-Kill
returns-in-Kill c =
    kill_known c.kills_unknown.result c.args.names.now c.args.self.now c.in-Kill.line c.in-Kill.worded
    c.args.statement.now c.in-Kill.is c.kills_unknown.ensures
