use Rattle.scenario_text.proofs.NameSets.{name_taken}
use Rattle.scenario_text.proofs.names.take_name.Goals as goal

pub returns : goal.returns
returns c = λ test h.
    name_taken c.args.names.now c.insert.new.self c.in_ok-name.name c.args.host.now c.args.name.now
    c.in_ok-name.ensures.host c.in_ok-name.ensures.name c.in_ok-insert.ensures.updates.0 test h
