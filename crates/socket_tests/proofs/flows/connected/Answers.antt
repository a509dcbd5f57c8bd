use Rattle.socket_tests.proofs.Steps.{connects, none_found}
use Rattle.socket_tests.proofs.flows.connected.Goals as goal

pub returns-clause-app : goal.returns-clause-app
returns-clause-app c =
    let made = none_found _ _ c.args.app.now.begun _ c.requires.app.1 c.connect_as.ensures.opened in
    connects c.args.table.now _ _ _ _ _ c.connect_as.new.self _ _ _ made c.requires.app.0
