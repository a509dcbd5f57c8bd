use Rattle.socket_tests.proofs.Steps.{opened_calls}
use Rattle.socket_tests.proofs.sockets.shut.Goals as goal

pub returns : goal.returns
returns c =
    let made = c.shut.ensures.made in
    opened_calls c.args.table.now c.args.app.now c.shut.new.self c.args.s c.args.tick _ _ _ made c.requires
