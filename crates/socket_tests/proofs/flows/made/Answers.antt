use Rattle.socket_tests.proofs.Steps.{user_uses}
use Rattle.socket_tests.proofs.flows.made.Goals as goal

pub returns-in-Ok : goal.returns-in-Ok
returns-in-Ok g c =
    let m = c.in-Ok.ensures.made in
    user_uses c.args.table.now c.args.pin.now m.flow m.after c.args.core.now c.make_call.new.pass
    c.make_call.ensures.table m.given c.requires.core.0
