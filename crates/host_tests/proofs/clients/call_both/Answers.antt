use Rattle.std.proofs.Common.{◌∙◌}
use Rattle.host_tests.proofs.Steps.{client_still}
use Rattle.host_tests.proofs.clients.call_both.Goals as goal

pub call-requires-2 : goal.call-requires-2
call-requires-2 c =
    let still = client_still c.args.shared.now c.args.number c.args.app.now c.call.new.app c.args.sockets
    c.call.ensures.1 c.call.ensures.0 c.requires in
    (still.0, still.2)

pub returns : goal.returns
returns c =
    client_still c.args.shared.now c.args.number c.args.app.now c.call-2.new.app c.args.sockets
    (c.call-2.ensures.1 ∙ c.call.ensures.1) c.call-2.ensures.0 c.requires
