use Rattle.host_tests.proofs.Steps.{app_calls}
use Rattle.host_tests.proofs.workers.read.Goals as goal

pub returns : goal.returns
returns c =
    app_calls c.args.shared.now c.args.number c.args.app.now c.recv.new.self c.args.s c.args.tick _ _ _
    c.recv.ensures.made c.requires.0
