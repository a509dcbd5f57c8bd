use Rattle.host_tests.proofs.Steps.{app_calls}
use Rattle.host_tests.proofs.workers.write.Goals as goal

pub returns : goal.returns
returns c =
    app_calls c.args.shared.now c.args.number c.args.app.now c.send.new.self c.args.s c.args.tick _ _ _
    c.send.ensures.made c.requires.0
