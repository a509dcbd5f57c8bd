use Rattle.socket_tests.proofs.Steps.{guest_looks}
use Rattle.socket_tests.proofs.threads.looked.Goals as goal

pub returns : goal.returns
returns c = guest_looks c.args.table.now _ _ c.args.pass.now c.look.new.pass c.look.ensures.seen c.requires.0
