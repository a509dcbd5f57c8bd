use Rattle.flow_lock.proofs.Calling.{user_leaves}
use Rattle.socket_tests.proofs.flows.leave.Goals as goal

pub returns : goal.returns
returns c = user_leaves _ _ c.args.pass.now c.unpin.new.pass c.unpin.ensures c.requires.0
