use Rattle.flow_lock.proofs.Calling.{user_leaves}
use Rattle.shared_tests.proofs.shared_flows.leave.Goals as goal

pub returns : goal.returns
returns c = user_leaves _ _ c.args.pass.now c.unpin.new.pass c.unpin.ensures c.requires.0
