use Rattle.std.proofs.Common.{[], sym}
use Rattle.flow_lock.proofs.Calling.{user_takes, holder_holds}
use Rattle.host_tests.proofs.Steps.{longer_nil}
use Rattle.host_tests.proofs.flows.taken.Goals as goal

pub give-requires-clause-held : goal.give-requires-clause-held
give-requires-clause-held g c =
    let taken = c.in-Ok.ensures.taken in
    let holds = user_takes _ _ _ c.args.pass.now c.take.new.pass c.take.ensures.table taken c.requires.pass.0 in
    holder_holds _ _ _ _ c.take.new.pass holds ([], sym (longer_nil _))
