use Rattle.std.proofs.Common.{[], sym}
use Rattle.flow_lock.proofs.Calling.{user_takes, holder_gives, holder_holds}
use Rattle.socket_tests.proofs.Steps.{longer_nil}
use Rattle.socket_tests.proofs.reaped.found.Goals as goal

pub give-requires-clause-held : goal.give-requires-clause-held
give-requires-clause-held c =
    let taken = c.in-Ok.ensures.taken in
    let holds = user_takes _ _ _ c.args.core.now c.take.new.pass c.take.ensures.table taken c.requires.0 in
    holder_holds _ _ _ _ c.take.new.pass holds ([], sym (longer_nil _))

pub returns : goal.returns
returns c =
    let taken = c.in-Ok.ensures.taken in
    let holds = user_takes _ _ _ c.args.core.now c.take.new.pass c.take.ensures.table taken c.requires.0 in
    holder_gives _ _ _ _ c.take.new.pass c.give.new.pass c.give.ensures holds
