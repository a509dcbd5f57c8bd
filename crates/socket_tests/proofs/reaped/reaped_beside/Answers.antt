use Rattle.std.proofs.Common.{[], sym}
use Rattle.flow_lock.proofs.Calling.{user_takes, user_waits, holder_gives, holder_holds}
use Rattle.socket_tests.proofs.Steps.{longer_nil}
use Rattle.socket_tests.proofs.reaped.reaped_beside.Goals as goal

pub give-requires-clause-held : goal.give-requires-clause-held
give-requires-clause-held c =
    let taken = c.in-Ok.ensures.taken in
    let holds = user_takes _ _ _ c.args.core.now c.take.new.pass c.take.ensures.table taken c.requires.core.0 in
    holder_holds _ _ _ _ c.take.new.pass holds ([], sym (longer_nil _))

pub returns-clause-core : goal.returns-clause-core
returns-clause-core c =
    let taken = c.in-Ok.ensures.taken in
    let holds = user_takes _ _ _ c.args.core.now c.take.new.pass c.take.ensures.table taken c.requires.core.0 in
    holder_gives _ _ _ _ c.take.new.pass c.give.new.pass c.give.ensures holds

pub returns-in-Err-clause-core : goal.returns-in-Err-clause-core
returns-in-Err-clause-core c =
    user_waits _ _ c.args.core.now c.take.new.pass _ c.take.ensures.table c.in-Err.ensures.busy c.requires.core.0
