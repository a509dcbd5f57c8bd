use Rattle.std.proofs.Common.{[], sym}
use Rattle.flow_lock.proofs.Calling.{user_takes, holder_gives, holder_holds}
use Rattle.shared_tests.proofs.Growing.{longer_nil}
use Rattle.shared_tests.proofs.shared_flows.found_beside.Goals as goal

pub give-requires-clause-held : goal.give-requires-clause-held
give-requires-clause-held c =
    let holds = user_takes _ _ _ c.args.pass.now c.take.new.pass c.take.ensures.table c.in-Ok.ensures.taken
    c.requires.pass.0 in
    holder_holds _ _ _ _ c.take.new.pass holds ([], sym (longer_nil _))

pub returns : goal.returns
returns c =
    let holds = user_takes _ _ _ c.args.pass.now c.take.new.pass c.take.ensures.table c.in-Ok.ensures.taken
    c.requires.pass.0 in
    (holder_gives _ _ _ _ c.take.new.pass c.give.new.pass c.give.ensures holds, c.busy_word-found.ensures)
