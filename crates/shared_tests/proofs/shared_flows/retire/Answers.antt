use Rattle.flow_lock.proofs.Calling.{owner_dooms, keeper_frees, keeper_held_back}
use Rattle.shared_tests.proofs.shared_flows.retire.Goals as goal

pub free-requires-clause-doomed : goal.free-requires-clause-doomed
free-requires-clause-doomed c =
    (owner_dooms _ _ c.args.slow.now c.doom.new.slow c.doom.ensures c.requires.0 c.requires.1).2

pub returns-in-Ok-clause-freed : goal.returns-in-Ok-clause-freed
returns-in-Ok-clause-freed c =
    let d = owner_dooms _ _ c.args.slow.now c.doom.new.slow c.doom.ensures c.requires.0 c.requires.1 in (
      c.in-Ok.ensures.own.0,
      keeper_frees _ _ c.doom.new.slow c.free.new.slow c.free.ensures.table c.in-Ok.ensures.freed d.0,
    )

pub returns-in-Err-clause-pinned : goal.returns-in-Err-clause-pinned
returns-in-Err-clause-pinned c =
    let d = owner_dooms _ _ c.args.slow.now c.doom.new.slow c.doom.ensures c.requires.0 c.requires.1 in
    let k = keeper_held_back _ _ _ c.doom.new.slow c.free.new.slow c.free.ensures.table c.in-Err.ensures.pinned.1 d.0
    d.1 d.2 in
    (c.in-Err.ensures.pinned.0, k.0, k.1)
