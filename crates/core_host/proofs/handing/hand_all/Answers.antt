-- Answers of the proof of handing/hand_all.
use Rattle.std.proofs.Common.{◌≡◌, ◌<◌, length, get_or, vec_len, sym, arith, rules}
use Rattle.core_host.proofs.Dealing.{dealt_none, hand_more, core_near, core_is}
use Rattle.core_host.proofs.handing.hand_all.Goals as goal

pub loop-i-init : goal.loop-i-init
loop-i-init c = sym (dealt_none 0 c.args.lanes.now.items)

pub index_mut-requires : goal.index_mut-requires
index_mut-requires c =
    let are = c.requires.below in
    let near : get_or c.args.handed.now c.loop-i.i 0 < length c.loop-i.lanes.items =
    core_near c.args.lanes.now.items c.loop-i.lanes.items c.args.handed.now c.args.frames.now c.loop-i.i
    c.requires.count c.loop-i-test.true c.loop-i.invariant are.0 are.1 are.2 are.3 0 in
    let len : vec_len c.loop-i.lanes ≡ length c.loop-i.lanes.items = search rules in
    omega (arith, near, len)

pub hand-requires : goal.hand-requires
hand-requires c =
    let are = c.requires.below in
    core_is c.args.lanes.now.items c.loop-i.lanes.items c.args.handed.now c.args.frames.now c.loop-i.i
    c.requires.count c.loop-i-test.true c.loop-i.invariant are.0 are.1 are.2 are.3 0 c.index_mut.result.now
    c.index_mut.ensures.value

pub loop-i-preserved : goal.loop-i-preserved
loop-i-preserved c =
    let are = c.requires.below in
    hand_more c.args.lanes.now.items c.loop-i.lanes.items c.args.handed.now c.args.frames.now c.loop-i.i
    c.requires.count c.loop-i-test.true c.loop-i.invariant 0 _ c.index_mut.result.now
    c.hand.new.lane
    (core_near c.args.lanes.now.items c.loop-i.lanes.items c.args.handed.now c.args.frames.now c.loop-i.i
    c.requires.count c.loop-i-test.true c.loop-i.invariant are.0 are.1 are.2 are.3 0)
    c.index_mut.ensures.value c.in_ok-hand.ensures
