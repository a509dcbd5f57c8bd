use Rattle.std.proofs.Common.{arith}
use Rattle.flow_state.specs.Calls.{seg_of}
use Rattle.local_host.specs.Arriving.{taking_in}
use Rattle.local_host.proofs.Indexing.{received_keeps}
use Rattle.local_host.proofs.Standing.{received_stays, stands_below, sound_by_change, done_by_change}
use Rattle.local_host.proofs.flows.Flows.receive.Goals as goal

pub index_mut-requires : goal.index_mut-requires
index_mut-requires c = omega (arith, stands_below c.args.i c.self.view_is c.requires, c.self.inside.table.flows.ok)

pub settle-requires : goal.settle-requires
settle-requires c =
    sound_by_change c.receive-done.result
    (taking_in c.args.taking c.args.tick c.args.frame (seg_of c.args.seg.now)) c.args.i c.index_mut.result.now
    c.receive-done.new.self (received_keeps c.args.taking c.args.tick c.args.frame (seg_of c.args.seg.now))
    (received_stays c.args.taking c.args.tick c.args.frame (seg_of c.args.seg.now)) c.self.invariant c.self.view_is
    c.requires
    c.index_mut.ensures.value c.receive-done.ensures

pub returns-clause-made : goal.returns-clause-made
returns-clause-made c =
    done_by_change c.receive-done.result c.settle.result
    (taking_in c.args.taking c.args.tick c.args.frame (seg_of c.args.seg.now)) c.args.i c.index_mut.result.now
    c.receive-done.new.self c.settle.new.self.flows.items c.self.view_is c.requires c.index_mut.ensures.value
    c.receive-done.ensures c.settle.ensures.same c.settle.ensures.flows
