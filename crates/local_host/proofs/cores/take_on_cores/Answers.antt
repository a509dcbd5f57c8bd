use Rattle.std.proofs.Common.{length, drop, map, arith}
use Rattle.std.proofs.lemmas.List.{take_at}
use Rattle.local_host.specs.Arriving.{arrival_in}
use Rattle.local_host.proofs.CoreTaking.{lanes_took, lanes_try}
use Rattle.local_host.proofs.InTurn.{side_in_turn}
use Rattle.local_host.proofs.Places.{if_by}
use Rattle.local_host.proofs.cores.take_on_cores.Goals as goal

pub returns-then-not-are_handed_out : goal.returns-then-not-are_handed_out
returns-then-not-are_handed_out g c =
    side_in_turn c.args.tick c.args.flows.now.items c.deref_mut.result.now c.take_in_turn.new.flows _
    c.args.steered.now (map arrival_in c.args.arrivals.now) (map arrival_in c.in_ok-rest.rest.items)
    c.args.attempts.items c.requires.distinct c.deref_mut.ensures.value
    (take_at c.take_in_turn.new.flows (drop (length c.take_in_turn.new.flows) c.args.flows.now.items)
    c.args.flows.now.len (omega (arith, c.take_in_turn.ensures.len, c.deref_mut.ensures.len)))
    c.in_ok-rest.ensures.took c.requires.fresh

pub work_all-requires-clause-cores : goal.work_all-requires-clause-cores
work_all-requires-clause-cores g c = λ lifetimes outlive. c.in_ok-lanes.ensures.lending.have.low

pub work_all-requires-clause-tries : goal.work_all-requires-clause-tries
work_all-requires-clause-tries g c = λ lifetimes outlive. lanes_try c.in_ok-lanes.ensures c.requires.tries

pub returns : goal.returns
returns g c =
    if_by c.gather.result
    (λ side. lanes_took c.in_ok-lanes.ensures c.requires.distinct c.requires.fresh c.work_all.ensures.len
    c.work_all.ensures.worked) c.gather.ensures
