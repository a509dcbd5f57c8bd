use Rattle.std.proofs.Common.{arith}
use Rattle.local_host.proofs.Standing.{quieted_rests, leads_below, leads_on, leads_to_all}
use Rattle.local_host.proofs.flows.empty_all.Goals as goal

pub index_mut-requires : goal.index_mut-requires
index_mut-requires c = omega (
  arith,
  leads_below c.loop-place.invariant c.requires.places c.loop-place-test.true,
  c.loop-place.flows.ok,
)

pub loop-place-preserved : goal.loop-place-preserved
loop-place-preserved c = leads_on c.loop-place.invariant c.requires.places c.loop-place-test.true
    c.index_mut.ensures.value c.in_ok-send_all.ensures

pub returns : goal.returns
returns c = leads_to_all (quieted_rests c.args.tick) c.loop-place.invariant c.requires.places c.requires.rest
    c.loop-place-test.false
