use Rattle.std.proofs.Common.{◌∙◌, map, take}
use Rattle.local_host.specs.Arriving.{arrival_in}
use Rattle.local_host.proofs.HandingOut.{place_told}
use Rattle.local_host.proofs.InTurn.{led_still, some_more}
use Rattle.local_host.proofs.cores.take_in_turn.Goals as goal

pub take_next-requires : goal.take_next-requires
take_next-requires c =
    led_still _ c.loop-k.invariant.0
    ∙ place_told c.args.flows.now c.args.places.now c.args.arrivals.now c.loop-k.k _ _ c.loop-k-test.true
    c.requires.places

pub loop-k-preserved : goal.loop-k-preserved
loop-k-preserved c = (
  some_more c.args.steered.now c.args.arrivals.now c.loop-k.k _ _ c.requires.steered c.loop-k-test.true
      (c.in_ok-take_next.ensures.took c.args.flows.now (take c.loop-k.k c.args.steered.now)
      (map arrival_in (take c.loop-k.k c.args.arrivals.now)) c.loop-k.invariant.0),
  c.in_ok-take_next.ensures.len ∙ c.loop-k.invariant.1,
)
