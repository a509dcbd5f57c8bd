use Rattle.std.proofs.Common.{map, take}
use Rattle.local_host.specs.Arriving.{arrival_in}
use Rattle.local_host.proofs.HandingOut.{place_told, handed_more}
use Rattle.local_host.proofs.jobs.hand_out.Goals as goal

pub loop-k-preserved : goal.loop-k-preserved
loop-k-preserved c =
    handed_more c.args.steered.now c.args.arrivals.now c.loop-k.k _ _ c.requires.steered c.loop-k-test.true
    (c.in_ok-hand.ensures c.args.flows.now.items (take c.loop-k.k c.args.steered.now)
    (map arrival_in (take c.loop-k.k c.args.arrivals.now))
    c.loop-k.invariant
    (place_told c.args.flows.now.items c.args.places.now c.args.arrivals.now c.loop-k.k _ _ c.loop-k-test.true
    c.requires.places))
