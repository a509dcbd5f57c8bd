-- Measures or invariants of collecting/collect_flows.
use Rattle.shared_world.proofs.Collected.{AreCollected}
use Rattle.shared_world.proofs.collecting.collect_flows.Given as goal

-- the flows before the place were collected
abbrev pub invariant-loop-place : goal.invariant-loop-place
invariant-loop-place l = AreCollected l.tick l.sender.host l.sender.addresses.now l.fn.host l.host l.place l.at
    l.fn.counts l.counts l.fn.sent l.sent
