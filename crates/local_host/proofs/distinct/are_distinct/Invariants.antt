use Rattle.std.proofs.Common.{map, take}
use Rattle.std.specs.HashSet.{contains}
use Rattle.local_host.specs.Arriving.{arrival_in}
use Rattle.local_host.specs.Keys.{same_key}
use Rattle.local_host.proofs.SeenFrames.{AreSeenBy}
use Rattle.local_host.proofs.distinct.are_distinct.Given as goal

abbrev pub invariant-loop-arrival : goal.invariant-loop-arrival
invariant-loop-arrival l = AreSeenBy (contains same_key l.seen) (map arrival_in (take l.arrival-index l.arrivals))
