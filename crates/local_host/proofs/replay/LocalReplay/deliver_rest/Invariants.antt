use Rattle.std.proofs.Common.{◌≡◌, List, map, drop}
use Rattle.tas_runs.specs.Records.{Item}
use Rattle.capture_items.specs.Starts.{AreStartsOf}
use Rattle.local_host.specs.Arriving.{arrival_in}
use Rattle.local_host.proofs.CoreRecording.{rests}
use Rattle.local_host.proofs.replay.LocalReplay.deliver_rest.Given as goal

-- the frames that are left lead to the same end
abbrev pub invariant-loop-arrival : goal.invariant-loop-arrival
invariant-loop-arrival l =
    (items : List Item) → AreStartsOf items l.starts
    → rests items l.tick l.self (map arrival_in (drop l.arrival-index l.rest))
    ≡ rests items l.tick l.fn.self (map arrival_in l.rest)
