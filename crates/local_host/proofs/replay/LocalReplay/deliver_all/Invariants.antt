use Rattle.std.proofs.Common.{◌≡◌, List, map, drop}
use Rattle.tas_runs.specs.Records.{Item}
use Rattle.capture_items.specs.Items.{item_in}
use Rattle.capture_items.specs.Starts.{AreStartsOf}
use Rattle.local_host.proofs.Recording.{frames}
use Rattle.local_host.proofs.replay.LocalReplay.deliver_all.Given as goal

-- the records that are left lead to the same end
abbrev pub invariant-loop-item : goal.invariant-loop-item
invariant-loop-item l =
    (items : List Item) → AreStartsOf items l.starts
    → frames items l.tick l.self (map item_in (drop l.item-index l.batch))
    ≡ frames items l.tick l.fn.self (map item_in l.batch)
