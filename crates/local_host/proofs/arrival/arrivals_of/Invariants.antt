use Rattle.std.proofs.Common.{◌≡◌, map, take}
use Rattle.tas_runs.specs.LocalScript.{arrivals_in}
use Rattle.capture_items.specs.Items.{item_in}
use Rattle.local_host.specs.Arriving.{arrival_in}
use Rattle.local_host.proofs.arrival.arrivals_of.Given as goal

abbrev pub invariant-loop-item : goal.invariant-loop-item
invariant-loop-item l = map arrival_in l.arrivals.items ≡ arrivals_in (map item_in (take l.item-index l.batch))
