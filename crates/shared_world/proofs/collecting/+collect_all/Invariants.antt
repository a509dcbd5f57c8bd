-- Measures or invariants of collecting/+collect_all.
use Rattle.std.proofs.Common.{length}
use Rattle.shared_world.proofs.collecting.+collect_all.Given as goal

abbrev pub decreases-collect_all : goal.decreases-collect_all
decreases-collect_all l = length l.hosts.now
