-- Measures or invariants of sharing/+play_each.
use Rattle.std.proofs.Common.{length}
use Rattle.core_host.proofs.sharing.+play_each.Given as goal

abbrev pub decreases-play_each : goal.decreases-play_each
decreases-play_each g l = length l.hosts.now
