-- Measures or invariants of sharing/+play_from.
use Rattle.std.proofs.Common.{length}
use Rattle.core_host.proofs.sharing.+play_from.Given as goal

abbrev pub decreases-play_from : goal.decreases-play_from
decreases-play_from g l = length l.hosts.now
