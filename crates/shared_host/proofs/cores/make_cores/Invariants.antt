use Rattle.std.proofs.Common.{◌≡◌, ◌-◌, map}
use Rattle.shared_host.specs.Cores.{AreCores, first_sender}
use Rattle.shared_host.specs.SlowPaths.{IsNewSlow}
use Rattle.shared_host.proofs.cores.make_cores.Given as goal

-- the cores before this one were added
abbrev pub invariant-loop-core : goal.invariant-loop-core
invariant-loop-core g l = record {
  slow : IsNewSlow l.fn.slow.path.params l.table l.core (l.cores - l.core) l.slow;
  made : AreCores l.host l.table l.core l.made.kicks.items l.made.workers.items;
  kickers : l.slow.kickers.senders ≡ map first_sender l.made.kicks.items;
  steer : l.slow.kickers.steer ≡ l.fn.slow.kickers.steer;
}
