use Rattle.std.proofs.Common.{◌≡◌, length}
use Rattle.slow_worker.proofs.Kicks.{Loop}
use Rattle.slow_worker.proofs.worker.SlowWorker.post_kicks.Given as goal

abbrev pub invariant-loop : goal.invariant-loop
invariant-loop g l = Loop l.shared l.fn.self l.self l.counter × (l.end ≡ length l.fn.self.kicks)
