use Rattle.std.proofs.Common.{◌≡◌, length}
use Rattle.slow_worker.specs.Workers.{waiting}
use Rattle.slow_worker.proofs.Serving.{Loop}
use Rattle.slow_worker.proofs.worker.SlowWorker.serve.Given as goal

abbrev pub invariant-loop : goal.invariant-loop
invariant-loop g l =
    Loop (g.N.NumberSource.number l.numbers) l.shared l.tick l.fn.self l.self l.counter × (l.end ≡ length
    (waiting l.fn.self))
