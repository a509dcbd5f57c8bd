use Rattle.std.proofs.Common.{◌<◌, subst, length}
use Rattle.slow_worker.proofs.Kicks.{kicks_more}
use Rattle.slow_worker.proofs.worker.SlowWorker.post_kicks.Goals as goal

pub loop-preserved : goal.loop-preserved
loop-preserved g c =
    let l = c.loop.invariant in
    let near : c.loop.counter < length c.args.self.now.kicks =
    subst (λ n. c.loop.counter < n) l.1 c.loop-test.true in (
      kicks_more c.args.shared.now c.args.self.now c.loop.self c.post_first.new.self c.loop.counter l.0 near
          c.post_first.ensures.posted c.post_first.ensures.can,
      l.1,
    )
