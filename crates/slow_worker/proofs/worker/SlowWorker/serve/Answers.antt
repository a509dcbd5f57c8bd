use Rattle.std.proofs.Common.{◌<◌, ap, subst, length}
use Rattle.slow_worker.specs.Workers.{waiting}
use Rattle.slow_worker.specs.Queues.{Standing}
use Rattle.slow_worker.proofs.Serving.{err_of, loop_more, loop_stops}
use Rattle.slow_worker.proofs.worker.SlowWorker.serve.Goals as goal

pub returns-in_err-serve_first-clause-part : goal.returns-in_err-serve_first-clause-part
returns-in_err-serve_first-clause-part g c =
    let l = c.loop.invariant in
    let near : c.loop.counter < length (waiting c.args.self.now) =
    subst (λ n. c.loop.counter < n) l.1 c.loop-test.true in
    err_of _ (loop_stops
    (g.N.NumberSource.number c.args.numbers.now) c.args.shared.now c.args.tick c.args.self.now c.loop.self
    c.serve_first.new.self
    c.loop.counter l.0 near c.in_err-serve_first.ensures.left) c.from_residual.result

pub loop-preserved : goal.loop-preserved
loop-preserved g c =
    let l = c.loop.invariant in
    let near : c.loop.counter < length (waiting c.args.self.now) =
    subst (λ n. c.loop.counter < n) l.1 c.loop-test.true in (
      loop_more (g.N.NumberSource.number c.args.numbers.now) c.args.shared.now c.args.tick c.args.self.now
          c.loop.self c.serve_first.new.self c.loop.counter
          l.0 near c.in_ok-serve_first.ensures.served c.serve_first.ensures.kept c.serve_first.ensures.senders,
      l.1,
    )

pub returns-in_err-serve_first-clause-time : goal.returns-in_err-serve_first-clause-time
returns-in_err-serve_first-clause-time g c =
    let l = c.loop.invariant in
    let near : c.loop.counter < length (waiting c.args.self.now) =
    subst (λ n. c.loop.counter < n) l.1 c.loop-test.true in
    ap (λ (s : Standing). s.time) (loop_stops
    (g.N.NumberSource.number c.args.numbers.now) c.args.shared.now c.args.tick c.args.self.now c.loop.self
    c.serve_first.new.self c.loop.counter l.0 near c.in_err-serve_first.ensures.left).same

pub returns-clause-time : goal.returns-clause-time
returns-clause-time g c = ap (λ (s : Standing). s.time) c.loop.invariant.0.same
