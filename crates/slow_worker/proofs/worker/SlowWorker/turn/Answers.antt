use Rattle.std.proofs.Common.{sym, subst}
use Rattle.slow_worker.specs.Kicking.{Kicking, CanKick}
use Rattle.slow_worker.proofs.Kicks.{turned_so, stopped_so}
use Rattle.slow_worker.proofs.worker.SlowWorker.turn.Goals as goal

pub post_kicks-requires : goal.post_kicks-requires
post_kicks-requires g c =
    let same = sym c.work-done.ensures.kickers in
    let can = subst (λ (k : Kicking). CanKick c.args.shared.now k) same c.requires.kickers in
    record { can = can }

pub returns-clause-turned : goal.returns-clause-turned
returns-clause-turned g c =
    turned_so _ (g.N.NumberSource.number c.args.numbers.now) c.args.shared.now c.args.tick c.args.self.now
    c.work-done.new.self c.post_kicks.new.self
    c.work-done.result c.work-done.ensures.done c.post_kicks.ensures.posted

pub returns-clause-stopped : goal.returns-clause-stopped
returns-clause-stopped g c =
    stopped_so _ (g.N.NumberSource.number c.args.numbers.now) c.args.shared.now c.args.tick c.args.self.now
    c.work-done.new.self c.post_kicks.new.self
    c.work-done.result c.work-done.ensures.stopped c.post_kicks.ensures.posted
