use Rattle.std.proofs.Common.{sym, subst}
use Rattle.slow_worker.specs.Kicking.{Kicking, CanKick}
use Rattle.slow_worker.proofs.worker.SlowWorker.kick_all.Goals as goal

pub post_kicks-requires : goal.post_kicks-requires
post_kicks-requires g c =
    let can =
    subst (λ (k : Kicking). CanKick c.args.shared.now k) (sym c.look.ensures.kickers) c.requires.kickers in
    record { can = can }

pub returns-clause-kicked : goal.returns-clause-kicked
returns-clause-kicked g c = (c.look.new.self, c.in_ok-look.ensures.looked, c.post_kicks.ensures.posted)
