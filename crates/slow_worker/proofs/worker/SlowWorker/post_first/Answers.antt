use Rattle.std.proofs.Common.{[], ◌∷◌, sym, append-nil}
use Rattle.slow_worker.specs.contracts.worker.SlowWorker.{the_view}
use Rattle.slow_worker.proofs.Kicks.{first_kicked}
use Rattle.slow_worker.proofs.worker.SlowWorker.post_first.Goals as goal

pub returns-in-Ok-clause-posted : goal.returns-in-Ok-clause-posted
returns-in-Ok-clause-posted g c =
    first_kicked c.args.shared.now (the_view c.self.inside) c.args.self.now c.in-Some.kick c.take_first.new.self.list []
    _ c.kick.new.self c.self.view_is c.in-Some.ensures.first c.in-Ok.ensures.posted
    (sym (append-nil c.take_first.new.self.list))

pub returns-in-Err-clause-posted : goal.returns-in-Err-clause-posted
returns-in-Err-clause-posted g c =
    first_kicked c.args.shared.now (the_view c.self.inside) c.args.self.now c.in-Some.kick c.take_first.new.self.list
    (c.in-Some.kick ∷ []) _ c.kick.new.self c.self.view_is c.in-Some.ensures.first c.in-Err.ensures.kept
    c.put.ensures.list
