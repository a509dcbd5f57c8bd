use Rattle.std.proofs.Common.{◌≡◌, List, sym, subst, ap}
use Rattle.std.specs.Prelude.{Some, None, IfNone, position}
use Rattle.core_worker.specs.Telling.{queue_of, is_queue_of}
use Rattle.core_worker.specs.Workers.{Common}
use Rattle.core_worker.specs.declared.shared.AppQueue.{AppQueue}
use Rattle.core_worker.proofs.Told.{queue_at, no_queue}
use Rattle.core_worker.proofs.shared.Shared.queue.Goals as goal

pub returns-in_err-i-clause-none : goal.returns-in_err-i-clause-none
returns-in_err-i-clause-none c =
    subst (λ o. IfNone o (queue_of c.args.app c.args.self.now.queues ≡ None)) (sym c.from_residual.ensures)
    (no_queue c.args.app c.args.self.now.queues (sym c.in_err-i.ensures))

pub returns-clause-some : goal.returns-clause-some
returns-clause-some c =
    let qs : List AppQueue = c.self.inside.queues.items in
    let same : qs ≡ c.args.self.now.queues = ap (λ (k : Common). k.queues) c.self.view_is in
    let at : position (is_queue_of c.args.app) qs ≡ Some c.in_ok-i.i =
    subst (λ (l : List AppQueue). position (is_queue_of c.args.app) l ≡ Some c.in_ok-i.i) (sym same)
    (sym c.in_ok-i.ensures) in
    subst (λ (l : List AppQueue). queue_of c.args.app l ≡ Some c.index.result.now.queue) same
    (queue_at c.args.app qs c.in_ok-i.i c.index.result.now at c.index.ensures)
