use Rattle.std.proofs.Common.{◌≡◌, Some, length, sym, ap, refl, ◌∙◌, subst}
use Rattle.atomic_table.specs.Seated.{TableId}
use Rattle.core_worker.specs.Telling.{queue_of}
use Rattle.shared_host.specs.Applications.{AreGiven, queue_at, with_queue}
use Rattle.shared_host.proofs.Giving.{queue_found, found_is_some, same_line, free_still, queues_still, senders_still}
use Rattle.shared_host.proofs.Giving.{by_new, on_err, part_added, slow_still, slow_given, app_given}
use Rattle.slow_worker.specs.Workers as slow
use Rattle.slow_worker.specs.contracts.worker.SlowWorker.{the_view}
use Rattle.shared_host.proofs.applications.add_app.Goals as goal

pub queue_for-queue-requires : goal.queue_for-queue-requires
queue_for-queue-requires c =
    found_is_some _ _
    (queue_found c.args.number c.in_ok-notes.notes.line c.args.shared.now c.open_queue.new.shared
    c.in_ok-notes.ensures.added c.requires.first)

pub give_senders-requires-clause-own : goal.give_senders-requires-clause-own
give_senders-requires-clause-own c =
    sym (same_line _ c.queue_for-queue.result.now c.in_ok-notes.notes.line
    (queue_found c.args.number c.in_ok-notes.notes.line c.args.shared.now c.open_queue.new.shared
    c.in_ok-notes.ensures.added c.requires.first)
    c.queue_for-queue.ensures)

pub returns-in_err-give_senders-clause-free : goal.returns-in_err-give_senders-clause-free
returns-in_err-give_senders-clause-free c =
    free_still c.args.number c.in_ok-notes.notes.line c.queue_for-queue.result.now.line c.args.shared.now
    c.open_queue.new.shared c.args.cores.now c.give_senders.new.cores
    (same_line _ c.queue_for-queue.result.now c.in_ok-notes.notes.line
    (queue_found c.args.number c.in_ok-notes.notes.line c.args.shared.now c.open_queue.new.shared
    c.in_ok-notes.ensures.added c.requires.first)
    c.queue_for-queue.ensures)
    c.in_ok-notes.ensures.added c.give_senders.ensures.part

pub returns-in_err-give_senders-clause-queues : goal.returns-in_err-give_senders-clause-queues
returns-in_err-give_senders-clause-queues c =
    queues_still c.args.number c.in_ok-notes.notes.line c.queue_for-queue.result.now.line c.args.shared.now
    c.open_queue.new.shared c.args.cores.now c.give_senders.new.cores
    (same_line _ c.queue_for-queue.result.now c.in_ok-notes.notes.line
    (queue_found c.args.number c.in_ok-notes.notes.line c.args.shared.now c.open_queue.new.shared
    c.in_ok-notes.ensures.added c.requires.first)
    c.queue_for-queue.ensures)
    c.in_ok-notes.ensures.added c.give_senders.ensures.part

pub returns-in_err-give_senders-clause-senders : goal.returns-in_err-give_senders-clause-senders
returns-in_err-give_senders-clause-senders c =
    senders_still c.args.number c.in_ok-notes.notes.line c.queue_for-queue.result.now.line c.args.shared.now
    c.open_queue.new.shared c.args.cores.now c.give_senders.new.cores
    (same_line _ c.queue_for-queue.result.now c.in_ok-notes.notes.line
    (queue_found c.args.number c.in_ok-notes.notes.line c.args.shared.now c.open_queue.new.shared
    c.in_ok-notes.ensures.added c.requires.first)
    c.queue_for-queue.ensures)
    c.in_ok-notes.ensures.added c.requires.first c.give_senders.ensures.part c.requires.senders

pub returns-clause-free : goal.returns-clause-free
returns-clause-free c =
    free_still c.args.number c.in_ok-notes.notes.line c.queue_for-queue.result.now.line c.args.shared.now
    c.open_queue.new.shared c.args.cores.now c.give_senders.new.cores
    (same_line _ c.queue_for-queue.result.now c.in_ok-notes.notes.line
    (queue_found c.args.number c.in_ok-notes.notes.line c.args.shared.now c.open_queue.new.shared
    c.in_ok-notes.ensures.added c.requires.first)
    c.queue_for-queue.ensures)
    c.in_ok-notes.ensures.added c.give_senders.ensures.part

pub returns-clause-queues : goal.returns-clause-queues
returns-clause-queues c =
    queues_still c.args.number c.in_ok-notes.notes.line c.queue_for-queue.result.now.line c.args.shared.now
    c.open_queue.new.shared c.args.cores.now c.give_senders.new.cores
    (same_line _ c.queue_for-queue.result.now c.in_ok-notes.notes.line
    (queue_found c.args.number c.in_ok-notes.notes.line c.args.shared.now c.open_queue.new.shared
    c.in_ok-notes.ensures.added c.requires.first)
    c.queue_for-queue.ensures)
    c.in_ok-notes.ensures.added c.give_senders.ensures.part

pub returns-clause-senders : goal.returns-clause-senders
returns-clause-senders c =
    senders_still c.args.number c.in_ok-notes.notes.line c.queue_for-queue.result.now.line c.args.shared.now
    c.open_queue.new.shared c.args.cores.now c.give_senders.new.cores
    (same_line _ c.queue_for-queue.result.now c.in_ok-notes.notes.line
    (queue_found c.args.number c.in_ok-notes.notes.line c.args.shared.now c.open_queue.new.shared
    c.in_ok-notes.ensures.added c.requires.first)
    c.queue_for-queue.ensures)
    c.in_ok-notes.ensures.added c.requires.first c.give_senders.ensures.part c.requires.senders

pub returns-clause-queue : goal.returns-clause-queue
returns-clause-queue c =
    by_new _ _ _ c.new.ensures.new
    (subst (λ (l : TableId). queue_of c.args.number c.open_queue.new.shared.queues ≡ Some (queue_at l))
    (sym (c.give_slow.ensures.own ∙ c.give_senders.ensures.own))
    (queue_found c.args.number c.in_ok-notes.notes.line c.args.shared.now c.open_queue.new.shared
    c.in_ok-notes.ensures.added c.requires.first))

pub returns-clause-given : goal.returns-clause-given
returns-clause-given c =
    by_new _ _ _ c.new.ensures.new
    (subst (λ (l : TableId). AreGiven c.args.number l 0 (length c.args.cores.now) c.args.cores.now
    c.give_senders.new.cores)
    ((same_line _ c.queue_for-queue.result.now c.in_ok-notes.notes.line
    (queue_found c.args.number c.in_ok-notes.notes.line c.args.shared.now c.open_queue.new.shared
    c.in_ok-notes.ensures.added c.requires.first)
    c.queue_for-queue.ensures)
    ∙ sym (c.give_slow.ensures.own ∙ c.give_senders.ensures.own))
    c.in_ok-give_senders.ensures.given)

pub returns-clause-added : goal.returns-clause-added
returns-clause-added c =
    by_new _ _ _ c.new.ensures.new
    (subst (λ (l : TableId). c.open_queue.new.shared ≡ with_queue c.args.number l c.args.shared.now)
    (sym (c.give_slow.ensures.own ∙ c.give_senders.ensures.own)) c.in_ok-notes.ensures.added)

pub returns-in_err-give_slow-clause-free : goal.returns-in_err-give_slow-clause-free
returns-in_err-give_slow-clause-free c =
    free_still c.args.number c.in_ok-notes.notes.line c.queue_for-queue.result.now.line c.args.shared.now
    c.open_queue.new.shared c.args.cores.now c.give_senders.new.cores
    (same_line _ c.queue_for-queue.result.now c.in_ok-notes.notes.line
    (queue_found c.args.number c.in_ok-notes.notes.line c.args.shared.now c.open_queue.new.shared
    c.in_ok-notes.ensures.added c.requires.first)
    c.queue_for-queue.ensures)
    c.in_ok-notes.ensures.added c.give_senders.ensures.part

pub returns-in_err-give_slow-clause-queues : goal.returns-in_err-give_slow-clause-queues
returns-in_err-give_slow-clause-queues c =
    queues_still c.args.number c.in_ok-notes.notes.line c.queue_for-queue.result.now.line c.args.shared.now
    c.open_queue.new.shared c.args.cores.now c.give_senders.new.cores
    (same_line _ c.queue_for-queue.result.now c.in_ok-notes.notes.line
    (queue_found c.args.number c.in_ok-notes.notes.line c.args.shared.now c.open_queue.new.shared
    c.in_ok-notes.ensures.added c.requires.first)
    c.queue_for-queue.ensures)
    c.in_ok-notes.ensures.added c.give_senders.ensures.part

pub returns-in_err-give_slow-clause-senders : goal.returns-in_err-give_slow-clause-senders
returns-in_err-give_slow-clause-senders c =
    senders_still c.args.number c.in_ok-notes.notes.line c.queue_for-queue.result.now.line c.args.shared.now
    c.open_queue.new.shared c.args.cores.now c.give_senders.new.cores
    (same_line _ c.queue_for-queue.result.now c.in_ok-notes.notes.line
    (queue_found c.args.number c.in_ok-notes.notes.line c.args.shared.now c.open_queue.new.shared
    c.in_ok-notes.ensures.added c.requires.first)
    c.queue_for-queue.ensures)
    c.in_ok-notes.ensures.added c.requires.first c.give_senders.ensures.part c.requires.senders

pub give_slow-requires : goal.give_slow-requires
give_slow-requires c = record {
  own = c.give_senders.ensures.own ∙ sym (same_line _ c.queue_for-queue.result.now c.in_ok-notes.notes.line
      (queue_found c.args.number c.in_ok-notes.notes.line c.args.shared.now c.open_queue.new.shared
      c.in_ok-notes.ensures.added c.requires.first)
      c.queue_for-queue.ensures);
}

pub returns-in_err-give_senders-clause-slow_senders : goal.returns-in_err-give_senders-clause-slow_senders
returns-in_err-give_senders-clause-slow_senders c =
    slow_still c.args.number c.in_ok-notes.notes.line c.args.shared.now c.open_queue.new.shared c.args.slow.now.senders
    c.args.slow.now.senders refl c.in_ok-notes.ensures.added c.requires.slow_senders

pub returns-in_err-give_slow-clause-slow_senders : goal.returns-in_err-give_slow-clause-slow_senders
returns-in_err-give_slow-clause-slow_senders c =
    slow_still c.args.number c.in_ok-notes.notes.line c.args.shared.now c.open_queue.new.shared c.args.slow.now.senders
    c.give_slow.new.slow.senders (ap (λ (w : slow.Worker). w.senders) c.in_err-give_slow.ensures.err)
    c.in_ok-notes.ensures.added c.requires.slow_senders

pub returns-clause-slow_senders : goal.returns-clause-slow_senders
returns-clause-slow_senders c =
    slow_given c.args.number c.in_ok-notes.notes.line c.queue_for-queue.result.now.line c.give_senders.new.notes.senders
    c.args.shared.now c.open_queue.new.shared c.args.slow.now.senders (the_view c.slow.inside).senders
    (same_line _ c.queue_for-queue.result.now c.in_ok-notes.notes.line
    (queue_found c.args.number c.in_ok-notes.notes.line c.args.shared.now c.open_queue.new.shared
    c.in_ok-notes.ensures.added c.requires.first)
    c.queue_for-queue.ensures)
    c.in_ok-notes.ensures.added c.requires.first
    (ap (λ (w : slow.Worker). w.senders) (c.slow.view_is ∙ c.in_ok-give_slow.ensures.given)) c.requires.slow_senders

pub returns-clause-slow : goal.returns-clause-slow
returns-clause-slow c =
    by_new _ _ _ c.new.ensures.new
    (app_given c.args.number c.give_slow.new.notes.line c.queue_for-queue.result.now.line
    c.give_senders.new.notes.senders (length c.args.cores.now) (the_view c.slow.inside) c.give_slow.new.slow
    c.args.slow.now c.split-pass.new.from
    (same_line _ c.queue_for-queue.result.now c.in_ok-notes.notes.line
    (queue_found c.args.number c.in_ok-notes.notes.line c.args.shared.now c.open_queue.new.shared
    c.in_ok-notes.ensures.added c.requires.first)
    c.queue_for-queue.ensures
    ∙ sym (c.give_slow.ensures.own ∙ c.give_senders.ensures.own))
    c.in_ok-give_senders.ensures.count c.slow.view_is c.in_ok-give_slow.ensures.given c.split-pass.ensures.from)

pub returns-in_err-give_senders-clause-part : goal.returns-in_err-give_senders-clause-part
returns-in_err-give_senders-clause-part c =
    on_err _ _ (part_added c.args.number c.in_ok-notes.notes.line c.queue_for-queue.result.now.line c.args.shared.now
    c.open_queue.new.shared c.args.cores.now c.give_senders.new.cores
    (same_line _ c.queue_for-queue.result.now c.in_ok-notes.notes.line
    (queue_found c.args.number c.in_ok-notes.notes.line c.args.shared.now c.open_queue.new.shared
    c.in_ok-notes.ensures.added c.requires.first)
    c.queue_for-queue.ensures)
    c.in_ok-notes.ensures.added c.give_senders.ensures.part)

pub returns-in_err-give_slow-clause-part : goal.returns-in_err-give_slow-clause-part
returns-in_err-give_slow-clause-part c =
    on_err _ _ (part_added c.args.number c.in_ok-notes.notes.line c.queue_for-queue.result.now.line c.args.shared.now
    c.open_queue.new.shared c.args.cores.now c.give_senders.new.cores
    (same_line _ c.queue_for-queue.result.now c.in_ok-notes.notes.line
    (queue_found c.args.number c.in_ok-notes.notes.line c.args.shared.now c.open_queue.new.shared
    c.in_ok-notes.ensures.added c.requires.first)
    c.queue_for-queue.ensures)
    c.in_ok-notes.ensures.added c.give_senders.ensures.part)
