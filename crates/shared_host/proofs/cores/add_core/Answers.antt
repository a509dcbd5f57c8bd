use Rattle.std.proofs.Common.{ap, ◌∙◌, ◌+◌}
use Rattle.context_queue.specs.Notes.{Receiver}
use Rattle.slow_worker.specs.Workers.{Worker}
use Rattle.shared_host.proofs.Adding.{one_core}
use Rattle.shared_host.proofs.cores.add_core.Goals as goal

pub returns-clause-cores : goal.returns-clause-cores
returns-clause-cores g c =
    one_core c.args.host c.args.table.now c.args.core c.args.cores.now.kicks.items c.push.new.self.items
    c.args.cores.now.workers.items c.push-2.new.self.items c.in_ok-queue.queue c.new-worker.result _
    c.slow.inside.pass.view _ _
    c.requires.cores c.in_ok-queue.ensures.room c.new-worker.ensures c.in_ok-reader.ensures.new
    c.split-pass.ensures.new
    (ap (λ (w : Worker). w.pass.view.made) (c.slow.view_is ∙ c.in_ok-add_kicker.ensures.ok) ∙ c.requires.made)
    (ap (λ (r : Receiver). r.line) c.in_ok-sender.ensures.counted ∙ c.in_ok-queue.ensures.own)
    (ap (λ (r : Receiver). r.senders) c.in_ok-sender.ensures.counted ∙ ap (λ n. n + 1) c.in_ok-queue.ensures.new.0)
    c.in_ok-push.ensures.items c.in_ok-push-2.ensures.items
