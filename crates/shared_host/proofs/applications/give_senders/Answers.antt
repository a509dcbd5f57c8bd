use Rattle.std.proofs.Common.{◌+◌, get_or, ap, ◌∙◌, arith}
use Rattle.std.proofs.lemmas.Option.{slice_get-get_or}
use Rattle.shared_host.specs.Applications.{new_sender, with_sender}
use Rattle.shared_host.proofs.Giving.{one_given}
use Rattle.shared_host.proofs.applications.give_senders.Goals as goal

pub loop-core-preserved : goal.loop-core-preserved
loop-core-preserved c =
    let i = c.loop-core.core-index in
    let l = c.loop-core.invariant in
    record {
      line = c.give_sender.ensures.own ∙ l.line;
      senders = c.in_ok-give_sender.ensures.counted ∙ ap (λ n. n + 1) l.senders;
      given = one_given c.args.number c.args.queue.now.line i c.args.cores.now c.loop-core.cores
          (get_or c.loop-core.cores i c.core-item.result) c.give_sender.new.core l.given
          (slice_get-get_or c.loop-core.cores i c.core-item.result
          (omega (arith, c.loop-core.auto.cores, c.loop-core-test.true)))
          (c.in_ok-give_sender.ensures.given
          ∙ ap (λ n. with_sender (new_sender c.args.number c.args.queue.now.line n)
          (get_or c.loop-core.cores i c.core-item.result)) l.senders);
    }
