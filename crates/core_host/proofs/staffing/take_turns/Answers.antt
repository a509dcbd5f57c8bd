-- Answers of the proof of staffing/take_turns.
use Rattle.std.proofs.Common.{◌≡◌, ◌+◌, ◌++◌, suc, length, sym, ap, ◌∙◌, arith}
use Rattle.flow_lock.specs.Passes.{Seen}
use Rattle.core_worker.specs.Workers.{Common}
use Rattle.core_host.specs.Staffing.{turns_of}
use Rattle.core_host.proofs.Hiring.{cores_turns, may_learn, learned_unused}
use Rattle.core_host.proofs.staffing.take_turns.Goals as goal

pub learn-requires : goal.learn-requires
learn-requires c =
    let v = c.args.slow.now.view in
    let ws = c.args.workers.now in
    let s = c.collect_turns.new.slow in
    let is = c.collect_turns.ensures.slow in
    let one : 1 + length ws ≡ suc (length ws) = omega arith in
    may_learn c.shared.inside.table s (suc (length ws))
    (ap (λ (x : Seen). x.table) is
    ∙ (c.requires.table ∙ sym (ap (λ (x : Common). x.table) c.shared.view_is)))
    (ap (λ (x : Seen). x.view.baton) is ∙ c.requires.baton)
    (cores_turns v s ws c.requires.turns.0 c.requires.turned (ap (λ (x : Seen). x.view) is))
    (ap (λ (x : Seen). x.view.made) is ∙ (c.requires.turns.1 ∙ one))

pub returns-clause-unused : goal.returns-clause-unused
returns-clause-unused c slots passes unused =
    let v = c.args.slow.now.view in
    let ws = c.args.workers.now in
    let s = c.collect_turns.new.slow in
    let is = c.collect_turns.ensures.slow in
    let one : 1 + length ws ≡ suc (length ws) = omega arith in
    learned_unused slots passes c.learn.ensures.order.0 v s.view c.learn.new.slow.view (v.turns ++ turns_of ws)
    (suc (length ws)) unused (ap (λ (x : Seen). x.view) is)
    (cores_turns v s ws c.requires.turns.0 c.requires.turned (ap (λ (x : Seen). x.view) is))
    (ap (λ (x : Seen). x.view.made) is ∙ (c.requires.turns.1 ∙ one)) c.learn.ensures.order.1 c.learn.ensures.words
