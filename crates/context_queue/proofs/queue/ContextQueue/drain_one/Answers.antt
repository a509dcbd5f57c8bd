use Rattle.std.proofs.Common.{[], ◌∷◌, ◌++◌, ap, ◌∙◌}
use Rattle.context_queue.specs.Notes.{Receiver}
use Rattle.context_queue.specs.declared.delivery.View.{View}
use Rattle.context_queue.proofs.Steps.{drains, has_all}
use Rattle.context_queue.proofs.queue.ContextQueue.drain_one.Goals as goal

pub pop_as-requires-clause-rule : goal.pop_as-requires-clause-rule
pop_as-requires-clause-rule g c =
    let may = ap (λ (v : View). v.receives) c.r.invariant.0 in
    (drains _ _ may, has_all _ _ may)

pub returns-clause-taken : goal.returns-clause-taken
returns-clause-taken g c =
    let letter = c.in_ok-letter.letter in
    let line = c.in_ok-letter.ensures.queue.0 ∙ ap (λ (r : Receiver). r.line) c.r.view_is in
    let senders = ap (λ (r : Receiver). r.senders) c.r.view_is in
    let taken = ap (λ (v : View). v.taken) c.in_ok-letter.ensures.rule
    ∙ ap (λ (r : Receiver). r.taken ++ letter ∷ []) c.r.view_is in
    (letter.from, λ i. record { line = line i; senders = senders i; taken = taken i })
