use Rattle.std.proofs.Common.{ap, sym}
use Rattle.context_queue.specs.declared.delivery.View.{View}
use Rattle.context_queue.proofs.Steps.{posts, sees}
use Rattle.context_queue.proofs.queue.ContextQueue.post.Goals as goal

pub push_as-requires-clause-rule : goal.push_as-requires-clause-rule
push_as-requires-clause-rule g c =
    let is = c.s.invariant.0 in
    let may = ap (λ (v : View). v.sends) is in
    (posts _ _ _ _ may (sym (ap (λ (v : View). v.number) is)), sees _ _ may)
