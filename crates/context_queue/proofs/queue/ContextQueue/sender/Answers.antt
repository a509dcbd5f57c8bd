use Rattle.std.proofs.Common.{ap}
use Rattle.context_queue.specs.declared.delivery.View.{View}
use Rattle.context_queue.proofs.Steps.{forks}
use Rattle.context_queue.proofs.queue.ContextQueue.sender.Goals as goal

pub another-pass-requires-clause-rule : goal.another-pass-requires-clause-rule
another-pass-requires-clause-rule c = let is = c.r.invariant.0 in
    forks _ _ (ap (λ (v : View). v.receives) is) (ap (λ (v : View). v.sends) is)
