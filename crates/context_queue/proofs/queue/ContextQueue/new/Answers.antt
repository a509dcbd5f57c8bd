use Rattle.context_queue.proofs.Steps.{begins}
use Rattle.context_queue.proofs.queue.ContextQueue.new.Goals as goal

pub ruled-requires-clause-rule : goal.ruled-requires-clause-rule
ruled-requires-clause-rule c = begins
