use Rattle.core_worker.proofs.Told.{still_own, also_own}
use Rattle.core_worker.proofs.laws.senders_stay_own.Goals as goal

pub returns-clause-queue : goal.returns-clause-queue
returns-clause-queue c queues senders q own = still_own queues senders q own

pub returns-clause-sender : goal.returns-clause-sender
returns-clause-sender c queues senders q s own first app line = also_own queues senders q s own first app line
