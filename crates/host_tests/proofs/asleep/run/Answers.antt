use Rattle.std.proofs.Common.{sym, subst}
use Rattle.std.specs.Prelude.{List, All}
use Rattle.core_worker.specs.Workers as cores
use Rattle.host_tests.specs.Hosts.{IsCore, AreWorking}
use Rattle.host_tests.proofs.asleep.run.Goals as goal

-- each may have a turn, so all may
working : (c : cores.Common) (ws : List cores.Worker) → All (IsCore c) ws → AreWorking c ws
working c ws each = record { each = each }

pub run_beside-requires-clause-cores : goal.run_beside-requires-clause-cores
run_beside-requires-clause-cores g c κs low =
    subst (AreWorking c.args.shared.now) (sym c.deref_mut.ensures.value)
    (working c.args.shared.now c.deliver.new.cores.workers.items c.deliver.ensures.1)
