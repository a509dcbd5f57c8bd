use Rattle.app_reaper.specs.OneCall.{history}
use Rattle.fast_tx.specs.Going.{left_in}
use Rattle.core_worker.specs.Sending.{endpoint_of}
use Rattle.core_worker.proofs.Emissions.{Sending}
use Rattle.core_worker.proofs.sending.send_all.Given as goal

abbrev pub invariant-loop-flow : goal.invariant-loop-flow
invariant-loop-flow l = Sending l.core l.tick l.fn.flow l.flow

abbrev pub decreases-loop-flow : goal.decreases-loop-flow
decreases-loop-flow l = left_in (endpoint_of (history l.flow))
