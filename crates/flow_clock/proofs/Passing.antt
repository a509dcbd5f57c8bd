-- Time passes for one flow.
use Rattle.std.proofs.Common.{◌≡◌, ◌∙◌, ap, ℕ, List}
use Rattle.std.specs.Prelude.{Result, Ok, Err, IfOk}
use Rattle.tas_model.specs.declared.entry.FlowId.{FlowId}
use Rattle.flow_state.specs.Flow.{Flow}
use Rattle.flow_lock.specs.Answers.{IsTaken}
use Rattle.flow_lock.specs.Steps.{gave}
use Rattle.flow_lock.specs.declared.view.History.{History}
use Rattle.flow_lock.specs.declared.view.View.{View}
use Rattle.app_reaper.specs.declared.one_call.CallFault.{CallFault}
use Rattle.app_reaper.specs.OneCall.{history, IsOwn}
use Rattle.app_reaper.proofs.Calls.{used}
use Rattle.core_worker.specs.declared.kicks.Kick.{Kick}
use Rattle.slow_handshake.specs.Openings.{Openings}
use Rattle.flow_clock.specs.OneFlow.{HasPassed, kicks_with, path_with, IsTimed}
use Rattle.flow_clock.specs.declared.timing.Timed.{Timed}

-- The flow's own record was taken, and given back with the history that it has after the tick, and with its kick.
pub flow_timed : (tick : ℕ) (id : FlowId) (r : Flow) (after : History) (v u w : View) (kicks kicks' : List Kick)
    (path path' : Openings) (x : Result Timed CallFault) → IsOwn id v r → IsTaken id (history r) v u
    → w ≡ gave id after u
    → IfOk x (HasPassed tick (history r) after) → IfOk x (λ timed. kicks' ≡ kicks_with r.id after timed kicks)
    → IfOk x (λ timed. path' ≡ path_with r.id after timed path) → IfOk x (IsTimed tick id v w kicks kicks' path path')
flow_timed tick id r after v u w kicks kicks' path path' (Ok a) own taken given passed kicked told = (
  r,
  after,
  own,
  passed,
  used id r after v u w taken given,
  kicked ∙ ap (λ f. kicks_with f after a kicks) own.own,
  told ∙ ap (λ f. path_with f after a path) own.own,
)
flow_timed tick id r after v u w kicks kicks' path path' (Err e) own taken given passed kicked told = tt
