-- One call on a flow, step by step.
use Rattle.std.proofs.Common.{◌≡◌, ap, sym, ◌∙◌, refl, subst, ℕ}
use Rattle.std.specs.Prelude.{Option, Result, Ok, Err, IfOk, IfErr}
use Rattle.tas_model.specs.declared.entry.Caller.{Caller}
use Rattle.tas_model.specs.declared.entry.FlowId.{FlowId}
use Rattle.tas_model.specs.LegalHistory.{Legal, replay}
use Rattle.flow_state.specs.declared.call.CallIn.{CallIn}
use Rattle.flow_state.specs.declared.call.Answer.{Answer}
use Rattle.flow_state.specs.declared.parts.Parts.{Parts}
use Rattle.flow_state.specs.Flow.{Flow}
use Rattle.flow_state.specs.Stands.{Stands}
use Rattle.flow_lock.specs.Answers.{HasSeen, IsKnownOf, IsTaken, Holds}
use Rattle.flow_lock.specs.Histories.{IsLonger}
use Rattle.flow_lock.specs.Steps.{gave}
use Rattle.flow_lock.specs.declared.view.History.{History}
use Rattle.flow_lock.specs.declared.view.View.{View}
use Rattle.app_reaper.specs.declared.one_call.CallFault.{CallFault}
use Rattle.app_reaper.specs.declared.one_call.CallFault.TheVariants.{OutOfMemory}
use Rattle.app_reaper.specs.OneCall.{history, IsOwn, IsUse, IsMade, IsCall, IsCallRefused}

-- the flow's own record, once its parts were read
pub own_taken : (id : FlowId) (v : View) (r : Flow) → r.id ≡ id → Legal r.params r.entries
    → Stands r.parts (replay r.params r.entries) → HasSeen v id (history r) → IsKnownOf v id (history r) → IsOwn id v r
own_taken id v r own legal stands seen known =
    record { own = own; legal = legal; stands = stands; seen = seen; known = known }

-- what was taken may be given back with more behind it
pub taken_holds : (id : FlowId) (r : Flow) (after : History) (v u : View) → IsTaken id (history r) v u
    → IsLonger (history r) after → Holds u id after
taken_holds id r after v u t more =
    (record { flow = id; history = history r }, ap (λ (x : View). x.held) t.3, refl, more)

pub used : (id : FlowId) (r : Flow) (after : History) (v u w : View) → IsTaken id (history r) v u → w ≡ gave id after u
    → IsUse id r after v w
used id r after v u w t e = (t.0, t.1, t.2, e ∙ ap (gave id after) t.3)

-- What one call leaves where the flow's own record was taken, and then given back with the history that it has after
-- the call: the call was made, or memory was wanting.
pub call_made : (id : FlowId) (caller : Caller) (tick : ℕ) (call : CallIn) (serves : Parts → CallIn → Type 0)
    (r : Flow) (after : History) (v u w : View) (x : Result (Option Answer) CallFault)
    → IsOwn id v r → IsTaken id (history r) v u → w ≡ gave id after u
    → IfOk x (IsMade caller tick call serves r after)
    → IfOk x (IsCall id caller tick call serves v w)
call_made id caller tick call serves r after v u w (Ok a) own taken given m =
    record { flow = r; own = own; after = after; made = m; given = used id r after v u w taken given }
call_made id caller tick call serves r after v u w (Err e) own taken given m = tt

pub call_refused : (id : FlowId) (r : Flow) (after : History) (v u w : View) (x : Result (Option Answer) CallFault)
    → IsOwn id v r → IsTaken id (history r) v u → w ≡ gave id after u
    → IfErr x (λ e. (e ≡ OutOfMemory) × (after ≡ history r))
    → IfErr x (IsCallRefused id v w)
call_refused id r after v u w (Ok a) own taken given m = tt
call_refused id r after v u w (Err e) own taken given m =
    subst (IsCallRefused id v w) (sym m.0)
    (r, own, subst (λ h. IsUse id r h v w) m.1 (used id r after v u w taken given))
