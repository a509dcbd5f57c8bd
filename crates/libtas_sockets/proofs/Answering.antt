-- An application accepts a flow of its listener.
use Rattle.std.proofs.Common.{◌≡◌, ℕ, ◌<◌, ap, sym, ◌∙◌, refl, subst, ◌==◌, cond, Bool, true, false, [], ◌∷◌}
use Rattle.std.proofs.Common.{inr}
use Rattle.std.specs.Prelude.{Option, Some, None, Result, Ok, Err, IfSome}
use Rattle.tas_model.specs.declared.entry.Caller.{Caller}
use Rattle.tas_model.specs.declared.entry.FlowId.{FlowId}
use Rattle.tas_model.specs.declared.entry.Phase.TheVariants as phases
use Rattle.tas_model.specs.declared.entry.Reason.{Reason}
use Rattle.tas_model.specs.Endpoint.{Endpoint, phase, phase_by, is_fin_acked}
use Rattle.tas_model.specs.ApplicationCalls.{Column, Opening, Running, column, column_by}
use Rattle.flow_state.specs.Calls.{is_running}
use Rattle.flow_state.specs.Flow.{Flow}
use Rattle.flow_lock.specs.Answers.{IsPinned}
use Rattle.flow_lock.specs.Steps.{MayAct}
use Rattle.flow_lock.specs.declared.view.History.{History}
use Rattle.flow_lock.specs.declared.view.View.{View}
use Rattle.app_reaper.specs.OneCall.{IsOwn, IsUse}
use Rattle.libtas_sockets.specs.Accepting.{IsAcceptedOn, IsAnsweredBy, IsTried, IsAcceptance}
use Rattle.libtas_sockets.specs.Apps.{Application}
use Rattle.libtas_sockets.specs.declared.socket_error.SocketError.{SocketError}
use Rattle.libtas_sockets.specs.declared.socket_error.SocketError.TheVariants as errors
use Rattle.libtas_sockets.proofs.Acting.{may_too, use_acts, use_pins, use_idle}

-- ----- the record
synchronized_runs : (b shut fin ended first : Bool) → ◌≡◌ {A = Column} (cond b Opening Running) Running
    → is_running (cond b phases.SynReceived (cond shut
    (cond ended (cond first phases.LastAck (cond fin phases.TimeWait phases.Closing))
    (cond fin phases.FinWait2 phases.FinWait1))
    (cond ended phases.CloseWait phases.Established))) ≡ true
synchronized_runs true shut fin ended first e = absurd (cc (e))
synchronized_runs false true fin true true e = refl
synchronized_runs false true true true false e = refl
synchronized_runs false true false true false e = refl
synchronized_runs false true true false first e = refl
synchronized_runs false true false false first e = refl
synchronized_runs false false fin true first e = refl
synchronized_runs false false fin false first e = refl

by_facts : (r : Option Reason) (p : Option ℕ) (una : ℕ) (shut fin ended first : Bool) → column_by r p una ≡ Running
    → is_running (phase_by r p una shut fin ended first) ≡ true
by_facts (Some why) p una shut fin ended first e = absurd (cc (e))
by_facts None None una shut fin ended first e = absurd (cc (e))
by_facts None (Some n) una shut fin ended first e = synchronized_runs (una == 0) shut fin ended first e

-- past the opening, and not closed
pub running : (e : Endpoint) → column e ≡ Running → is_running (phase e) ≡ true
running e is = by_facts e.reason e.peer e.tx.una e.tx.shut (is_fin_acked e.tx) e.rx.ended e.rx.ended_first is

-- ----- the call
pub answered : (id : FlowId) (caller : Caller) (tick : ℕ) (v w : View) (r : Flow) (after : History)
    (q : Result (Unit {0}) SocketError) → IsOwn id v r → IsAcceptedOn caller tick r after q → IsUse id r after v w
    → IsAnsweredBy id caller tick v w q
answered id caller tick v w r after (Ok x) own on use_ = (r, after, own, on, use_)
answered id caller tick v w r after (Err (errors.Busy x)) own on use_ = absurd on
answered id caller tick v w r after (Err errors.OutOfMemory) own on use_ = (r, after, own, on, use_)
answered id caller tick v w r after (Err errors.NotYet) own on use_ = absurd on
answered id caller tick v w r after (Err errors.NotOpen) own on use_ = absurd on
answered id caller tick v w r after (Err errors.Shut) own on use_ = absurd on
answered id caller tick v w r after (Err (errors.Closed reason)) own on use_ = (r, after, own, on, use_)
answered id caller tick v w r after (Err (errors.Stale word)) own on use_ = absurd on
answered id caller tick v w r after (Err (errors.Moved seen found)) own on use_ = absurd on
answered id caller tick v w r after (Err (errors.Early p)) own on use_ = (r, after, own, on, use_)
answered id caller tick v w r after (Err (errors.PortInUse port)) own on use_ = absurd on
answered id caller tick v w r after (Err (errors.SlotInUse s)) own on use_ = absurd on
answered id caller tick v w r after (Err errors.NoPort) own on use_ = absurd on
answered id caller tick v w r after (Err errors.NoFlowSlot) own on use_ = absurd on

-- what stays over it
pub record Stays (v w : View) : Type 0 where
  pub pins : w.pins ≡ v.pins
  pub idle : v.held ≡ [] → w.held ≡ []
  pub acts : MayAct v → MayAct w

used_stays : (id : FlowId) (r : Flow) (after : History) (v w : View) → IsUse id r after v w → Stays v w
used_stays id r after v w u = record {
  pins = use_pins id r after v w u;
  idle = λ h. use_idle id r after v w u;
  acts = use_acts id r after v w u;
}

pub stays : (id : FlowId) (caller : Caller) (tick : ℕ) (v w : View) (q : Result (Unit {0}) SocketError)
    → IsAnsweredBy id caller tick v w q → Stays v w
stays id caller tick v w (Ok x) a = used_stays id a.0 a.1 v w a.4
stays id caller tick v w (Err (errors.Busy x)) a = record {
  pins = ap (λ (y : View). y.pins) a.0.1;
  idle = λ h. ap (λ (y : View). y.held) a.0.1 ∙ h;
  acts = may_too v w (ap (λ (y : View). y.turns) a.0.1) (ap (λ (y : View). y.baton) a.0.1) (ap (λ (y : View). y.made)
      a.0.1);
}
stays id caller tick v w (Err errors.OutOfMemory) a = used_stays id a.0 a.1 v w a.4
stays id caller tick v w (Err errors.NotYet) a = absurd a.3
stays id caller tick v w (Err errors.NotOpen) a = absurd a.3
stays id caller tick v w (Err errors.Shut) a = absurd a.3
stays id caller tick v w (Err (errors.Closed reason)) a = used_stays id a.0 a.1 v w a.4
stays id caller tick v w (Err (errors.Stale word)) a = absurd a.3
stays id caller tick v w (Err (errors.Moved seen found)) a = absurd a.3
stays id caller tick v w (Err (errors.Early p)) a = used_stays id a.0 a.1 v w a.4
stays id caller tick v w (Err (errors.PortInUse port)) a = absurd a.3
stays id caller tick v w (Err (errors.SlotInUse s)) a = absurd a.3
stays id caller tick v w (Err errors.NoPort) a = absurd a.3
stays id caller tick v w (Err errors.NoFlowSlot) a = absurd a.3

-- ----- the listener's list
-- the flow that may be accepted next is in the table
pub ready_near : (slots : ℕ) (o : Option FlowId) (id : FlowId) → o ≡ Some id → IfSome o (λ f. f.slot < slots)
    → id.slot < slots
ready_near slots o id e near = subst (λ (x : Option FlowId). IfSome x (λ f. f.slot < slots)) e near

-- ----- the socket
-- the answer says the same of the flow, whichever way it is named
pub some_is : {A : Type 0} (o : Option A) (x : A) (P : A → Type 0) → o ≡ Some x → P x → IfSome o P
some_is {A} o x P e p = subst (λ (y : Option A). IfSome y P) (sym e) p

-- what the pass has after the pin and the tried Accept
pub tried_view : (f : FlowId) (caller : Caller) (tick : ℕ) (v u w : View) (q : Result (Unit {0}) SocketError)
    → IsPinned f v u → IsAnsweredBy f caller tick u w q → v.held ≡ [] → (w.pins ≡ f ∷ v.pins) × (w.held ≡ [])
tried_view f caller tick v u w q p a idle =
    let s = stays f caller tick u w q a in
    (s.pins ∙ ap (λ (x : View). x.pins) p.3, s.idle (ap (λ (x : View). x.held) p.3 ∙ idle))

-- only some refusals come of an Accept that was tried
pub tried_err : (id : FlowId) (tick : ℕ) (a b : Application) (e : SocketError) → IsTried id tick a b (Err e)
    → IsAcceptance id tick a b (Err e)
tried_err id tick a b (errors.Busy x) t = t
tried_err id tick a b errors.OutOfMemory t = inr t
tried_err id tick a b errors.NotYet t = t
tried_err id tick a b errors.NotOpen t = t
tried_err id tick a b errors.Shut t = t
tried_err id tick a b (errors.Closed reason) t = t
tried_err id tick a b (errors.Stale word) t = absurd t.3.3
tried_err id tick a b (errors.Moved seen found) t = absurd t.3.3
tried_err id tick a b (errors.Early p) t = t
tried_err id tick a b (errors.PortInUse port) t = t
tried_err id tick a b (errors.SlotInUse s) t = absurd t.3.3
tried_err id tick a b errors.NoPort t = t
tried_err id tick a b errors.NoFlowSlot t = t
