-- Time leaves a flow that it doesn't close as far as it was, opening or running: for the law time_keeps_it.
use Rattle.std.proofs.Common.{◌≡◌, ℕ, ◌+◌, not, Bool, true, false, [], Option, Some, None, is_some, refl, sym}
use Rattle.std.proofs.Common.{◌∙◌, ◌*◌, ◌-◌, subst, eqb, ltb, leb, true≢false}
use Rattle.tas_model.specs.declared.entry.Phase.{Phase}
use Rattle.tas_model.specs.declared.entry.Phase.TheVariants as phases
use Rattle.tas_model.specs.declared.entry.Reason.{Reason}
use Rattle.tas_model.specs.declared.entry.Reply.{Reply}
use Rattle.tas_model.specs.declared.entry.Call.TheVariants as calls
use Rattle.tas_model.specs.declared.entry.Caller.TheVariants.{Slow}
use Rattle.tas_model.specs.Endpoint.{Endpoint, phase}
use Rattle.tas_model.specs.Segments.{Outcome}
use Rattle.tas_model.specs.ApplicationCalls.{Column, Opening, Over, Running, column, column_by}
use Rattle.tas_model.specs.Timers.{ticks, tick_in, filled, ticked, expired, waited, is_armed, patience, probes, control}
use Rattle.tas_model.specs.LegalHistory.{Legal, step, state_or, control_in, shown}
use Rattle.tas_model.proofs.Histories.{replay_push}
use Rattle.tas_model.proofs.Tests.{on_cond}
use Rattle.host_rounds.specs.Hosts.{Live, Waiting}
use Rattle.host_rounds.proofs.Flows.{call_kept}
use Rattle.host_rounds.proofs.Steps.{tick_steps}
use Rattle.flow_lock.specs.declared.view.History.{History}
use Rattle.flow_clock.specs.Histories.{endpoint_of, is_over, is_running, is_running_in, with_call, with_tick, timed_by}
use Rattle.flow_clock.specs.Histories.{controlled_where, is_control_due}

-- what the peer sent first, and what it acknowledged, are as before
abbrev IsSame : Endpoint → Endpoint → Type 0
IsSame e x = (x.peer ≡ e.peer) × (x.tx.una ≡ e.tx.una)

abbrev StaysSame : Endpoint → Option Outcome → Type 0
StaysSame e o = IsSame e (state_or e o)

expired_same : (e x : Endpoint) → IsSame e x → IsSame e (expired x).state
expired_same e x same =
    on_cond (λ (o : Outcome). IsSame e o.state) (eqb (x.tx.tries + 1) 9) _ _ (λ t. same)
    (λ f. on_cond (λ (o : Outcome). IsSame e o.state) (probes x) _ _ (λ t. same) (λ g. same))

ticked_same : (e x : Endpoint) → IsSame e x → IsSame e (ticked x).state
ticked_same e x same =
    on_cond (λ (o : Outcome). IsSame e o.state) (not (is_armed x.tx)) _ _ (λ t. same)
    (λ f. on_cond (λ (o : Outcome). IsSame e o.state) (ltb (x.tx.age + 1) (patience x)) _ (expired x) (λ t. same)
    (λ g. expired_same e x same))

waited_same : (e x : Endpoint) (tick : ℕ) → IsSame e x → IsSame e (waited x tick).state
waited_same e x tick same =
    on_cond (λ (o : Outcome). IsSame e o.state) (leb (4 * x.params.rto) (tick - x.entered)) _ _ (λ t. same) (λ f. same)

tick_same : (p : Phase) (e : Endpoint) (tick : ℕ) → StaysSame e (tick_in p (record e { rate = filled e.rate }) tick)
tick_same phases.Closed e tick = (refl, refl)
tick_same phases.TimeWait e tick = waited_same e (record e { rate = filled e.rate }) tick (refl, refl)
tick_same _ e tick = ticked_same e (record e { rate = filled e.rate }) (refl, refl)

control_same : (e : Endpoint) (c : Column) → StaysSame e (control_in c e)
unfolding control
control_same e Running = (refl, refl)
control_same e Opening = (refl, refl)
control_same e (Over why) = (refl, refl)

step_ticks : (e : Endpoint) (tick : ℕ) (reply : Reply) → IsSame e (state_or e (step e tick calls.Tick reply))
unfolding step ticks
step_ticks e tick reply = tick_same (phase e) e tick

step_controls : (e : Endpoint) (tick : ℕ) (reply : Reply) → IsSame e (state_or e (step e tick calls.Control reply))
unfolding step
step_controls e tick reply = control_same e (column e)

-- ----- histories
with_tick_same : (t : ℕ) (h : History) → Legal h.params h.entries → IsSame (endpoint_of h) (endpoint_of (with_tick t h))
with_tick_same t h legal =
    subst (IsSame (endpoint_of h)) (sym (replay_push h.params h.entries _ legal)) (step_ticks (endpoint_of h) _ _)

with_control_same : (t : ℕ) (h : History) → Legal h.params h.entries
    → IsSame (endpoint_of h) (endpoint_of (with_call calls.Control t h))
with_control_same t h legal =
    subst (IsSame (endpoint_of h)) (sym (replay_push h.params h.entries _ legal)) (step_controls (endpoint_of h) _ _)

two_same : (a b c : Endpoint) → IsSame a b → IsSame b c → IsSame a c
two_same a b c x y = (y.0 ∙ x.0, y.1 ∙ x.1)

timed_same : (t : ℕ) (h : History) → Legal h.params h.entries → is_over h ≡ false
    → IsSame (endpoint_of h) (endpoint_of (timed_by t h))
timed_same t h legal open_ =
    let ticked_ : History = with_tick t h in
    let l : Live = record {
      flow = record {
        id = record { slot = 0; generation = 0 };
        tuple = h.tuple;
        params = h.params;
        entries = h.entries;
      };
      indexed = true;
      holder = Waiting;
      filed = false;
    } in
    let more : Legal (with_tick t h).params (with_tick t h).entries =
    call_kept l Slow t calls.Tick [] legal tt (λ u. tick_steps (endpoint_of h) u (shown (endpoint_of h) []) open_) in
    by (is_control_due t h) (with_tick_same t h legal) (with_control_same t (with_tick t h) more)
  where
    by : (due : Bool) → IsSame (endpoint_of h) (endpoint_of (with_tick t h))
        → IsSame (endpoint_of (with_tick t h)) (endpoint_of (with_call calls.Control t (with_tick t h)))
        → IsSame (endpoint_of h) (endpoint_of (controlled_where due t (with_tick t h)))
    by true x y =
        two_same (endpoint_of h) (endpoint_of (with_tick t h))
        (endpoint_of (with_call calls.Control t (with_tick t h))) x y
    by false x y = x

running_alike : (r s : Option Reason) (p : Option ℕ) (una : ℕ) → is_some r ≡ false → is_some s ≡ false
    → is_running_in (column_by s p una) ≡ is_running_in (column_by r p una)
running_alike (Some why) s p una x y = absurd (true≢false x)
running_alike None (Some why) p una x y = absurd (true≢false y)
running_alike None None p una x y = refl

pub timed_running : (t : ℕ) (h : History) → Legal h.params h.entries → is_over h ≡ false
    → is_over (timed_by t h) ≡ false → is_running (timed_by t h) ≡ is_running h
timed_running t h legal open_ still =
    let same = timed_same t h legal open_ in
    (λ i. is_running_in (column_by (endpoint_of (timed_by t h)).reason (same.0 i) (same.1 i)))
    ∙ running_alike (endpoint_of h).reason (endpoint_of (timed_by t h)).reason (endpoint_of h).peer
    (endpoint_of h).tx.una open_ still
