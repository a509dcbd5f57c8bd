-- What is closed stays closed.
use Rattle.std.proofs.Common.{◌≡◌, ℕ, true, Option, Some, None, is_some, refl, sym, subst, ap, ◌∙◌, true≢false, eqb}
use Rattle.tas_model.specs.declared.entry.Reason.{Reason}
use Rattle.tas_model.specs.declared.entry.Reason.TheVariants as reasons
use Rattle.tas_model.specs.declared.entry.Phase.{Phase}
use Rattle.tas_model.specs.declared.entry.Phase.TheVariants as phases
use Rattle.tas_model.specs.declared.entry.Call.{Call}
use Rattle.tas_model.specs.declared.entry.Call.TheVariants as calls
use Rattle.tas_model.specs.declared.entry.Reply.{Reply}
use Rattle.tas_model.specs.Endpoint.{Endpoint, phase, is_closed, unread}
use Rattle.tas_model.specs.Segments.{Outcome}
use Rattle.tas_model.specs.Receive.{rx, rx_in}
use Rattle.tas_model.specs.ApplicationCalls.{Column, Over, column, accept_in, ready_in, send_in, recv_in, recv_open}
use Rattle.tas_model.specs.ApplicationCalls.{recv_given, shut_in, close_in, abort_in}
use Rattle.tas_model.specs.NextSegment.{going, going_in, emitted}
use Rattle.tas_model.specs.Timers.{ticks, tick_in, filled}
use Rattle.tas_model.specs.LegalHistory.{step, state_or, control_in, taken_bytes}
use Rattle.tas_model.proofs.Tests.{on_cond}

abbrev StaysClosed : Endpoint → Option Outcome → Type 0
StaysClosed e o = is_closed (state_or e o) ≡ true

reason_column : (e : Endpoint) (why : Reason) → e.reason ≡ Some why → column e ≡ Over why
reason_column e why h = rw h refl

reason_phase : (e : Endpoint) (why : Reason) → e.reason ≡ Some why → phase e ≡ phases.Closed
reason_phase e why h = rw h refl

open_stays : (e : Endpoint) (most : ℕ) → is_closed e ≡ true → is_closed (recv_open e most).state ≡ true
open_stays e most h = on_cond (λ (o : Outcome). is_closed o.state ≡ true) (eqb (unread e.rx) 0) _ (recv_given e most)
    (λ t. h) (λ f. h)

recv_stays : (why : Reason) (e : Endpoint) (most : ℕ) → is_closed e ≡ true
    → is_closed (recv_in (Over why) e most).state ≡ true
recv_stays reasons.Done e most h = open_stays e most h
recv_stays reasons.Reset e most h = h
recv_stays reasons.Refused e most h = h
recv_stays reasons.TimedOut e most h = h
recv_stays reasons.Aborted e most h = h

step_stays : (e : Endpoint) (why : Reason) (t : ℕ) (call : Call) (reply : Reply) → e.reason ≡ Some why
    → is_closed e ≡ true → StaysClosed e (step e t call reply)
unfolding step going ticks rx
step_stays e why t (calls.Connect iss) reply r h = h
step_stays e why t (calls.Passive frame iss seg) reply r h = h
step_stays e why t (calls.Rx frame seg) reply r h =
    subst (λ (ph : Phase). is_closed (rx_in ph e t seg).state ≡ true) (sym (reason_phase e why r)) h
step_stays e why t calls.Emit reply r h =
    subst (λ (c : Column). StaysClosed e (emitted (going_in c e))) (sym (reason_column e why r)) h
step_stays e why t calls.Tick reply r h =
    subst (λ (ph : Phase). StaysClosed e (tick_in ph (record e { rate = filled e.rate }) t))
    (sym (reason_phase e why r)) h
step_stays e why t calls.Control reply r h =
    subst (λ (c : Column). StaysClosed e (control_in c e)) (sym (reason_column e why r)) h
step_stays e why t calls.Accept reply r h =
    subst (λ (c : Column). StaysClosed e (accept_in c e)) (sym (reason_column e why r)) h
step_stays e why t calls.Ready reply r h =
    subst (λ (c : Column). is_closed (ready_in c e).state ≡ true) (sym (reason_column e why r)) h
step_stays e why t (calls.Send offered) reply r h =
    subst (λ (c : Column). StaysClosed e (send_in c e offered (taken_bytes reply))) (sym (reason_column e why r)) h
step_stays e why t (calls.Recv most) reply r h =
    subst (λ (c : Column). is_closed (recv_in c e most).state ≡ true) (sym (reason_column e why r))
    (recv_stays why e most h)
step_stays e why t calls.Shut reply r h =
    subst (λ (c : Column). is_closed (shut_in c e).state ≡ true) (sym (reason_column e why r)) h
step_stays e why t calls.Close reply r h =
    subst (λ (c : Column). is_closed (close_in c e).state ≡ true) (sym (reason_column e why r)) h
step_stays e why t calls.Abort reply r h =
    subst (λ (c : Column). is_closed (abort_in c e).state ≡ true) (sym (reason_column e why r)) h

-- A closed endpoint stays closed, whatever the call.
pub closed_stays : (e : Endpoint) (t : ℕ) (call : Call) (reply : Reply) → is_closed e ≡ true
    → StaysClosed e (step e t call reply)
closed_stays e t call reply h = by_reason e.reason refl where
  by_reason : (o : Option Reason) → e.reason ≡ o → StaysClosed e (step e t call reply)
  by_reason None r = absurd (true≢false (sym h ∙ ap is_some r))
  by_reason (Some why) r = step_stays e why t call reply r h
