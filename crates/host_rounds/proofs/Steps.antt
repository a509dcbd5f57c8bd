-- Where a call is a step.
use Rattle.std.proofs.Common.{◌≡◌, ℕ, ◌==◌, ◌&&◌, not, Bool, true, false, List, length, take, min, Option, Some, None}
use Rattle.std.proofs.Common.{IsSome, is_some, refl, sym, true≢false, arith, eq-eqb, length-take, if◌then◌else◌}
use Rattle.tas_model.specs.declared.entry.Reason.{Reason}
use Rattle.tas_model.specs.declared.entry.FrameId.{FrameId}
use Rattle.tas_model.specs.declared.entry.Seg.{Seg}
use Rattle.tas_model.specs.declared.entry.Phase.TheVariants.{SynReceived, Established, FinWait1, FinWait2, CloseWait}
use Rattle.tas_model.specs.declared.entry.Phase.TheVariants.{Closing, LastAck, TimeWait}
use Rattle.tas_model.specs.declared.entry.Call.TheVariants as calls
use Rattle.tas_model.specs.declared.entry.Reply.{Reply}
use Rattle.tas_model.specs.declared.entry.Reply.TheVariants as replies
use Rattle.tas_model.specs.Endpoint.{Endpoint, is_closed, is_fin_acked, phase_by, send_room}
use Rattle.tas_model.specs.ApplicationCalls.{Column, Opening, Over, Running, column, send_in, accept_in}
use Rattle.tas_model.specs.NextSegment.{Going, going}
use Rattle.tas_model.specs.Timers.{ticks, tick_in, filled}
use Rattle.tas_model.specs.LegalHistory.{step, control_in}

sync_ticks : (zero_una shut fin ended first : Bool) (e : Endpoint) (t : ℕ)
    → IsSome (tick_in (if zero_una then SynReceived else if shut
    then (if ended then (if first then LastAck else if fin then TimeWait else Closing) else if fin then FinWait2
    else FinWait1) else if ended then CloseWait else Established) e t)
sync_ticks true shut fin ended first e t = refl
sync_ticks false true true true true e t = refl
sync_ticks false true true true false e t = refl
sync_ticks false true true false first e t = refl
sync_ticks false true false true true e t = refl
sync_ticks false true false true false e t = refl
sync_ticks false true false false first e t = refl
sync_ticks false false fin true first e t = refl
sync_ticks false false fin false first e t = refl

phase_ticks : (why : Option Reason) (peer : Option ℕ) (una : ℕ) (shut fin ended first : Bool) (e : Endpoint) (t : ℕ)
    → is_some why ≡ false
    → IsSome (tick_in (phase_by why peer una shut fin ended first) e t)
phase_ticks (Some why) peer una shut fin ended first e t h = absurd (true≢false h)
phase_ticks None None una shut fin ended first e t h = refl
phase_ticks None (Some n) una shut fin ended first e t h = sync_ticks (una == 0) shut fin ended first e t

closed_is_some : (why : Option Reason) → (elim why [ None ↦ false | Some w ↦ true ]) ≡ false → is_some why ≡ false
closed_is_some None h = refl
closed_is_some (Some w) h = h

pub tick_steps : (e : Endpoint) (t : ℕ) (reply : Reply) → is_closed e ≡ false → IsSome (step e t calls.Tick reply)
unfolding step ticks
tick_steps e t reply h = phase_ticks e.reason e.peer e.tx.una e.tx.shut (is_fin_acked e.tx) e.rx.ended e.rx.ended_first
    (record e { rate = filled e.rate }) t (closed_is_some e.reason h)

pub rx_steps : (e : Endpoint) (t : ℕ) (frame : FrameId) (seg : Seg) (reply : Reply)
    → IsSome (step e t (calls.Rx frame seg) reply)
unfolding step
rx_steps e t frame seg reply = refl

control_in_steps : (c : Column) (e : Endpoint) → (elim c [ Running ↦ true | _ ↦ false ]) ≡ true
    → IsSome (control_in c e)
control_in_steps Running e h = refl
control_in_steps Opening e h = absurd (true≢false (sym h))
control_in_steps (Over why) e h = absurd (true≢false (sym h))

pub control_steps : (e : Endpoint) (t : ℕ) (reply : Reply) → (elim (column e) [ Running ↦ true | _ ↦ false ]) ≡ true
    → IsSome (step e t calls.Control reply)
unfolding step
control_steps e t reply h = control_in_steps (column e) e h

accept_in_steps : (c : Column) (e : Endpoint) → (elim c [ Running ↦ true | _ ↦ false ]) ≡ true → IsSome (accept_in c e)
accept_in_steps Running e h = refl
accept_in_steps Opening e h = absurd (true≢false (sym h))
accept_in_steps (Over why) e h = absurd (true≢false (sym h))

pub accept_steps : (e : Endpoint) (t : ℕ) (reply : Reply) → (elim (column e) [ Running ↦ true | _ ↦ false ]) ≡ true
    → IsSome (step e t calls.Accept reply)
unfolding step
accept_steps e t reply h = accept_in_steps (column e) e h

send_running_steps : (e : Endpoint) (offered : ℕ) (bytes : List ℕ) → length bytes ≡ min offered (send_room e)
    → IsSome (send_in Running e offered bytes)
send_running_steps e offered bytes fits = by_shut e.tx.shut refl where
  same : (length bytes == min offered (send_room e)) ≡ true
  same = eq-eqb (length bytes) (min offered (send_room e)) fits

  by_none : (b : Bool) → e.tx.shut ≡ false → (min offered (send_room e) == 0 && not (offered == 0)) ≡ b
      → IsSome (send_in Running e offered bytes)
  by_none true h k = rw (h, k) refl
  by_none false h k = rw (h, k, same) refl

  by_shut : (b : Bool) → e.tx.shut ≡ b → IsSome (send_in Running e offered bytes)
  by_shut true h = rw h refl
  by_shut false h = by_none (min offered (send_room e) == 0 && not (offered == 0)) h refl

send_in_steps : (c : Column) (e : Endpoint) (offered : ℕ) (bytes : List ℕ) → length bytes ≡ min offered (send_room e)
    → IsSome (send_in c e offered bytes)
send_in_steps Opening e offered bytes fits = refl
send_in_steps (Over why) e offered bytes fits = refl
send_in_steps Running e offered bytes fits = send_running_steps e offered bytes fits

pub send_steps : (e : Endpoint) (t : ℕ) (offer : List ℕ)
    → IsSome (step e t (calls.Send (length offer)) (replies.Took (take (send_room e) offer)))
unfolding step
send_steps e t offer = send_in_steps (column e) e (length offer) (take (send_room e) offer)
    (grind (arith, length-take (send_room e) offer))

pub shut_steps : (e : Endpoint) (t : ℕ) (reply : Reply) → IsSome (step e t calls.Shut reply)
unfolding step
shut_steps e t reply = refl

pub ready_steps : (e : Endpoint) (t : ℕ) (reply : Reply) → IsSome (step e t calls.Ready reply)
unfolding step
ready_steps e t reply = refl

pub close_steps : (e : Endpoint) (t : ℕ) (reply : Reply) → IsSome (step e t calls.Close reply)
unfolding step
close_steps e t reply = refl

pub abort_steps : (e : Endpoint) (t : ℕ) (reply : Reply) → IsSome (step e t calls.Abort reply)
unfolding step
abort_steps e t reply = refl

pub recv_steps : (e : Endpoint) (t : ℕ) (most : ℕ) (reply : Reply) → IsSome (step e t (calls.Recv most) reply)
unfolding step
recv_steps e t most reply = refl

pub emit_steps : (e : Endpoint) (t : ℕ) (reply : Reply) (g : Going) → going e ≡ Some g
    → IsSome (step e t calls.Emit reply)
unfolding step
emit_steps e t reply g h = rw h refl
