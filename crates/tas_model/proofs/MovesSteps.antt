-- How far every step moves an endpoint.
use Rattle.std.proofs.Common.{◌≡◌, ℕ, ◌+◌, ◌-◌, ◌*◌, Bool, true, false, not, ◌&&◌, List, ◌++◌, length, take, min, max}
use Rattle.std.proofs.Common.{Option, Some, None, refl, sym, ◌∙◌, true≢false, append-nil, arith, ltb, leb, eqb}
use Rattle.std.proofs.lemmas.Bool.Decides.{nat_tests}
use Rattle.std.proofs.Math.Seq.{take-add}
use Rattle.tas_model.proofs.Tests.{on_cond}
use Rattle.tas_model.proofs.Moves.{Moves, LeavesMoved, IsSilent, moves_sending, moves_reason, moves_nothing}
use Rattle.tas_model.proofs.MovesReceive.{rx_moves}
use Rattle.tas_model.specs.declared.entry.Phase.{Phase}
use Rattle.tas_model.specs.declared.entry.Phase.TheVariants as phases
use Rattle.tas_model.specs.declared.entry.Reason.{Reason}
use Rattle.tas_model.specs.declared.entry.Reason.TheVariants as reasons
use Rattle.tas_model.specs.declared.entry.Call.{Call}
use Rattle.tas_model.specs.declared.entry.Call.TheVariants as calls
use Rattle.tas_model.specs.declared.entry.Reply.{Reply}
use Rattle.tas_model.specs.declared.entry.Reply.TheVariants as replies
use Rattle.tas_model.specs.Endpoint.{Endpoint, Sending, phase, unread, send_room}
use Rattle.tas_model.specs.Segments.{Outcome}
use Rattle.tas_model.specs.ApplicationCalls.{Column, Opening, Over, Running, column, accept_in, ready_in, send_in}
use Rattle.tas_model.specs.ApplicationCalls.{recv_in, recv_open, recv_given, empty_reply, shut_in, close_in, abort_in}
use Rattle.tas_model.specs.ApplicationCalls.{abort_reply, tells_abort}
use Rattle.tas_model.specs.NextSegment.{Going, going, going_in, going_running, emitted, past, waiting, data_len}
use Rattle.tas_model.specs.Timers.{ticks, tick_in, ticked, waited, is_armed, patience, probes, filled, controlled}
use Rattle.tas_model.specs.Timers.{control}
use Rattle.tas_model.specs.LegalHistory.{step, control_in, taken_bytes}
use Rattle.tas_model.specs.Valid.{Valid}
use Rattle.tas_model.specs.BucketLaw.{data_in, data_by, fill_by}

abbrev M : Endpoint → Outcome → Type 0
M e o = Moves 0 0 e o

abbrev L : Endpoint → Option Outcome → Type 0
L e o = LeavesMoved 0 0 e o

-- only the sending side, or the reason, changes
with_tx : (e : Endpoint) (tx : Sending) (reply : Reply) → Valid e → tx.out ≡ e.tx.out
    → (e.tx.shut ≡ true → tx.shut ≡ true) → tx.una ≡ e.tx.una → tx.wl1 ≡ e.tx.wl1 → tx.wl2 ≡ e.tx.wl2 → IsSilent reply
    → M e (record { state = record e { tx = tx }; reply = reply })
with_tx e tx reply v out shut una wl1 wl2 silent =
    moves_sending 0 0 e tx e.rate e.reason reply v out shut una wl1 wl2 (omega arith) silent

-- ----- the calls of an application
accept_moves : (e : Endpoint) (c : Column) → Valid e → L e (accept_in c e)
accept_moves e Running v = moves_nothing e _ v (refl, refl)
accept_moves e Opening v = tt
accept_moves e (Over why) v = tt

ready_moves : (e : Endpoint) (c : Column) → Valid e → M e (ready_in c e)
ready_moves e Running v = moves_nothing e _ v (refl, refl)
ready_moves e Opening v = moves_nothing e _ v (refl, refl)
ready_moves e (Over why) v = moves_nothing e _ v (refl, refl)

accepted_moves : (e : Endpoint) (bytes : List ℕ) → e.tx.shut ≡ false → Valid e
    → M e (record { state = record e { tx = record (e.tx) { out = e.tx.out ++ bytes } }; reply = replies.Took bytes })
accepted_moves e bytes going v =
    record {
      una = omega (arith, v.tx.una, v.tx.nxt);
      read = omega arith;
      wl1 = omega arith;
      wl2 = omega arith;
      iss = refl;
      keeps = record {
        params = refl;
        got = omega arith;
        read = omega arith;
        ended = λ h. h;
        shift = omega arith;
      };
      shut = λ s. absurd (true≢false (sym s ∙ going));
      out = refl;
      bytes =
          sym (append-nil (take e.rx.read e.rx.got));
      bucket = λ s. (s, omega arith);
    }

send_moves : (e : Endpoint) (c : Column) (offered : ℕ) (bytes : List ℕ) → Valid e → L e (send_in c e offered bytes)
send_moves e Opening offered bytes v = moves_nothing e _ v (refl, refl)
send_moves e (Over why) offered bytes v = moves_nothing e _ v (refl, refl)
send_moves e Running offered bytes v =
    on_cond (L e) e.tx.shut _ _ (λ t. moves_nothing e _ v (refl, refl))
    (λ f. on_cond (L e) (eqb (min offered (send_room e)) 0 && not (eqb offered 0)) _ _
    (λ t. moves_nothing e _ v (refl, refl))
    (λ g. on_cond (L e) (eqb (length bytes) (min offered (send_room e))) _ _ (λ t. accepted_moves e bytes f v)
    (λ h. tt)))

given_moves : (e : Endpoint) (most : ℕ) → Valid e → M e (recv_given e most)
given_moves e most v = record {
  una = omega (arith, v.tx.una, v.tx.nxt);
  read = omega (arith, v.rx.read);
  wl1 = omega arith;
  wl2 = omega arith;
  iss = refl;
  keeps = record { params = refl; got = omega arith; read = omega arith; ended = λ h. h; shift = omega arith };
  shut = λ s. (s, refl);
  out = sym (append-nil e.tx.out);
  bytes = take-add e.rx.read (min most (unread e.rx)) e.rx.got;
  bucket = λ s. (s, omega arith);
}

empty_silent : (o : Option Reason) (ended : Bool) → IsSilent (empty_reply o ended)
empty_silent None true = (refl, refl)
empty_silent None false = (refl, refl)
empty_silent (Some why) true = (refl, refl)
empty_silent (Some why) false = (refl, refl)

open_moves : (e : Endpoint) (most : ℕ) → Valid e → M e (recv_open e most)
open_moves e most v = on_cond (M e) (eqb (unread e.rx) 0) _ _
    (λ t. moves_nothing e _ v (empty_silent e.reason e.rx.ended)) (λ f. given_moves e most v)

recv_moves : (e : Endpoint) (c : Column) (most : ℕ) → Valid e → M e (recv_in c e most)
recv_moves e Opening most v = moves_nothing e _ v (refl, refl)
recv_moves e Running most v = open_moves e most v
recv_moves e (Over reasons.Done) most v = open_moves e most v
recv_moves e (Over _) most v = moves_nothing e _ v (refl, refl)

shut_moves : (e : Endpoint) (c : Column) → Valid e → M e (shut_in c e)
shut_moves e Opening v = moves_nothing e _ v (refl, refl)
shut_moves e (Over why) v = moves_nothing e _ v (refl, refl)
shut_moves e Running v = on_cond (M e) e.tx.shut _ _ (λ t. moves_nothing e _ v (refl, refl))
    (λ f. with_tx e (record (e.tx) { shut = true }) _ v refl (λ s. refl) refl refl refl (refl, refl))

close_moves : (e : Endpoint) (c : Column) → Valid e → M e (close_in c e)
close_moves e Opening v = moves_reason e (Some reasons.Aborted) _ v (refl, refl)
close_moves e (Over why) v = moves_nothing e _ v (refl, refl)
close_moves e Running v = with_tx e (record (e.tx) { shut = true }) _ v refl (λ s. refl) refl refl refl (refl, refl)

abort_silent : (e : Endpoint) → IsSilent (abort_reply e)
abort_silent e = on_cond IsSilent (tells_abort (phase e)) _ _ (λ t. (refl, refl)) (λ f. (refl, refl))

abort_moves : (e : Endpoint) (c : Column) → Valid e → M e (abort_in c e)
abort_moves e (Over why) v = moves_nothing e _ v (refl, refl)
abort_moves e Opening v = moves_reason e (Some reasons.Aborted) _ v (abort_silent e)
abort_moves e Running v = moves_reason e (Some reasons.Aborted) _ v (abort_silent e)

-- ----- sending
abbrev G : ℕ → Endpoint → Option Going → Type 0
G paid e None = Unit {0}
G paid e (Some g) = Moves 0 paid e (record { state = g.after; reply = replies.Sent g.seg })

running_moves : (e : Endpoint) → Valid e → G (data_len e) e (going_running e)
running_moves e v =
    on_cond (G (data_len e) e) (ltb 0 (data_len e)) _ _
    (λ t. moves_sending 0 (data_len e) e (past e.tx (data_len e))
    (record (e.rate) { tokens = e.rate.tokens - data_len e }) e.reason _ v refl (λ s. s) refl refl refl
    (omega arith) (refl, refl))
    (λ f. let none : data_len e ≡ 0 = grind (arith, nat_tests) in
    on_cond (G (data_len e) e) (e.tx.probe && eqb e.tx.window 0 && eqb e.tx.nxt e.tx.una && ltb 0 (waiting e.tx)) _ _
    (λ t. moves_sending 0 (data_len e) e (record (e.tx) {
      probe = false;
      max = max e.tx.max (e.tx.nxt + 1);
    }) e.rate e.reason _ v refl (λ s. s) refl refl refl (omega (arith, none))
    (refl, refl))
    (λ g. on_cond (G (data_len e) e) (e.tx.shut && eqb e.tx.nxt (1 + length e.tx.out)) _ _
    (λ t. moves_sending 0 (data_len e) e (past e.tx 1) e.rate e.reason _ v refl (λ s. s) refl refl refl
    (omega (arith, none)) (refl, refl)) (λ h. tt)))

going_moves : (e : Endpoint) (c : Column) → Valid e → G (data_in c e) e (going_in c e)
going_moves e (Over why) v = tt
going_moves e Opening v = on_cond (G 0 e) (eqb e.tx.nxt 0) _ _
    (λ t. moves_sending 0 0 e (past e.tx 1) e.rate e.reason _ v refl (λ s. s) refl refl refl (omega arith) (refl, refl))
    (λ f. tt)
going_moves e Running v = running_moves e v

emit_moves : (paid : ℕ) (e : Endpoint) (o : Option Going) → G paid e o → LeavesMoved 0 paid e (emitted o)
emit_moves paid e None g = tt
emit_moves paid e (Some x) g = g

-- ----- time
abbrev T : Endpoint → Outcome → Type 0
T e o = Moves e.rate.fill 0 e o

with_timer : (e : Endpoint) (tx : Sending) (timeouts : ℕ) (reason : Option Reason) (reply : Reply) → Valid e
    → tx.out ≡ e.tx.out → (e.tx.shut ≡ true → tx.shut ≡ true) → tx.una ≡ e.tx.una → tx.wl1 ≡ e.tx.wl1
    → tx.wl2 ≡ e.tx.wl2 → IsSilent reply
    → T e (record {
      state = record e {
        tx = tx;
        rate = record (filled e.rate) { timeouts = timeouts };
        reason = reason;
      };
      reply = reply;
    })
with_timer e tx timeouts reason reply v out shut una wl1 wl2 silent =
    moves_sending e.rate.fill 0 e tx (record (filled e.rate) { timeouts = timeouts }) reason reply v out shut una wl1
    wl2 (omega arith) silent

ticked_moves : (e : Endpoint) → Valid e → T e (ticked (record e { rate = filled e.rate }))
ticked_moves e v =
    on_cond (T e) (not (is_armed e.tx)) _ _
    (λ t. with_timer e (record (e.tx) { age = 0 }) e.rate.timeouts e.reason _ v refl (λ s. s) refl refl refl (
      refl,
      refl,
    ))
    (λ f. on_cond (T e) (ltb (e.tx.age + 1) (patience e)) _ _
    (λ t. with_timer e (record (e.tx) { age = e.tx.age + 1 }) e.rate.timeouts e.reason _ v refl
    (λ s. s) refl refl refl (refl, refl))
    (λ g. on_cond (T e) (eqb (e.tx.tries + 1) 9) _ _
    (λ t. with_timer e (record (e.tx) { tries = e.tx.tries + 1; age = 0 }) e.rate.timeouts
    (Some reasons.TimedOut) _ v refl (λ s. s) refl refl refl (refl, refl))
    (λ h. on_cond (T e) (probes e) _ _ (λ t. with_timer e
    (record (e.tx) {
      tries = e.tx.tries + 1;
      age = 0;
      nxt = e.tx.una;
      probe = true;
    }) e.rate.timeouts e.reason _ v refl (λ s. s) refl refl refl (refl, refl))
    (λ k. with_timer e (record (e.tx) { tries = e.tx.tries + 1; age = 0; nxt = e.tx.una }) _ e.reason _ v refl
    (λ s. s) refl refl refl (refl, refl)))))

waited_moves : (e : Endpoint) (tick : ℕ) → Valid e → T e (waited (record e { rate = filled e.rate }) tick)
waited_moves e tick v =
    on_cond (T e) (leb (4 * e.params.rto) (tick - e.entered)) _ _
    (λ t. with_timer e e.tx e.rate.timeouts (Some reasons.Done) _ v refl (λ s. s) refl refl refl (refl, refl))
    (λ f. with_timer e e.tx e.rate.timeouts e.reason _ v refl (λ s. s) refl refl refl (refl, refl))

tick_moves : (ph : Phase) (e : Endpoint) (tick : ℕ) → Valid e
    → LeavesMoved e.rate.fill 0 e (tick_in ph (record e { rate = filled e.rate }) tick)
tick_moves phases.Closed e tick v = tt
tick_moves phases.TimeWait e tick v = waited_moves e tick v
tick_moves _ e tick v = ticked_moves e v

control_moves : (e : Endpoint) (c : Column) → Valid e → L e (control_in c e)
unfolding control
control_moves e Running v = moves_sending 0 0 e e.tx (controlled e.rate (e.tx.max - e.tx.una)) e.reason _ v refl
    (λ s. s) refl refl refl (omega arith) (refl, refl)
control_moves e Opening v = tt
control_moves e (Over why) v = tt

-- ----- every step
pub step_moves : (e : Endpoint) (tick : ℕ) (call : Call) (reply : Reply) → Valid e
    → LeavesMoved (fill_by e call) (data_by e call) e (step e tick call reply)
unfolding step going ticks
step_moves e tick (calls.Connect iss) reply v = tt
step_moves e tick (calls.Passive frame iss seg) reply v = tt
step_moves e tick (calls.Rx frame seg) reply v = rx_moves e tick seg v
step_moves e tick calls.Emit reply v =
    emit_moves (data_in (column e) e) e (going_in (column e) e) (going_moves e (column e) v)
step_moves e tick calls.Tick reply v = tick_moves (phase e) e tick v
step_moves e tick calls.Control reply v = control_moves e (column e) v
step_moves e tick calls.Accept reply v = accept_moves e (column e) v
step_moves e tick calls.Ready reply v = ready_moves e (column e) v
step_moves e tick (calls.Send offered) reply v = send_moves e (column e) offered (taken_bytes reply) v
step_moves e tick (calls.Recv most) reply v = recv_moves e (column e) most v
step_moves e tick calls.Shut reply v = shut_moves e (column e) v
step_moves e tick calls.Close reply v = close_moves e (column e) v
step_moves e tick calls.Abort reply v = abort_moves e (column e) v
