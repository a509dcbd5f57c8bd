-- What a call gives to the application: a Recv no more bytes than it asks for, and every other call none.
use Rattle.std.proofs.Common.{◌≡◌, ℕ, ◌+◌, ◌-◌, ◌*◌, ◌≤◌, Bool, true, false, cond, not, ◌&&◌}
use Rattle.std.proofs.Common.{List, [], length, drop, min, Option, Some, None, refl, sym, subst, arith, ltb}
use Rattle.std.proofs.Common.{eqb, leb}
use Rattle.std.proofs.lemmas.List.{length-take}
use Rattle.tas_model.proofs.Tests.{on_cond}
use Rattle.tas_model.specs.declared.entry.HostParams.{HostParams}
use Rattle.tas_model.specs.declared.entry.Entry.{Entry}
use Rattle.tas_model.specs.declared.entry.Reason.{Reason}
use Rattle.tas_model.specs.declared.entry.Reason.TheVariants as reasons
use Rattle.tas_model.specs.declared.entry.Phase.{Phase}
use Rattle.tas_model.specs.declared.entry.Phase.TheVariants as phases
use Rattle.tas_model.specs.declared.entry.Call.{Call}
use Rattle.tas_model.specs.declared.entry.Call.TheVariants as calls
use Rattle.tas_model.specs.declared.entry.Seg.{Seg}
use Rattle.tas_model.specs.declared.entry.Reply.{Reply}
use Rattle.tas_model.specs.declared.entry.Reply.TheVariants as replies
use Rattle.tas_model.specs.Endpoint.{Endpoint, phase, unread, send_room, wnd}
use Rattle.tas_model.specs.Segments.{Outcome, is_ack, is_rst, is_syn, acks, resets, stray_reply, seg_len}
use Rattle.tas_model.specs.Segments.{offered_window}
use Rattle.tas_model.specs.Receive.{rx, rx_in, rx_later, rx_syn_sent, by_verdict, verdict}
use Rattle.tas_model.specs.Receive.{Verdict, Dropped, Answered, Reset, BareAck, Taken, AckVerdict, Stray, TooFar, Good}
use Rattle.tas_model.specs.Receive.{taken, bare_ack, after_ack, after_data, place_of_ack, is_heard}
use Rattle.tas_model.specs.ApplicationCalls.{Column, Opening, Over, Running, column, accept_in, ready_in, send_in}
use Rattle.tas_model.specs.ApplicationCalls.{recv_in, recv_open, empty_reply, shut_in, close_in, abort_in}
use Rattle.tas_model.specs.ApplicationCalls.{abort_reply, tells_abort}
use Rattle.tas_model.specs.NextSegment.{Going, going, going_in, emitted}
use Rattle.tas_model.specs.Timers.{ticks, tick_in, ticked, is_armed, patience, probes, filled, control}
use Rattle.tas_model.specs.LegalHistory.{step, control_in, replay, taken_bytes, Gives, MayFollow}
use Rattle.tas_model.specs.Outputs.{given_bytes}

-- ----- every call but Recv
abbrev G : Reply → Type 0
G r = given_bytes r ≡ []

abbrev R : Outcome → Type 0
R o = G o.reply

abbrev L : Option Outcome → Type 0
L None = Unit {0}
L (Some o) = G o.reply

stray_none : (seg : Seg) → G (stray_reply seg)
stray_none seg =
    on_cond G (is_rst seg) _ _ (λ t. refl) (λ f. on_cond G (is_ack seg) _ _ (λ t. refl) (λ g. refl))

heard_none : (b : Bool) (e : Endpoint) → G (cond b (acks e) replies.Nothing)
heard_none true e = refl
heard_none false e = refl

taken_none : (e : Endpoint) (tick q : ℕ) (seg : Seg) (a : AckVerdict) → R (taken e tick q seg a)
taken_none e tick q seg Stray = refl
taken_none e tick q seg TooFar = refl
taken_none e tick q seg Good =
    let acked : Endpoint = after_ack e tick (place_of_ack e seg) q (seg_len seg) (offered_window e.scaling seg) in
    heard_none (is_heard seg) (after_data acked tick (wnd e) q seg)

bare_none : (e : Endpoint) (tick : ℕ) (seg : Seg) (a : AckVerdict) → R (bare_ack e tick seg a)
bare_none e tick seg Stray = refl
bare_none e tick seg TooFar = refl
bare_none e tick seg Good = refl

verdict_none : (e : Endpoint) (tick : ℕ) (seg : Seg) (d : Verdict) → R (by_verdict e tick seg d)
verdict_none e tick seg Dropped = refl
verdict_none e tick seg Answered = refl
verdict_none e tick seg Reset = refl
verdict_none e tick seg BareAck = on_cond R (is_ack seg) _ _ (λ t. bare_none e tick seg _) (λ f. refl)
verdict_none e tick seg (Taken q) = taken_none e tick q seg _

syn_sent_none : (e : Endpoint) (seg : Seg) → R (rx_syn_sent e seg)
unfolding rx_syn_sent
syn_sent_none e seg =
    on_cond R (is_ack seg && not (eqb (place_of_ack e seg) 1 && leb 1 e.tx.max)) _ _
    (λ t. on_cond G (is_rst seg) replies.Nothing (resets seg.head.ack) (λ u. refl) (λ u. refl))
    (λ f. on_cond R (is_rst seg) _ _ (λ t. refl)
    (λ g. on_cond R (is_syn seg && is_ack seg) _ _ (λ t. refl) (λ h. refl)))

rx_in_none : (ph : Phase) (e : Endpoint) (tick : ℕ) (seg : Seg) → R (rx_in ph e tick seg)
unfolding rx_later
rx_in_none phases.Closed e tick seg = stray_none seg
rx_in_none phases.SynSent e tick seg = syn_sent_none e seg
rx_in_none _ e tick seg = verdict_none e tick seg (verdict e seg)

accept_none : (e : Endpoint) (c : Column) → L (accept_in c e)
accept_none e Running = refl
accept_none e Opening = tt
accept_none e (Over why) = tt

ready_none : (e : Endpoint) (c : Column) → R (ready_in c e)
ready_none e Running = refl
ready_none e Opening = refl
ready_none e (Over why) = refl

send_none : (e : Endpoint) (c : Column) (offered : ℕ) (bytes : List ℕ) → L (send_in c e offered bytes)
send_none e Opening offered bytes = refl
send_none e (Over why) offered bytes = refl
send_none e Running offered bytes =
    on_cond L e.tx.shut _ _ (λ t. refl)
    (λ f. on_cond L (eqb (min offered (send_room e)) 0 && not (eqb offered 0)) _ _ (λ t. refl)
    (λ g. on_cond L (eqb (length bytes) (min offered (send_room e))) _ _ (λ t. refl) (λ h. tt)))

shut_none : (e : Endpoint) (c : Column) → R (shut_in c e)
shut_none e Opening = refl
shut_none e (Over why) = refl
shut_none e Running = on_cond R e.tx.shut _ _ (λ t. refl) (λ f. refl)

close_none : (e : Endpoint) (c : Column) → R (close_in c e)
close_none e Opening = refl
close_none e (Over why) = refl
close_none e Running = refl

told_none : (e : Endpoint) → G (abort_reply e)
told_none e = on_cond G (tells_abort (phase e)) _ _ (λ t. refl) (λ f. refl)

abort_none : (e : Endpoint) (c : Column) → R (abort_in c e)
abort_none e Opening = told_none e
abort_none e (Over why) = refl
abort_none e Running = told_none e

emit_none : (o : Option Going) → L (emitted o)
emit_none None = tt
emit_none (Some x) = refl

ticked_none : (e : Endpoint) → R (ticked e)
ticked_none e =
    on_cond R (not (is_armed e.tx)) _ _ (λ t. refl)
    (λ f. on_cond R (ltb (e.tx.age + 1) (patience e)) _ _ (λ t. refl)
    (λ g. on_cond R (eqb (e.tx.tries + 1) 9) _ _ (λ t. refl)
    (λ h. on_cond R (probes e) _ _ (λ t. refl) (λ k. refl))))

tick_none : (ph : Phase) (e : Endpoint) (tick : ℕ) → L (tick_in ph e tick)
tick_none phases.Closed e tick = tt
tick_none phases.TimeWait e tick =
    on_cond R (leb (4 * e.params.rto) (tick - e.entered)) _ _ (λ t. refl) (λ f. refl)
tick_none _ e tick = ticked_none e

control_none : (e : Endpoint) (c : Column) → L (control_in c e)
unfolding control
control_none e Running = refl
control_none e Opening = tt
control_none e (Over why) = tt

abbrev pub IsNoRecv : Call → Type 0
IsNoRecv (calls.Recv most) = ⊥
IsNoRecv _ = Unit {0}

step_none : (e : Endpoint) (tick : ℕ) (call : Call) (reply : Reply) → IsNoRecv call → L (step e tick call reply)
unfolding step going ticks rx
step_none e tick (calls.Connect iss) reply kind = tt
step_none e tick (calls.Passive frame iss seg) reply kind = tt
step_none e tick (calls.Rx frame seg) reply kind = rx_in_none (phase e) e tick seg
step_none e tick calls.Emit reply kind = emit_none (going_in (column e) e)
step_none e tick calls.Tick reply kind = tick_none (phase e) (record e { rate = filled e.rate }) tick
step_none e tick calls.Control reply kind = control_none e (column e)
step_none e tick calls.Accept reply kind = accept_none e (column e)
step_none e tick calls.Ready reply kind = ready_none e (column e)
step_none e tick (calls.Send offered) reply kind = send_none e (column e) offered (taken_bytes reply)
step_none e tick (calls.Recv most) reply kind = absurd kind
step_none e tick calls.Shut reply kind = shut_none e (column e)
step_none e tick calls.Close reply kind = close_none e (column e)
step_none e tick calls.Abort reply kind = abort_none e (column e)

gives_none : (o : Option Outcome) (reply : Reply) → Gives o reply → L o → G reply
gives_none None reply gives l = absurd gives
gives_none (Some o) reply gives l = subst G gives l

pub others_give_none : (params : HostParams) (h : List Entry) (x : Entry) → MayFollow params h x → IsNoRecv x.call
    → given_bytes x.reply ≡ []
others_give_none params h x may kind =
    gives_none (step (replay params h) x.tick x.call x.reply) x.reply may.step
    (step_none (replay params h) x.tick x.call x.reply kind)

-- ----- Recv
abbrev Few : (most : ℕ) → Reply → Type 0
Few most r = length (given_bytes r) ≤ most

empty_few : (most : ℕ) (why : Option Reason) (ended : Bool) → Few most (empty_reply why ended)
empty_few most (Some why) true = omega arith
empty_few most (Some why) false = omega arith
empty_few most None true = omega arith
empty_few most None false = omega arith

open_few : (e : Endpoint) (most : ℕ) → Few most (recv_open e most).reply
open_few e most =
    on_cond (λ (o : Outcome). Few most o.reply) (eqb (unread e.rx) 0) _ _ (λ t. empty_few most e.reason e.rx.ended)
    (λ f. omega (arith, length-take (min most (unread e.rx)) (drop e.rx.read e.rx.got)))

recv_few : (c : Column) (e : Endpoint) (most : ℕ) → Few most (recv_in c e most).reply
recv_few Opening e most = omega arith
recv_few Running e most = open_few e most
recv_few (Over reasons.Done) e most = open_few e most
recv_few (Over reasons.Reset) e most = omega arith
recv_few (Over reasons.Refused) e most = omega arith
recv_few (Over reasons.TimedOut) e most = omega arith
recv_few (Over reasons.Aborted) e most = omega arith

recv_step : (e : Endpoint) (tick most : ℕ) (reply : Reply) → Gives (step e tick (calls.Recv most) reply) reply
    → Few most reply
unfolding step
recv_step e tick most reply gives = subst (Few most) gives (recv_few (column e) e most)

-- the most bytes that a call may ask for
abbrev pub AsksAtMost : (most : ℕ) → Call → Type 0
AsksAtMost most (calls.Recv asked) = asked ≤ most
AsksAtMost most _ = Unit {0}

pub gives_few : (params : HostParams) (h : List Entry) (x : Entry) (most : ℕ) → MayFollow params h x
    → AsksAtMost most x.call → length (given_bytes x.reply) ≤ most
gives_few params h x most may asks = by_call x.call asks may.step (λ kind. others_give_none params h x may kind) where
  none_few : (reply : Reply) → given_bytes reply ≡ [] → Few most reply
  none_few reply none = subst (λ (bs : List ℕ). length bs ≤ most) (sym none) (omega arith)

  by_call : (call : Call) → AsksAtMost most call
      → Gives (step (replay params h) x.tick call x.reply) x.reply → (IsNoRecv call → given_bytes x.reply ≡ [])
      → Few most x.reply
  by_call (calls.Recv asked) asks gives none =
      let few : length (given_bytes x.reply) ≤ asked = recv_step (replay params h) x.tick asked x.reply gives in
      omega (arith, few, asks)
  by_call (calls.Connect iss) asks gives none = none_few x.reply (none tt)
  by_call (calls.Passive frame iss seg) asks gives none = none_few x.reply (none tt)
  by_call (calls.Rx frame seg) asks gives none = none_few x.reply (none tt)
  by_call (calls.Send offered) asks gives none = none_few x.reply (none tt)
  by_call calls.Emit asks gives none = none_few x.reply (none tt)
  by_call calls.Tick asks gives none = none_few x.reply (none tt)
  by_call calls.Control asks gives none = none_few x.reply (none tt)
  by_call calls.Accept asks gives none = none_few x.reply (none tt)
  by_call calls.Ready asks gives none = none_few x.reply (none tt)
  by_call calls.Shut asks gives none = none_few x.reply (none tt)
  by_call calls.Close asks gives none = none_few x.reply (none tt)
  by_call calls.Abort asks gives none = none_few x.reply (none tt)
