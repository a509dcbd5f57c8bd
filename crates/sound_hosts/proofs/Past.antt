-- An endpoint that is past its opening stays so: for the law calls_lead_on.
use Rattle.std.proofs.Common.{◌≡◌, ℕ, ◌+◌, ◌<◌, ◌≤◌, ◌&&◌, not, Bool, true, false, Option, Some, None}
use Rattle.std.proofs.Common.{IsSome}
use Rattle.std.proofs.Common.{◌*◌, ◌-◌, refl, sym, ap, ◌∙◌, arith, eqb, ltb, leb, length, true≢false, min, List}
use Rattle.std.proofs.Common.{if◌then◌else◌}
use Rattle.std.proofs.lemmas.Bool.Decides.{nat_tests}
use Rattle.tas_model.specs.declared.entry.Reason.{Reason}
use Rattle.tas_model.specs.declared.entry.Reason.TheVariants as reasons
use Rattle.tas_model.specs.declared.entry.Phase.{Phase}
use Rattle.tas_model.specs.declared.entry.Phase.TheVariants as phases
use Rattle.tas_model.specs.declared.entry.Call.{Call}
use Rattle.tas_model.specs.declared.entry.Call.TheVariants as calls
use Rattle.tas_model.specs.declared.entry.Reply.{Reply}
use Rattle.tas_model.specs.declared.entry.Seg.{Seg}
use Rattle.tas_model.specs.Endpoint.{Endpoint, Sending, phase, phase_by, is_fin_acked, next_place, wnd, unread}
use Rattle.tas_model.specs.Endpoint.{send_room}
use Rattle.tas_model.specs.Segments.{offered_window, Outcome, unchanged, is_ack, acks, seg_len, is_fin}
use Rattle.tas_model.specs.Reassembly.{with_data}
use Rattle.tas_model.specs.Receive.{rx, rx_in, rx_later, verdict, Verdict, Dropped, Answered, Reset}
use Rattle.tas_model.specs.Receive.{BareAck}
use Rattle.tas_model.specs.Receive.{Taken, AckVerdict, Stray, TooFar, Good, ack_verdict, place_of_ack, bare_ack, taken}
use Rattle.tas_model.specs.Receive.{by_verdict, after_ack, after_data, after_duplicate, after_advance, is_duplicate}
use Rattle.tas_model.specs.Receive.{moves_window, sending_after, takes_fin}
use Rattle.tas_model.specs.ApplicationCalls.{Column, Opening, Over, Running, column, accept_in, ready_in, send_in}
use Rattle.tas_model.specs.ApplicationCalls.{recv_in}
use Rattle.tas_model.specs.ApplicationCalls.{recv_open, recv_given, shut_in, close_in, abort_in}
use Rattle.tas_model.specs.NextSegment.{going, going_in, emitted, data_len, waiting}
use Rattle.tas_model.specs.Timers.{ticks, tick_in, filled, ticked, expired, waited, is_armed, patience, probes, control}
use Rattle.tas_model.specs.LegalHistory.{step, state_or, control_in, taken_bytes}
use Rattle.tas_model.proofs.Tests.{on_cond}

-- the peer's SYN was taken, and the own one is acknowledged
abbrev pub IsPast : Endpoint → Type 0
IsPast x = IsSome x.peer × (1 ≤ x.tx.una)

abbrev StaysPast : Endpoint → Option Outcome → Type 0
StaysPast e o = IsPast (state_or e o)

-- ----- a segment
sending_past : (tx : Sending) (a q len window : ℕ) → 1 ≤ tx.una → 1 ≤ (sending_after tx a q len window).una
sending_past tx a q len window most =
    let P : Sending → Type 0 = λ x. 1 ≤ x.una in
    let duplicate : P (after_duplicate tx a len window) =
    on_cond P (is_duplicate tx a len window) _ tx (λ t. most) (λ f. most) in
    let advance : P (after_advance (after_duplicate tx a len window) a) =
    on_cond P (ltb (after_duplicate tx a len window).una a) _ (after_duplicate tx a len window)
    (λ t. let lower : (after_duplicate tx a len window).una < a = grind (arith, nat_tests, t) in omega (arith, lower))
    (λ f. duplicate) in
    on_cond P (moves_window tx a q) _ (after_advance (after_duplicate tx a len window) a) (λ t. advance) (λ f. advance)

ack_past : (e : Endpoint) (tick a q len window : ℕ) → IsPast e → IsPast (after_ack e tick a q len window)
ack_past e tick a q len window past = (past.0, sending_past e.tx a q len window past.1)

data_past : (e : Endpoint) (tick window q : ℕ) (seg : Seg) → IsPast e → IsPast (after_data e tick window q seg)
data_past e tick window q seg past =
    on_cond IsPast (takes_fin e.rx (with_data e.rx window q seg.bytes) window q (length seg.bytes) (is_fin seg)) _ _
    (λ t. past) (λ f. past)

taken_past : (e : Endpoint) (tick q : ℕ) (seg : Seg) (v : AckVerdict) → IsPast e → IsPast (taken e tick q seg v).state
taken_past e tick q seg Stray past = past
taken_past e tick q seg TooFar past = past
taken_past e tick q seg Good past =
    data_past (after_ack e tick (place_of_ack e seg) q (seg_len seg) (offered_window e.scaling seg)) tick (wnd e) q seg
    (ack_past e tick (place_of_ack e seg) q (seg_len seg) (offered_window e.scaling seg) past)

bare_past : (e : Endpoint) (tick : ℕ) (seg : Seg) (v : AckVerdict) → IsPast e → IsPast (bare_ack e tick seg v).state
bare_past e tick seg Stray past = past
bare_past e tick seg TooFar past = past
bare_past e tick seg Good past =
    ack_past e tick (place_of_ack e seg) (next_place e.rx) (seg_len seg) (offered_window e.scaling seg) past

verdict_past : (e : Endpoint) (tick : ℕ) (seg : Seg) (v : Verdict) → IsPast e → IsPast (by_verdict e tick seg v).state
verdict_past e tick seg Dropped past = past
verdict_past e tick seg Answered past = past
verdict_past e tick seg Reset past = past
verdict_past e tick seg BareAck past =
    on_cond (λ (o : Outcome). IsPast o.state) (is_ack seg) _ (unchanged e (acks e))
    (λ t. bare_past e tick seg (ack_verdict e.tx (place_of_ack e seg)) past) (λ f. past)
verdict_past e tick seg (Taken q) past = taken_past e tick q seg (ack_verdict e.tx (place_of_ack e seg)) past

later_past : (e : Endpoint) (tick : ℕ) (seg : Seg) → IsPast e → IsPast (rx_later e tick seg).state
unfolding rx_later
later_past e tick seg past = verdict_past e tick seg (verdict e seg) past

abbrev is_syn_sent : Phase → Bool
is_syn_sent phases.SynSent = true
is_syn_sent p = false

synchronized_not : (z s f d k : Bool)
    → is_syn_sent (if z then phases.SynReceived
    else if s then (
    if d then (if k then phases.LastAck else if f then phases.TimeWait else phases.Closing)
    else if f then phases.FinWait2 else phases.FinWait1)
    else if d then phases.CloseWait else phases.Established) ≡ false
synchronized_not true s f d k = refl
synchronized_not false true f true true = refl
synchronized_not false true true true false = refl
synchronized_not false true false true false = refl
synchronized_not false true true false k = refl
synchronized_not false true false false k = refl
synchronized_not false false f true k = refl
synchronized_not false false f false k = refl

past_not : (r : Option Reason) (p : Option ℕ) (una : ℕ) (s f d k : Bool) → IsSome p
    → is_syn_sent (phase_by r p una s f d k) ≡ false
past_not (Some why) p una s f d k some = refl
past_not None None una s f d k some = absurd (true≢false (sym some))
past_not None (Some first) una s f d k some = synchronized_not (eqb una 0) s f d k

not_syn_sent : (e : Endpoint) → IsPast e → phase e ≡ phases.SynSent → ⊥
not_syn_sent e past is =
    true≢false (sym (ap is_syn_sent is)
    ∙ past_not e.reason e.peer e.tx.una e.tx.shut (is_fin_acked e.tx) e.rx.ended e.rx.ended_first past.0)

rx_past : (e : Endpoint) (tick : ℕ) (seg : Seg) → IsPast e → IsPast (rx e tick seg).state
unfolding rx
rx_past e tick seg past = by_phase (phase e) refl
  where
    by_phase : (p : Phase) → phase e ≡ p → IsPast (rx_in p e tick seg).state
    by_phase phases.Closed is = past
    by_phase phases.SynSent is = absurd (not_syn_sent e past is)
    by_phase _ is = later_past e tick seg past

-- ----- time
expired_past : (e : Endpoint) → IsPast e → IsPast (expired e).state
expired_past e past =
    on_cond (λ (o : Outcome). IsPast o.state) (eqb (e.tx.tries + 1) 9) _ _ (λ t. past)
    (λ f. on_cond (λ (o : Outcome). IsPast o.state) (probes e) _ _ (λ t. past) (λ g. past))

ticked_past : (e : Endpoint) → IsPast e → IsPast (ticked e).state
ticked_past e past =
    on_cond (λ (o : Outcome). IsPast o.state) (not (is_armed e.tx)) _ _ (λ t. past)
    (λ f. on_cond (λ (o : Outcome). IsPast o.state) (ltb (e.tx.age + 1) (patience e)) _ (expired e) (λ t. past)
    (λ g. expired_past e past))

waited_past : (e : Endpoint) (tick : ℕ) → IsPast e → IsPast (waited e tick).state
waited_past e tick past =
    on_cond (λ (o : Outcome). IsPast o.state) (leb (4 * e.params.rto) (tick - e.entered)) _ _ (λ t. past) (λ f. past)

tick_past : (p : Phase) (e : Endpoint) (tick : ℕ) → IsPast e
    → StaysPast e (tick_in p (record e { rate = filled e.rate }) tick)
tick_past phases.Closed e tick past = past
tick_past phases.TimeWait e tick past = waited_past (record e { rate = filled e.rate }) tick past
tick_past _ e tick past = ticked_past (record e { rate = filled e.rate }) past

control_past : (e : Endpoint) (c : Column) → IsPast e → StaysPast e (control_in c e)
unfolding control
control_past e Running past = past
control_past e Opening past = past
control_past e (Over why) past = past

-- ----- what goes
going_past : (e : Endpoint) (c : Column) → IsPast e → StaysPast e (emitted (going_in c e))
going_past e Opening past =
    on_cond (λ g. StaysPast e (emitted g)) (eqb e.tx.nxt 0) _ None (λ t. past) (λ f. past)
going_past e (Over why) past = past
going_past e Running past =
    on_cond (λ g. StaysPast e (emitted g)) (ltb 0 (data_len e)) _ _ (λ t. past)
    (λ f. on_cond (λ g. StaysPast e (emitted g))
    (e.tx.probe && eqb e.tx.window 0 && eqb e.tx.nxt e.tx.una && ltb 0 (waiting e.tx)) _ _ (λ t. past)
    (λ g. on_cond (λ g. StaysPast e (emitted g)) (e.tx.shut && eqb e.tx.nxt (1 + length e.tx.out)) _ None (λ t. past)
    (λ k. past)))

-- ----- applications
accept_past : (e : Endpoint) (c : Column) → IsPast e → StaysPast e (accept_in c e)
accept_past e Running past = past
accept_past e Opening past = past
accept_past e (Over why) past = past

ready_past : (e : Endpoint) (c : Column) → IsPast e → IsPast (ready_in c e).state
ready_past e Running past = past
ready_past e Opening past = past
ready_past e (Over why) past = past

send_past : (e : Endpoint) (c : Column) (offered : ℕ) (bytes : List ℕ) → IsPast e
    → StaysPast e (send_in c e offered bytes)
send_past e Opening offered bytes past = past
send_past e (Over why) offered bytes past = past
send_past e Running offered bytes past =
    on_cond (StaysPast e) e.tx.shut _ _ (λ t. past)
    (λ f. on_cond (StaysPast e) (eqb (min offered (send_room e)) 0 && not (eqb offered 0)) _ _ (λ t. past)
    (λ g. on_cond (StaysPast e) (eqb (length bytes) (min offered (send_room e))) _ None (λ t. past) (λ k. past)))

open_past : (e : Endpoint) (most : ℕ) → IsPast e → IsPast (recv_open e most).state
open_past e most past =
    on_cond (λ (o : Outcome). IsPast o.state) (eqb (unread e.rx) 0) _ (recv_given e most) (λ t. past) (λ f. past)

recv_past : (e : Endpoint) (c : Column) (most : ℕ) → IsPast e → IsPast (recv_in c e most).state
recv_past e Opening most past = past
recv_past e (Over reasons.Done) most past = open_past e most past
recv_past e (Over reasons.Reset) most past = past
recv_past e (Over reasons.Refused) most past = past
recv_past e (Over reasons.TimedOut) most past = past
recv_past e (Over reasons.Aborted) most past = past
recv_past e Running most past = open_past e most past

shut_past : (e : Endpoint) (c : Column) → IsPast e → IsPast (shut_in c e).state
shut_past e Opening past = past
shut_past e (Over why) past = past
shut_past e Running past = on_cond (λ (o : Outcome). IsPast o.state) e.tx.shut _ _ (λ t. past) (λ f. past)

close_past : (e : Endpoint) (c : Column) → IsPast e → IsPast (close_in c e).state
close_past e Opening past = past
close_past e (Over why) past = past
close_past e Running past = past

abort_past : (e : Endpoint) (c : Column) → IsPast e → IsPast (abort_in c e).state
abort_past e Opening past = past
abort_past e (Over why) past = past
abort_past e Running past = past

-- ----- every step
pub step_past : (e : Endpoint) (tick : ℕ) (call : Call) (reply : Reply) → IsPast e
    → IsPast (state_or e (step e tick call reply))
unfolding step going ticks
step_past e tick (calls.Connect iss) reply past = past
step_past e tick (calls.Passive frame iss seg) reply past = past
step_past e tick (calls.Rx frame seg) reply past = rx_past e tick seg past
step_past e tick calls.Emit reply past = going_past e (column e) past
step_past e tick calls.Tick reply past = tick_past (phase e) e tick past
step_past e tick calls.Control reply past = control_past e (column e) past
step_past e tick calls.Accept reply past = accept_past e (column e) past
step_past e tick calls.Ready reply past = ready_past e (column e) past
step_past e tick (calls.Send offered) reply past = send_past e (column e) offered (taken_bytes reply) past
step_past e tick (calls.Recv most) reply past = recv_past e (column e) most past
step_past e tick calls.Shut reply past = shut_past e (column e) past
step_past e tick calls.Close reply past = close_past e (column e) past
step_past e tick calls.Abort reply past = abort_past e (column e) past
