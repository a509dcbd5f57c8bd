-- An endpoint that is closed because both sides were done has taken its peer's FIN.
use Rattle.std.proofs.Common.{◌≡◌, ℕ, ◌+◌, ◌-◌, ◌*◌, ◌&&◌, not, Bool, true, false, List}
use Rattle.std.proofs.Common.{length, min, max, Option, Some, None, refl, sym, subst, ap, ◌∙◌, true≢false, eqb, ltb}
use Rattle.std.proofs.Common.{leb}
use Rattle.std.proofs.Common.{if◌then◌else◌}
use Rattle.tas_model.proofs.Tests.{on_cond}
use Rattle.tas_model.specs.declared.entry.HostParams.{HostParams}
use Rattle.tas_model.specs.declared.entry.Entry.{Entry}
use Rattle.tas_model.specs.declared.entry.Reason.{Reason}
use Rattle.tas_model.specs.declared.entry.Reason.TheVariants as reasons
use Rattle.tas_model.specs.declared.entry.Phase.{Phase}
use Rattle.tas_model.specs.declared.entry.Phase.TheVariants as phases
use Rattle.tas_model.specs.declared.entry.Call.{Call}
use Rattle.tas_model.specs.declared.entry.Call.TheVariants as calls
use Rattle.tas_model.specs.declared.entry.Seg.{Seg}
use Rattle.tas_model.specs.declared.entry.Reply.{Reply}
use Rattle.tas_model.specs.Endpoint.{Endpoint, Receiving, phase, phase_by, is_fin_acked, wnd}
use Rattle.tas_model.specs.Endpoint.{unread, send_room, next_place}
use Rattle.tas_model.specs.Segments.{offered_window, Outcome, unchanged, is_fin, is_ack, is_rst, is_syn, seg_len, acks}
use Rattle.tas_model.specs.Reassembly.{with_data, with_part, trimmed}
use Rattle.tas_model.specs.Receive.{rx, rx_in, rx_later, rx_syn_sent, by_verdict, verdict, Verdict, Dropped, Answered}
use Rattle.tas_model.specs.Receive.{Reset, BareAck, Taken, AckVerdict, Stray, TooFar, Good, ack_verdict, taken}
use Rattle.tas_model.specs.Receive.{bare_ack}
use Rattle.tas_model.specs.Receive.{after_ack, after_data, takes_fin, place_of_ack, closes, sending_after}
use Rattle.tas_model.specs.ApplicationCalls.{Column, Opening, Over, Running, column, accept_in, ready_in, send_in}
use Rattle.tas_model.specs.ApplicationCalls.{recv_in, recv_open, recv_given, shut_in, close_in, abort_in}
use Rattle.tas_model.specs.NextSegment.{going, going_in, emitted, waiting, data_len}
use Rattle.tas_model.specs.Timers.{ticks, tick_in, ticked, expired, waited, is_armed, patience, probes, filled, control}
use Rattle.tas_model.specs.LegalHistory.{step, control_in, state_or, replay, opened, taken_bytes, Legal}
use Rattle.tas_model.proofs.Histories.{legal_induction, replay_push, replay_first}

-- closed because both sides were done, it has taken the peer's FIN
abbrev pub HasEnded : Endpoint → Type 0
HasEnded e = e.reason ≡ Some reasons.Done → e.rx.ended ≡ true

abbrev Keeps : Endpoint → Endpoint → Type 0
Keeps e f = HasEnded e → HasEnded f

abbrev Leaves : Endpoint → Option Outcome → Type 0
Leaves e o = Keeps e (state_or e o)

-- ----- phases
-- the peer's FIN was taken
abbrev is_ended_phase : Phase → Bool
is_ended_phase phases.LastAck = true
is_ended_phase phases.TimeWait = true
is_ended_phase p = false

synchronized_ended : (z s f d k : Bool)
    → is_ended_phase (if z then phases.SynReceived
    else if s then (
    if d then (if k then phases.LastAck else if f then phases.TimeWait else phases.Closing)
    else if f then phases.FinWait2 else phases.FinWait1)
    else if d then phases.CloseWait else phases.Established) ≡ true → d ≡ true
synchronized_ended z s f true k h = refl
synchronized_ended true s f false k h = absurd (true≢false (sym h))
synchronized_ended false true true false k h = absurd (true≢false (sym h))
synchronized_ended false true false false k h = absurd (true≢false (sym h))
synchronized_ended false false f false k h = absurd (true≢false (sym h))

phase_ended : (r : Option Reason) (p : Option ℕ) (una : ℕ) (s f d k : Bool)
    → is_ended_phase (phase_by r p una s f d k) ≡ true → d ≡ true
phase_ended (Some why) p una s f d k h = absurd (true≢false (sym h))
phase_ended None None una s f d k h = absurd (true≢false (sym h))
phase_ended None (Some first) una s f d k h = synchronized_ended (eqb una 0) s f d k h

ended_in : (e : Endpoint) → is_ended_phase (phase e) ≡ true → e.rx.ended ≡ true
ended_in e h =
    phase_ended e.reason e.peer e.tx.una e.tx.shut (is_fin_acked e.tx) e.rx.ended e.rx.ended_first h

-- ----- a segment
ack_keeps : (e : Endpoint) (tick a q len window : ℕ) → Keeps e (after_ack e tick a q len window)
ack_keeps e tick a q len window has = by_closing (closes (phase e) (sending_after e.tx a q len window)) refl
  where
    by_closing : (b : Bool) → closes (phase e) (sending_after e.tx a q len window) ≡ b
        → (if b then Some reasons.Done else e.reason) ≡ Some reasons.Done → e.rx.ended ≡ true
    by_closing true is done = ended_in e (closes_is (phase e) is)
      where
        closes_is : (p : Phase) → closes p (sending_after e.tx a q len window) ≡ true → is_ended_phase p ≡ true
        closes_is phases.LastAck h = refl
        closes_is phases.TimeWait h = refl
        closes_is phases.SynSent h = absurd (true≢false (sym h))
        closes_is phases.SynReceived h = absurd (true≢false (sym h))
        closes_is phases.Established h = absurd (true≢false (sym h))
        closes_is phases.FinWait1 h = absurd (true≢false (sym h))
        closes_is phases.FinWait2 h = absurd (true≢false (sym h))
        closes_is phases.CloseWait h = absurd (true≢false (sym h))
        closes_is phases.Closing h = absurd (true≢false (sym h))
        closes_is phases.Closed h = absurd (true≢false (sym h))
    by_closing false is done = has done

-- after the FIN nothing is received
data_ended : (rx : Receiving) (window q : ℕ) (payload : List ℕ) → rx.ended ≡ true
    → (with_data rx window q payload).ended ≡ true
data_ended rx window q payload is =
    on_cond (λ (r : Receiving). r.ended ≡ true) rx.ended rx
    (with_part rx (max q (next_place rx) - 1) (trimmed (next_place rx) window q payload))
    (λ t. is) (λ f. absurd (true≢false (sym is ∙ f)))

data_keeps : (e : Endpoint) (tick window q : ℕ) (seg : Seg) → Keeps e (after_data e tick window q seg)
data_keeps e tick window q seg has =
    on_cond HasEnded
    (takes_fin e.rx (with_data e.rx window q seg.bytes) window q (length seg.bytes) (is_fin seg)) _ _
    (λ t done. refl) (λ f done. data_ended e.rx window q seg.bytes (has done))

taken_keeps : (e : Endpoint) (tick q : ℕ) (seg : Seg) (v : AckVerdict) → Keeps e (taken e tick q seg v).state
taken_keeps e tick q seg Stray has = has
taken_keeps e tick q seg TooFar has = has
taken_keeps e tick q seg Good has =
    data_keeps (after_ack e tick (place_of_ack e seg) q (seg_len seg) (offered_window e.scaling seg)) tick (wnd e) q seg
    (ack_keeps e tick (place_of_ack e seg) q (seg_len seg) (offered_window e.scaling seg) has)

bare_keeps : (e : Endpoint) (tick : ℕ) (seg : Seg) (v : AckVerdict) → Keeps e (bare_ack e tick seg v).state
bare_keeps e tick seg Stray has = has
bare_keeps e tick seg TooFar has = has
bare_keeps e tick seg Good has =
    ack_keeps e tick (place_of_ack e seg) (next_place e.rx) (seg_len seg) (offered_window e.scaling seg) has

verdict_keeps : (e : Endpoint) (tick : ℕ) (seg : Seg) (v : Verdict) → Keeps e (by_verdict e tick seg v).state
verdict_keeps e tick seg Dropped has = has
verdict_keeps e tick seg Answered has = has
verdict_keeps e tick seg Reset has = λ done. absurd (cc (done))
verdict_keeps e tick seg BareAck has =
    on_cond (λ (o : Outcome). HasEnded o.state) (is_ack seg) _ (unchanged e (acks e))
    (λ t. bare_keeps e tick seg (ack_verdict e.tx (place_of_ack e seg)) has) (λ f. has)
verdict_keeps e tick seg (Taken q) has = taken_keeps e tick q seg (ack_verdict e.tx (place_of_ack e seg)) has

later_keeps : (e : Endpoint) (tick : ℕ) (seg : Seg) → Keeps e (rx_later e tick seg).state
unfolding rx_later
later_keeps e tick seg has = verdict_keeps e tick seg (verdict e seg) has

syn_sent_keeps : (e : Endpoint) (seg : Seg) → Keeps e (rx_syn_sent e seg).state
unfolding rx_syn_sent
syn_sent_keeps e seg has =
    on_cond (λ (o : Outcome). HasEnded o.state)
    (is_ack seg && not (eqb (place_of_ack e seg) 1 && leb 1 e.tx.max)) _ _ (λ t. has)
    (λ f. on_cond (λ (o : Outcome). HasEnded o.state) (is_rst seg) _ _
    (λ t. on_cond HasEnded (is_ack seg) _ e (λ u done. absurd (cc (done))) (λ u. has))
    (λ g. on_cond (λ (o : Outcome). HasEnded o.state) (is_syn seg && is_ack seg) _ _ (λ t. has) (λ h. has)))

rx_keeps : (p : Phase) (e : Endpoint) (tick : ℕ) (seg : Seg) → Keeps e (rx_in p e tick seg).state
rx_keeps phases.Closed e tick seg has = has
rx_keeps phases.SynSent e tick seg has = syn_sent_keeps e seg has
rx_keeps _ e tick seg has = later_keeps e tick seg has

-- ----- time
expired_keeps : (e : Endpoint) → Keeps e (expired e).state
expired_keeps e has =
    on_cond (λ (o : Outcome). HasEnded o.state) (eqb (e.tx.tries + 1) 9) _ _ (λ t done. absurd (cc (done)))
    (λ f. on_cond (λ (o : Outcome). HasEnded o.state) (probes e) _ _ (λ t. has) (λ g. has))

ticked_keeps : (e : Endpoint) → Keeps e (ticked e).state
ticked_keeps e has =
    on_cond (λ (o : Outcome). HasEnded o.state) (not (is_armed e.tx)) _ _ (λ t. has)
    (λ f. on_cond (λ (o : Outcome). HasEnded o.state) (ltb (e.tx.age + 1) (patience e)) _ (expired e) (λ t. has)
    (λ g. expired_keeps e has))

waited_keeps : (e : Endpoint) (tick : ℕ) → e.rx.ended ≡ true → HasEnded (waited e tick).state
waited_keeps e tick is =
    on_cond (λ (o : Outcome). HasEnded o.state) (leb (4 * e.params.rto) (tick - e.entered)) _ _ (λ t done. is)
    (λ f done. is)

tick_keeps : (p : Phase) (e : Endpoint) (tick : ℕ) → phase e ≡ p
    → Leaves e (tick_in p (record e { rate = filled e.rate }) tick)
tick_keeps phases.Closed e tick is has = has
tick_keeps phases.TimeWait e tick is has =
    waited_keeps (record e { rate = filled e.rate }) tick (ended_in e (ap is_ended_phase is))
tick_keeps _ e tick is has = ticked_keeps (record e { rate = filled e.rate }) has

control_keeps : (e : Endpoint) (c : Column) → Leaves e (control_in c e)
unfolding control
control_keeps e Running has = has
control_keeps e Opening has = has
control_keeps e (Over why) has = has

-- ----- what goes
going_keeps : (e : Endpoint) (c : Column) → Leaves e (emitted (going_in c e))
going_keeps e Opening has =
    on_cond (λ g. HasEnded (state_or e (emitted g))) (eqb e.tx.nxt 0) _ None (λ t. has) (λ f. has)
going_keeps e (Over why) has = has
going_keeps e Running has =
    on_cond (λ g. HasEnded (state_or e (emitted g))) (ltb 0 (data_len e)) _ _ (λ t. has)
    (λ f. on_cond (λ g. HasEnded (state_or e (emitted g)))
    (e.tx.probe && eqb e.tx.window 0 && eqb e.tx.nxt e.tx.una && ltb 0 (waiting e.tx)) _ _ (λ t. has)
    (λ g. on_cond (λ g. HasEnded (state_or e (emitted g))) (e.tx.shut && eqb e.tx.nxt (1 + length e.tx.out)) _ None
    (λ t. has) (λ k. has)))

-- ----- applications
accept_keeps : (e : Endpoint) (c : Column) → Leaves e (accept_in c e)
accept_keeps e Running has = has
accept_keeps e Opening has = has
accept_keeps e (Over why) has = has

ready_keeps : (e : Endpoint) (c : Column) → Keeps e (ready_in c e).state
ready_keeps e Running has = has
ready_keeps e Opening has = has
ready_keeps e (Over why) has = has

send_keeps : (e : Endpoint) (c : Column) (offered : ℕ) (bytes : List ℕ) → Leaves e (send_in c e offered bytes)
send_keeps e Opening offered bytes has = has
send_keeps e (Over why) offered bytes has = has
send_keeps e Running offered bytes has =
    on_cond (λ o. HasEnded (state_or e o)) e.tx.shut _ _ (λ t. has)
    (λ f. on_cond (λ o. HasEnded (state_or e o)) (eqb (min offered (send_room e)) 0 && not (eqb offered 0)) _ _
    (λ t. has)
    (λ g. on_cond (λ o. HasEnded (state_or e o)) (eqb (length bytes) (min offered (send_room e))) _ None (λ t. has)
    (λ k. has)))

open_keeps : (e : Endpoint) (most : ℕ) → Keeps e (recv_open e most).state
open_keeps e most has =
    on_cond (λ (o : Outcome). HasEnded o.state) (eqb (unread e.rx) 0) _ (recv_given e most) (λ t. has) (λ f. has)

recv_keeps : (e : Endpoint) (c : Column) (most : ℕ) → Keeps e (recv_in c e most).state
recv_keeps e Opening most has = has
recv_keeps e (Over reasons.Done) most has = open_keeps e most has
recv_keeps e (Over reasons.Reset) most has = has
recv_keeps e (Over reasons.Refused) most has = has
recv_keeps e (Over reasons.TimedOut) most has = has
recv_keeps e (Over reasons.Aborted) most has = has
recv_keeps e Running most has = open_keeps e most has

shut_keeps : (e : Endpoint) (c : Column) → Keeps e (shut_in c e).state
shut_keeps e Opening has = has
shut_keeps e (Over why) has = has
shut_keeps e Running has =
    on_cond (λ (o : Outcome). HasEnded o.state) e.tx.shut _ _ (λ t. has) (λ f. has)

close_keeps : (e : Endpoint) (c : Column) → Keeps e (close_in c e).state
close_keeps e Opening has = λ done. absurd (cc (done))
close_keeps e (Over why) has = has
close_keeps e Running has = has

abort_keeps : (e : Endpoint) (c : Column) → Keeps e (abort_in c e).state
abort_keeps e Opening has = λ done. absurd (cc (done))
abort_keeps e (Over why) has = has
abort_keeps e Running has = λ done. absurd (cc (done))

-- ----- every step
step_keeps : (e : Endpoint) (tick : ℕ) (call : Call) (reply : Reply) → Leaves e (step e tick call reply)
unfolding step going ticks rx
step_keeps e tick (calls.Connect iss) reply has = has
step_keeps e tick (calls.Passive frame iss seg) reply has = has
step_keeps e tick (calls.Rx frame seg) reply has = rx_keeps (phase e) e tick seg has
step_keeps e tick calls.Emit reply has = going_keeps e (column e) has
step_keeps e tick calls.Tick reply has = tick_keeps (phase e) e tick refl has
step_keeps e tick calls.Control reply has = control_keeps e (column e) has
step_keeps e tick calls.Accept reply has = accept_keeps e (column e) has
step_keeps e tick calls.Ready reply has = ready_keeps e (column e) has
step_keeps e tick (calls.Send offered) reply has = send_keeps e (column e) offered (taken_bytes reply) has
step_keeps e tick (calls.Recv most) reply has = recv_keeps e (column e) most has
step_keeps e tick calls.Shut reply has = shut_keeps e (column e) has
step_keeps e tick calls.Close reply has = close_keeps e (column e) has
step_keeps e tick calls.Abort reply has = abort_keeps e (column e) has

opened_open : (params : HostParams) (call : Call) → HasEnded (opened params call)
opened_open params (calls.Connect iss) done = absurd (cc (done))
opened_open params (calls.Passive frame iss seg) done = absurd (cc (done))
opened_open params _ done = absurd (cc (done))

-- Every history leads to an endpoint that has taken its peer's FIN where both sides were done.
pub done_has_ended : (params : HostParams) (h : List Entry) → Legal params h → HasEnded (replay params h)
done_has_ended params h legal =
    legal_induction params (λ (es : List Entry). HasEnded (replay params es))
    (λ x first. subst HasEnded (sym (replay_first params x)) (opened_open params x.call))
    (λ es x before has may. subst HasEnded (sym (replay_push params es x before))
    (step_keeps (replay params es) x.tick x.call x.reply has))
    h legal
