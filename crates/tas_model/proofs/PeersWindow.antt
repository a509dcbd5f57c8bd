-- The peer's window is at most 65,535 units of its shift.
use Rattle.std.proofs.Common.{◌≡◌, ℕ, ◌-◌, ◌*◌, ◌^◌, ◌<◌, ◌≤◌, ◌+◌, Bool, true, false, cond, not, ◌&&◌, List, [], ◌∷◌}
use Rattle.std.proofs.Common.{◌++◌}
use Rattle.std.proofs.Common.{length}
use Rattle.std.proofs.Common.{min, max, Option, Some, None, refl, sym, subst, ap, ◌∙◌, arith, ltb, leb, eqb, true≢false}
use Rattle.std.proofs.lemmas.Bool.{and_parts}
use Rattle.std.proofs.lemmas.Nat.{pow_pos}
use Rattle.std.proofs.Math.Nat.{mul-le-mul_right}
use Rattle.tas_model.proofs.Tests.{on_cond}
use Rattle.tas_model.specs.declared.entry.HostParams.{HostParams}
use Rattle.tas_model.specs.declared.entry.Reason.{Reason}
use Rattle.tas_model.specs.declared.entry.Reason.TheVariants as reasons
use Rattle.tas_model.specs.declared.entry.Phase.{Phase}
use Rattle.tas_model.specs.declared.entry.Phase.TheVariants as phases
use Rattle.tas_model.specs.declared.entry.Call.{Call}
use Rattle.tas_model.specs.declared.entry.Call.TheVariants as calls
use Rattle.tas_model.specs.declared.entry.Reply.{Reply}
use Rattle.tas_model.specs.declared.entry.Entry.{Entry}
use Rattle.tas_model.specs.declared.entry.Seg.{Seg}
use Rattle.tas_model.specs.Endpoint.{Endpoint, Scaling, Sending, phase, unread, send_room, wnd, next_place}
use Rattle.tas_model.specs.Segments.{Outcome, offered_window, is_syn, is_ack, is_rst, is_fin, seg_len}
use Rattle.tas_model.specs.Reassembly.{with_data}
use Rattle.tas_model.specs.Receive.{rx, rx_in, rx_later, rx_syn_sent, connected, by_verdict, verdict, Verdict, Dropped}
use Rattle.tas_model.specs.Receive.{Answered, Reset, BareAck, Taken, AckVerdict, Stray, TooFar, Good, taken, bare_ack}
use Rattle.tas_model.specs.Receive.{after_ack, after_data, takes_fin, place_of_ack, is_duplicate, after_duplicate}
use Rattle.tas_model.specs.Receive.{after_advance, moves_window, sending_after}
use Rattle.tas_model.specs.ApplicationCalls.{Column, Opening, Over, Running, column, accept_in, ready_in, send_in}
use Rattle.tas_model.specs.ApplicationCalls.{recv_in, recv_open, shut_in, close_in, abort_in}
use Rattle.tas_model.specs.NextSegment.{Going, going, going_in, going_running, emitted, waiting, data_len}
use Rattle.tas_model.specs.Timers.{ticks, tick_in, ticked, waited, is_armed, patience, probes, filled, control}
use Rattle.tas_model.specs.LegalHistory.{step, control_in, opened, taken_bytes, state_or, replay, Legal}
use Rattle.tas_model.specs.Fields.{FitsWindow, FitWindows}
use Rattle.tas_model.proofs.Histories.{legal_induction, replay_push, replay_first}

-- ----- the bound
abbrev Bounded : (window : ℕ) → Scaling → Type 0
Bounded window s = window ≤ 65535 * 2 ^ s.ss

abbrev B : Endpoint → Type 0
B e = Bounded e.tx.window e.scaling

abbrev BO : Outcome → Type 0
BO o = B o.state

abbrev BL : Option Outcome → Type 0
BL None = Unit {0}
BL (Some o) = B o.state

bare_bounded : (window : ℕ) (s : Scaling) → window ≤ 65535 → Bounded window s
bare_bounded window s fits = let one : 0 < 2 ^ s.ss = pow_pos s.ss in omega (arith, one, fits)

offer_bounded : (s : Scaling) (seg : Seg) → seg.head.window ≤ 65535 → Bounded (offered_window s seg) s
offer_bounded s seg fits =
    on_cond (λ (n : ℕ). n ≤ 65535 * 2 ^ s.ss) (is_syn seg) seg.head.window (seg.head.window * 2 ^ s.ss)
    (λ t. bare_bounded seg.head.window s fits) (λ f. scaled seg.head.window (2 ^ s.ss) fits)
  where
    scaled : (n p : ℕ) → n ≤ 65535 → n * p ≤ 65535 * p
    scaled n p le = mul-le-mul_right p le

-- ----- a segment arrives
sending_bounded : (tx : Sending) (a q len window : ℕ) (s : Scaling) → Bounded window s → Bounded tx.window s
    → Bounded (sending_after tx a q len window).window s
sending_bounded tx a q len window s new old =
    let duplicate : Bounded (after_duplicate tx a len window).window s =
    on_cond (λ (x : Sending). Bounded x.window s) (is_duplicate tx a len window) _ tx (λ t. old) (λ f. old) in
    let advance : Bounded (after_advance (after_duplicate tx a len window) a).window s =
    on_cond (λ (x : Sending). Bounded x.window s) (ltb (after_duplicate tx a len window).una a) _
    (after_duplicate tx a len window) (λ t. duplicate) (λ f. duplicate) in
    on_cond (λ (x : Sending). Bounded x.window s) (moves_window tx a q) _
    (after_advance (after_duplicate tx a len window) a) (λ t. new) (λ f. advance)

data_bounded : (e : Endpoint) (tick window q : ℕ) (seg : Seg) → B e → B (after_data e tick window q seg)
data_bounded e tick window q seg b =
    on_cond B (takes_fin e.rx (with_data e.rx window q seg.bytes) window q (length seg.bytes) (is_fin seg)) _ _
    (λ t. b) (λ f. b)

taken_bounded : (e : Endpoint) (tick q : ℕ) (seg : Seg) (a : AckVerdict) → seg.head.window ≤ 65535 → B e
    → BO (taken e tick q seg a)
taken_bounded e tick q seg Stray fits b = b
taken_bounded e tick q seg TooFar fits b = b
taken_bounded e tick q seg Good fits b =
    data_bounded (after_ack e tick (place_of_ack e seg) q (seg_len seg) (offered_window e.scaling seg)) tick (wnd e) q
    seg (sending_bounded e.tx (place_of_ack e seg) q (seg_len seg) (offered_window e.scaling seg) e.scaling
    (offer_bounded e.scaling seg fits) b)

bare_ack_bounded : (e : Endpoint) (tick : ℕ) (seg : Seg) (a : AckVerdict) → seg.head.window ≤ 65535 → B e
    → BO (bare_ack e tick seg a)
bare_ack_bounded e tick seg Stray fits b = b
bare_ack_bounded e tick seg TooFar fits b = b
bare_ack_bounded e tick seg Good fits b =
    sending_bounded e.tx (place_of_ack e seg) (next_place e.rx) (seg_len seg) (offered_window e.scaling seg) e.scaling
    (offer_bounded e.scaling seg fits) b

heard_bounded : (e : Endpoint) (tick : ℕ) (seg : Seg) (d : Verdict) → seg.head.window ≤ 65535 → B e
    → BO (by_verdict e tick seg d)
heard_bounded e tick seg Dropped fits b = b
heard_bounded e tick seg Answered fits b = b
heard_bounded e tick seg Reset fits b = b
heard_bounded e tick seg BareAck fits b =
    on_cond BO (is_ack seg) _ _ (λ t. bare_ack_bounded e tick seg _ fits b) (λ f. b)
heard_bounded e tick seg (Taken q) fits b = taken_bounded e tick q seg _ fits b

connected_bounded : (e : Endpoint) (seg : Seg) → is_syn seg ≡ true → seg.head.window ≤ 65535 → B (connected e seg)
connected_bounded e seg syn fits =
    let s : Scaling = (connected e seg).scaling in
    subst (λ (n : ℕ). Bounded n s)
    (sym (ap (λ (t : Bool). cond t seg.head.window (seg.head.window * 2 ^ e.scaling.ss)) syn))
    (bare_bounded seg.head.window s fits)

syn_sent_bounded : (e : Endpoint) (seg : Seg) → seg.head.window ≤ 65535 → B e → BO (rx_syn_sent e seg)
unfolding rx_syn_sent
syn_sent_bounded e seg fits b =
    on_cond BO (is_ack seg && not (eqb (place_of_ack e seg) 1 && leb 1 e.tx.max)) _ _ (λ t. b)
    (λ f. on_cond BO (is_rst seg) _ _
    (λ t. on_cond B (is_ack seg) (record e { reason = Some reasons.Refused }) e (λ u. b) (λ u. b))
    (λ u. on_cond BO (is_syn seg && is_ack seg) _ _
    (λ both. connected_bounded e seg (and_parts (is_syn seg) (is_ack seg) both).0 fits) (λ w. b)))

rx_in_bounded : (ph : Phase) (e : Endpoint) (tick : ℕ) (seg : Seg) → seg.head.window ≤ 65535 → B e
    → BO (rx_in ph e tick seg)
unfolding rx_later
rx_in_bounded phases.Closed e tick seg fits b = b
rx_in_bounded phases.SynSent e tick seg fits b = syn_sent_bounded e seg fits b
rx_in_bounded _ e tick seg fits b = heard_bounded e tick seg (verdict e seg) fits b

-- ----- the other calls
accept_bounded : (e : Endpoint) (c : Column) → B e → BL (accept_in c e)
accept_bounded e Running b = b
accept_bounded e Opening b = tt
accept_bounded e (Over why) b = tt

ready_bounded : (e : Endpoint) (c : Column) → B e → BO (ready_in c e)
ready_bounded e Running b = b
ready_bounded e Opening b = b
ready_bounded e (Over why) b = b

send_bounded : (e : Endpoint) (c : Column) (offered : ℕ) (bytes : List ℕ) → B e → BL (send_in c e offered bytes)
send_bounded e Opening offered bytes b = b
send_bounded e (Over why) offered bytes b = b
send_bounded e Running offered bytes b =
    on_cond BL e.tx.shut _ _ (λ t. b)
    (λ f. on_cond BL (eqb (min offered (send_room e)) 0 && not (eqb offered 0)) _ _ (λ t. b)
    (λ g. on_cond BL (eqb (length bytes) (min offered (send_room e))) _ _ (λ t. b) (λ h. tt)))

recv_open_bounded : (e : Endpoint) (most : ℕ) → B e → BO (recv_open e most)
recv_open_bounded e most b = on_cond BO (eqb (unread e.rx) 0) _ _ (λ t. b) (λ f. b)

recv_bounded : (e : Endpoint) (c : Column) (most : ℕ) → B e → BO (recv_in c e most)
recv_bounded e Opening most b = b
recv_bounded e Running most b = recv_open_bounded e most b
recv_bounded e (Over reasons.Done) most b = recv_open_bounded e most b
recv_bounded e (Over _) most b = b

shut_bounded : (e : Endpoint) (c : Column) → B e → BO (shut_in c e)
shut_bounded e Opening b = b
shut_bounded e (Over why) b = b
shut_bounded e Running b = on_cond BO e.tx.shut _ _ (λ t. b) (λ f. b)

close_bounded : (e : Endpoint) (c : Column) → B e → BO (close_in c e)
close_bounded e Opening b = b
close_bounded e (Over why) b = b
close_bounded e Running b = b

abort_bounded : (e : Endpoint) (c : Column) → B e → BO (abort_in c e)
abort_bounded e Opening b = b
abort_bounded e (Over why) b = b
abort_bounded e Running b = b

abbrev G : Option Going → Type 0
G None = Unit {0}
G (Some g) = B g.after

going_bounded : (e : Endpoint) (c : Column) → B e → G (going_in c e)
going_bounded e (Over why) b = tt
going_bounded e Opening b = on_cond G (eqb e.tx.nxt 0) _ _ (λ t. b) (λ f. tt)
going_bounded e Running b =
    on_cond G (ltb 0 (data_len e)) _ _ (λ t. b)
    (λ f. on_cond G (e.tx.probe && eqb e.tx.window 0 && eqb e.tx.nxt e.tx.una && ltb 0 (waiting e.tx)) _ _ (λ t. b)
    (λ g. on_cond G (e.tx.shut && eqb e.tx.nxt (1 + length e.tx.out)) _ _ (λ t. b) (λ h. tt)))

emit_bounded : (o : Option Going) → G o → BL (emitted o)
emit_bounded None g = tt
emit_bounded (Some x) g = g

ticked_bounded : (e : Endpoint) → B e → BO (ticked e)
ticked_bounded e b =
    on_cond BO (not (is_armed e.tx)) _ _ (λ t. b)
    (λ f. on_cond BO (ltb (e.tx.age + 1) (patience e)) _ _ (λ t. b)
    (λ g. on_cond BO (eqb (e.tx.tries + 1) 9) _ _ (λ t. b) (λ h. on_cond BO (probes e) _ _ (λ t. b) (λ k. b))))

tick_bounded : (ph : Phase) (e : Endpoint) (tick : ℕ) → B e → BL (tick_in ph e tick)
tick_bounded phases.Closed e tick b = tt
tick_bounded phases.TimeWait e tick b =
    on_cond BO (leb (4 * e.params.rto) (tick - e.entered)) _ _ (λ t. b) (λ f. b)
tick_bounded _ e tick b = ticked_bounded e b

control_bounded : (e : Endpoint) (c : Column) → B e → BL (control_in c e)
unfolding control
control_bounded e Running b = b
control_bounded e Opening b = tt
control_bounded e (Over why) b = tt

step_bounded : (e : Endpoint) (tick : ℕ) (call : Call) (reply : Reply) → FitsWindow call → B e
    → BL (step e tick call reply)
unfolding step going ticks rx
step_bounded e tick (calls.Connect iss) reply fits b = tt
step_bounded e tick (calls.Passive frame iss seg) reply fits b = tt
step_bounded e tick (calls.Rx frame seg) reply fits b = rx_in_bounded (phase e) e tick seg fits b
step_bounded e tick calls.Emit reply fits b = emit_bounded (going_in (column e) e) (going_bounded e (column e) b)
step_bounded e tick calls.Tick reply fits b = tick_bounded (phase e) (record e { rate = filled e.rate }) tick b
step_bounded e tick calls.Control reply fits b = control_bounded e (column e) b
step_bounded e tick calls.Accept reply fits b = accept_bounded e (column e) b
step_bounded e tick calls.Ready reply fits b = ready_bounded e (column e) b
step_bounded e tick (calls.Send offered) reply fits b = send_bounded e (column e) offered (taken_bytes reply) b
step_bounded e tick (calls.Recv most) reply fits b = recv_bounded e (column e) most b
step_bounded e tick calls.Shut reply fits b = shut_bounded e (column e) b
step_bounded e tick calls.Close reply fits b = close_bounded e (column e) b
step_bounded e tick calls.Abort reply fits b = abort_bounded e (column e) b

-- ----- every history
opened_bounded : (params : HostParams) (call : Call) → FitsWindow call → B (opened params call)
opened_bounded params (calls.Connect iss) fits = omega arith
opened_bounded params (calls.Passive frame iss seg) fits =
    bare_bounded seg.head.window (opened params (calls.Passive frame iss seg)).scaling fits
opened_bounded params _ fits = omega arith

fit_parts : (h : List Entry) (x : Entry) → FitWindows (h ++ x ∷ []) → FitWindows h × FitsWindow x.call
fit_parts [] x fits = (tt, fits.0)
fit_parts (y ∷ h) x fits = let rest = fit_parts h x fits.1 in ((fits.0, rest.0), rest.1)

moved_bounded : (e : Endpoint) (o : Option Outcome) → B e → BL o → B (state_or e o)
moved_bounded e None b l = b
moved_bounded e (Some o) b l = l

-- the peer's window has at most 65,535 units
pub window_bounded : (params : HostParams) (h : List Entry) → Legal params h → FitWindows h
    → (replay params h).tx.window ≤ 65535 * 2 ^ (replay params h).scaling.ss
window_bounded params h legal =
    legal_induction params (λ (es : List Entry). FitWindows es → B (replay params es))
    (λ x first fits. subst B (sym (replay_first params x)) (opened_bounded params x.call fits.0))
    (λ es x before so_far may fits. subst B (sym (replay_push params es x before))
    (moved_bounded (replay params es) (step (replay params es) x.tick x.call x.reply) (so_far (fit_parts es x fits).0)
    (step_bounded (replay params es) x.tick x.call x.reply (fit_parts es x fits).1 (so_far (fit_parts es x fits).0))))
    h legal
