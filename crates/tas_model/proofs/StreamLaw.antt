-- What is received is the beginning of the peer's stream.
use Rattle.std.proofs.Common.{◌≡◌, ℕ, ◌+◌, ◌-◌, ◌*◌, true, not, ◌&&◌, List, [], ◌∷◌, ◌++◌, length, drop, min, Option}
use Rattle.std.proofs.Common.{Some, None, refl, sym, subst, ap, ◌∙◌, ltb, leb, eqb, take-append-drop}
use Rattle.tas_model.proofs.Tests.{on_cond}
use Rattle.tas_model.proofs.StreamSteps.{rx_in_stream}
use Rattle.tas_model.proofs.Histories.{along_split, legal_induction, replay_push, replay_first}
use Rattle.tas_model.specs.declared.entry.Reason.TheVariants as reasons
use Rattle.tas_model.specs.declared.entry.Phase.{Phase}
use Rattle.tas_model.specs.declared.entry.Phase.TheVariants as phases
use Rattle.tas_model.specs.declared.entry.Entry.{Entry}
use Rattle.tas_model.specs.declared.entry.HostParams.{HostParams}
use Rattle.tas_model.specs.declared.entry.Call.{Call}
use Rattle.tas_model.specs.declared.entry.Call.TheVariants as calls
use Rattle.tas_model.specs.declared.entry.Reply.{Reply}
use Rattle.tas_model.specs.Endpoint.{Endpoint, phase, unread, send_room}
use Rattle.tas_model.specs.Segments.{Outcome}
use Rattle.tas_model.specs.ApplicationCalls.{Column, Opening, Over, Running, column, accept_in, ready_in, send_in}
use Rattle.tas_model.specs.ApplicationCalls.{recv_in, recv_open, shut_in, close_in, abort_in}
use Rattle.tas_model.specs.NextSegment.{Going, going, going_in, emitted, waiting, data_len}
use Rattle.tas_model.specs.Timers.{ticks, tick_in, ticked, is_armed, patience, probes, filled, control}
use Rattle.tas_model.specs.LegalHistory.{step, control_in, opened, taken_bytes, Legal, Opens, replay, state_or}
use Rattle.tas_model.specs.OneStream.{InStream, IsOfStream, OneStream, LeavesIn, IsPrefixOf}

abbrev W : List ℕ → Outcome → Type 0
W p o = InStream p o.state.rx

abbrev G : List ℕ → Option Going → Type 0
G p None = Unit {0}
G p (Some g) = InStream p g.after.rx

accept_same : (p : List ℕ) (e : Endpoint) (c : Column) → InStream p e.rx → LeavesIn p (accept_in c e)
accept_same p e Running s = s
accept_same p e Opening s = tt
accept_same p e (Over why) s = tt

ready_same : (p : List ℕ) (e : Endpoint) (c : Column) → InStream p e.rx → W p (ready_in c e)
ready_same p e Running s = s
ready_same p e Opening s = s
ready_same p e (Over why) s = s

send_same : (p : List ℕ) (e : Endpoint) (c : Column) (offered : ℕ) (bytes : List ℕ) → InStream p e.rx
    → LeavesIn p (send_in c e offered bytes)
send_same p e Opening offered bytes s = s
send_same p e (Over why) offered bytes s = s
send_same p e Running offered bytes s =
    on_cond (LeavesIn p) e.tx.shut _ _ (λ t. s)
    (λ f. on_cond (LeavesIn p) (eqb (min offered (send_room e)) 0 && not (eqb offered 0)) _ _ (λ t. s)
    (λ g. on_cond (LeavesIn p) (eqb (length bytes) (min offered (send_room e))) _ _ (λ t. s) (λ h. tt)))

open_same : (p : List ℕ) (e : Endpoint) (most : ℕ) → InStream p e.rx → W p (recv_open e most)
open_same p e most s = on_cond (W p) (eqb (unread e.rx) 0) _ _ (λ t. s)
    (λ f. record { got = s.got; island = s.island; ended = s.ended })

recv_same : (p : List ℕ) (e : Endpoint) (c : Column) (most : ℕ) → InStream p e.rx → W p (recv_in c e most)
recv_same p e Opening most s = s
recv_same p e Running most s = open_same p e most s
recv_same p e (Over reasons.Done) most s = open_same p e most s
recv_same p e (Over _) most s = s

shut_same : (p : List ℕ) (e : Endpoint) (c : Column) → InStream p e.rx → W p (shut_in c e)
shut_same p e Opening s = s
shut_same p e (Over why) s = s
shut_same p e Running s = on_cond (W p) e.tx.shut _ _ (λ t. s) (λ f. s)

close_same : (p : List ℕ) (e : Endpoint) (c : Column) → InStream p e.rx → W p (close_in c e)
close_same p e Opening s = s
close_same p e (Over why) s = s
close_same p e Running s = s

abort_same : (p : List ℕ) (e : Endpoint) (c : Column) → InStream p e.rx → W p (abort_in c e)
abort_same p e Opening s = s
abort_same p e (Over why) s = s
abort_same p e Running s = s

going_same : (p : List ℕ) (e : Endpoint) (c : Column) → InStream p e.rx → G p (going_in c e)
going_same p e (Over why) s = tt
going_same p e Opening s = on_cond (G p) (eqb e.tx.nxt 0) _ _ (λ t. s) (λ f. tt)
going_same p e Running s =
    on_cond (G p) (ltb 0 (data_len e)) _ _ (λ t. s)
    (λ f. on_cond (G p) (e.tx.probe && eqb e.tx.window 0 && eqb e.tx.nxt e.tx.una && ltb 0 (waiting e.tx)) _ _ (λ t. s)
    (λ g. on_cond (G p) (e.tx.shut && eqb e.tx.nxt (1 + length e.tx.out)) _ _ (λ t. s) (λ h. tt)))

emit_same : (p : List ℕ) (o : Option Going) → G p o → LeavesIn p (emitted o)
emit_same p None g = tt
emit_same p (Some x) g = g

ticked_same : (p : List ℕ) (e : Endpoint) → InStream p e.rx → W p (ticked e)
ticked_same p e s =
    on_cond (W p) (not (is_armed e.tx)) _ _ (λ t. s)
    (λ f. on_cond (W p) (ltb (e.tx.age + 1) (patience e)) _ _ (λ t. s)
    (λ g. on_cond (W p) (eqb (e.tx.tries + 1) 9) _ _ (λ t. s) (λ h. on_cond (W p) (probes e) _ _ (λ t. s) (λ k. s))))

tick_same : (p : List ℕ) (ph : Phase) (e : Endpoint) (tick : ℕ) → InStream p e.rx → LeavesIn p (tick_in ph e tick)
tick_same p phases.Closed e tick s = tt
tick_same p phases.TimeWait e tick s = on_cond (W p) (leb (4 * e.params.rto) (tick - e.entered)) _ _ (λ t. s) (λ f. s)
tick_same p _ e tick s = ticked_same p e s

control_same : (p : List ℕ) (e : Endpoint) (c : Column) → InStream p e.rx → LeavesIn p (control_in c e)
unfolding control
control_same p e Running s = s
control_same p e Opening s = tt
control_same p e (Over why) s = tt

pub step_in : (p : List ℕ) (e : Endpoint) (tick : ℕ) (call : Call) (reply : Reply) → IsOfStream p e call
    → InStream p e.rx → LeavesIn p (step e tick call reply)
unfolding step going ticks
step_in p e tick (calls.Connect iss) reply of s = tt
step_in p e tick (calls.Passive frame iss seg) reply of s = tt
step_in p e tick (calls.Rx frame seg) reply of s = rx_in_stream p e tick frame seg of s
step_in p e tick calls.Emit reply of s = emit_same p (going_in (column e) e) (going_same p e (column e) s)
step_in p e tick calls.Tick reply of s = tick_same p (phase e) (record e { rate = filled e.rate }) tick s
step_in p e tick calls.Control reply of s = control_same p e (column e) s
step_in p e tick calls.Accept reply of s = accept_same p e (column e) s
step_in p e tick calls.Ready reply of s = ready_same p e (column e) s
step_in p e tick (calls.Send offered) reply of s = send_same p e (column e) offered (taken_bytes reply) s
step_in p e tick (calls.Recv most) reply of s = recv_same p e (column e) most s
step_in p e tick calls.Shut reply of s = shut_same p e (column e) s
step_in p e tick calls.Close reply of s = close_same p e (column e) s
step_in p e tick calls.Abort reply of s = abort_same p e (column e) s

-- ----- every history
split : (params : HostParams) (p : List ℕ) (h : List Entry) (x : Entry) → Legal params h
    → OneStream params p (h ++ x ∷ []) → OneStream params p h × IsOfStream p (replay params h) x.call
split params p [] x legal one = absurd legal
split params p (y ∷ ys) x legal one =
    along_split (λ (before : List Entry) (z : Entry). IsOfStream p (replay params before) z.call) (y ∷ []) ys x one

moved_in : (p : List ℕ) (e : Endpoint) (o : Option Outcome) → InStream p e.rx → LeavesIn p o
    → InStream p (state_or e o).rx
moved_in p e None s l = s
moved_in p e (Some o) s l = l

opened_in : (p : List ℕ) (params : HostParams) (call : Call) → Opens call → InStream p (opened params call).rx
opened_in p params (calls.Connect iss) opens = record { got = refl; island = tt; ended = λ e. absurd (cc (e)) }
opened_in p params (calls.Passive frame iss seg) opens =
    record { got = refl; island = tt; ended = λ e. absurd (cc (e)) }
opened_in p params _ opens = absurd opens

in_stream : (params : HostParams) (p : List ℕ) (h : List Entry) → Legal params h → OneStream params p h
    → InStream p (replay params h).rx
in_stream params p h legal =
    legal_induction params (λ (es : List Entry). OneStream params p es → InStream p (replay params es).rx)
    (λ x first one. subst (λ (e : Endpoint). InStream p e.rx) (sym (replay_first params x))
    (opened_in p params x.call first.opens))
    (λ es x before hyp may one. let parts = split params p es x before one in
    subst (λ (e : Endpoint). InStream p e.rx) (sym (replay_push params es x before))
    (moved_in p (replay params es) (step (replay params es) x.tick x.call x.reply) (hyp parts.0)
    (step_in p (replay params es) x.tick x.call x.reply parts.1 (hyp parts.0))))
    h legal

-- all that was received in order is the beginning of the peer's stream, and the whole of it where the peer ended
pub got_is_prefix : (params : HostParams) (p : List ℕ) (h : List Entry) → Legal params h → OneStream params p h
    → IsPrefixOf (replay params h).rx.got p × ((replay params h).rx.ended ≡ true → (replay params h).rx.got ≡ p)
got_is_prefix params p h legal one =
    let s : InStream p (replay params h).rx = in_stream params p h legal one in
    let n : ℕ = length (replay params h).rx.got in
    ((drop n p, ap (λ (xs : List ℕ). xs ++ drop n p) (sym s.got) ∙ take-append-drop n p), s.ended)
