-- The end is told once all was read, and after it nothing is received.
use Rattle.std.proofs.Common.{◌≡◌, ℕ, ◌+◌, ◌-◌, ◌*◌, ◌≤◌, Bool, true, false, cond, not, ◌&&◌, ◌||◌}
use Rattle.std.proofs.Common.{List, [], ◌∷◌, ◌++◌, length, take, drop, min, max, Option, Some, None}
use Rattle.std.proofs.Common.{refl, sym, subst, ap, ◌∙◌, arith, true≢false, ltb, leb, eqb}
use Rattle.std.proofs.lemmas.Bool.Decides.{nat_tests}
use Rattle.std.proofs.lemmas.List.{take_all}
use Rattle.tas_model.proofs.Tests.{on_cond}
use Rattle.tas_model.specs.declared.entry.HostParams.{HostParams}
use Rattle.tas_model.specs.declared.entry.Entry.{Entry}
use Rattle.tas_model.specs.declared.entry.Reason.{Reason}
use Rattle.tas_model.specs.declared.entry.Reason.TheVariants as reasons
use Rattle.tas_model.specs.declared.entry.Phase.{Phase}
use Rattle.tas_model.specs.declared.entry.Phase.TheVariants as phases
use Rattle.tas_model.specs.declared.entry.Call.{Call}
use Rattle.tas_model.specs.declared.entry.Call.TheVariants as calls
use Rattle.tas_model.specs.declared.entry.Seg.{Seg}
use Rattle.tas_model.specs.declared.entry.Reply.{Reply}
use Rattle.tas_model.specs.declared.entry.Reply.TheVariants as replies
use Rattle.tas_model.specs.Endpoint.{Endpoint, Receiving, phase, unread, send_room, next_place, wnd}
use Rattle.tas_model.specs.Segments.{offered_window, Outcome, is_fin, is_ack, is_rst, is_syn, seg_len, acks, resets}
use Rattle.tas_model.specs.Segments.{stray_reply}
use Rattle.tas_model.specs.Reassembly.{with_data, with_part, trimmed}
use Rattle.tas_model.specs.Receive.{rx, rx_in, rx_later, rx_syn_sent, connected, by_verdict, verdict}
use Rattle.tas_model.specs.Receive.{Verdict, Dropped, Answered, Reset, BareAck, Taken, AckVerdict, Stray, TooFar, Good}
use Rattle.tas_model.specs.Receive.{taken, bare_ack, after_ack, after_data, takes_fin, place_of_ack, is_heard}
use Rattle.tas_model.specs.ApplicationCalls.{Column, Opening, Over, Running, column, accept_in, ready_in, send_in}
use Rattle.tas_model.specs.ApplicationCalls.{recv_in, recv_open, empty_reply, shut_in, close_in, abort_in, abort_reply}
use Rattle.tas_model.specs.ApplicationCalls.{tells_abort}
use Rattle.tas_model.specs.NextSegment.{Going, going, going_in, emitted, waiting, data_len}
use Rattle.tas_model.specs.Timers.{ticks, tick_in, ticked, waited, is_armed, patience, probes, filled, control}
use Rattle.tas_model.specs.LegalHistory.{step, control_in, state_or, moved, replay, taken_bytes, Gives, Legal}
use Rattle.tas_model.specs.LegalHistory.{MayFollow}
use Rattle.tas_model.specs.LegalHistory.{IsFirst}
use Rattle.tas_model.specs.Outputs.{bytes_read}
use Rattle.tas_model.specs.Valid.{InRange}
use Rattle.tas_model.proofs.Histories.{legal_induction, replay_push}
use Rattle.tas_model.proofs.MovesLaws.{read_is_of_got}
use Rattle.sent_streams.specs.Streams.{is_end, told_end}

-- ----- facts
-- the peer ended its stream, and all of it was read
abbrev IsRead : Receiving → Type 0
IsRead rx = (rx.ended ≡ true) × (length rx.got ≤ rx.read)

record Ends (e f : Endpoint) (reply : Reply) : Type 0 where
  pub keeps : IsRead e.rx → IsRead f.rx
  pub told : is_end reply ≡ true → IsRead f.rx

abbrev R : Endpoint → Outcome → Type 0
R e o = Ends e o.state o.reply

abbrev L : Endpoint → Option Outcome → Type 0
L e None = Unit {0}
L e (Some o) = Ends e o.state o.reply

-- nothing is received or read, and no end is told
silent : (e f : Endpoint) (reply : Reply) → f.rx ≡ e.rx → is_end reply ≡ false → Ends e f reply
silent e f reply same no_end = record {
  keeps = λ all. subst IsRead (sym same) all;
  told = λ t. absurd (true≢false (sym t ∙ no_end));
}

-- ----- a received segment
stray_silent : (e : Endpoint) (seg : Seg) → R e (record { state = e; reply = stray_reply seg })
stray_silent e seg =
    silent e e (stray_reply seg) refl
    (on_cond (λ (r : Reply). is_end r ≡ false) (is_rst seg) _ _ (λ t. refl)
    (λ f. on_cond (λ (r : Reply). is_end r ≡ false) (is_ack seg) _ _ (λ t. refl) (λ g. refl)))

data_keeps : (rx : Receiving) (window q : ℕ) (payload : List ℕ) → IsRead rx → IsRead (with_data rx window q payload)
data_keeps rx window q payload all =
    on_cond IsRead rx.ended rx (with_part rx (max q (next_place rx) - 1) (trimmed (next_place rx) window q payload))
    (λ t. all) (λ f. absurd (true≢false (sym all.0 ∙ f)))

after_keeps : (e : Endpoint) (tick window q : ℕ) (seg : Seg) → IsRead e.rx → IsRead (after_data e tick window q seg).rx
after_keeps e tick window q seg all =
    let rx : Receiving = with_data e.rx window q seg.bytes in
    let kept : IsRead rx = data_keeps e.rx window q seg.bytes all in
    on_cond (λ (f : Endpoint). IsRead f.rx) (takes_fin e.rx rx window q (length seg.bytes) (is_fin seg)) _ _
    (λ t. (refl, kept.1)) (λ f. kept)

heard_silent : (b : Bool) (e : Endpoint) → is_end (cond b (acks e) replies.Nothing) ≡ false
heard_silent true e = refl
heard_silent false e = refl

taken_ends : (e : Endpoint) (tick q : ℕ) (seg : Seg) (a : AckVerdict) → R e (taken e tick q seg a)
taken_ends e tick q seg Stray = silent e e (resets seg.head.ack) refl refl
taken_ends e tick q seg TooFar = silent e e (acks e) refl refl
taken_ends e tick q seg Good =
    let acked : Endpoint = after_ack e tick (place_of_ack e seg) q (seg_len seg) (offered_window e.scaling seg) in
    record {
      keeps = λ all. after_keeps acked tick (wnd e) q seg all;
      told = λ t. absurd (true≢false (sym t ∙ heard_silent (is_heard seg) (after_data acked tick (wnd e) q seg)));
    }

bare_ends : (e : Endpoint) (tick : ℕ) (seg : Seg) (a : AckVerdict) → R e (bare_ack e tick seg a)
bare_ends e tick seg Stray = silent e e (resets seg.head.ack) refl refl
bare_ends e tick seg TooFar = silent e e (acks e) refl refl
bare_ends e tick seg Good = silent e (bare_ack e tick seg Good).state (bare_ack e tick seg Good).reply refl refl

verdict_ends : (e : Endpoint) (tick : ℕ) (seg : Seg) (d : Verdict) → R e (by_verdict e tick seg d)
verdict_ends e tick seg Dropped = silent e e replies.Nothing refl refl
verdict_ends e tick seg Answered = silent e e (acks e) refl refl
verdict_ends e tick seg Reset = silent e (record e { reason = Some reasons.Reset }) replies.Nothing refl refl
verdict_ends e tick seg BareAck =
    on_cond (R e) (is_ack seg) _ _ (λ t. bare_ends e tick seg _) (λ f. silent e e (acks e) refl refl)
verdict_ends e tick seg (Taken q) = taken_ends e tick q seg _

syn_sent_ends : (e : Endpoint) (seg : Seg) → R e (rx_syn_sent e seg)
unfolding rx_syn_sent
syn_sent_ends e seg =
    on_cond (R e) (is_ack seg && not (eqb (place_of_ack e seg) 1 && leb 1 e.tx.max)) _ _
    (λ t. silent e e _ refl
    (on_cond (λ (r : Reply). is_end r ≡ false) (is_rst seg) replies.Nothing (resets seg.head.ack)
    (λ u. refl) (λ u. refl)))
    (λ f. on_cond (R e) (is_rst seg) _ _
    (λ t. on_cond (λ (g : Endpoint). Ends e g replies.Nothing) (is_ack seg)
    (record e { reason = Some reasons.Refused }) e
    (λ u. silent e (record e { reason = Some reasons.Refused }) replies.Nothing refl refl)
    (λ u. silent e e replies.Nothing refl refl))
    (λ g. on_cond (R e) (is_syn seg && is_ack seg) _ _
    (λ t. silent e (connected e seg) (acks (connected e seg)) refl refl) (λ h. silent e e replies.Nothing refl refl)))

rx_in_ends : (ph : Phase) (e : Endpoint) (tick : ℕ) (seg : Seg) → R e (rx_in ph e tick seg)
unfolding rx_later
rx_in_ends phases.Closed e tick seg = stray_silent e seg
rx_in_ends phases.SynSent e tick seg = syn_sent_ends e seg
rx_in_ends _ e tick seg = verdict_ends e tick seg (verdict e seg)

-- ----- the calls of an application
accept_ends : (e : Endpoint) (c : Column) → L e (accept_in c e)
accept_ends e Running = silent e e replies.Ok refl refl
accept_ends e Opening = tt
accept_ends e (Over why) = tt

ready_ends : (e : Endpoint) (c : Column) → R e (ready_in c e)
ready_ends e Running = silent e e replies.Ok refl refl
ready_ends e Opening = silent e e replies.NotYet refl refl
ready_ends e (Over why) = silent e e (replies.Closed why) refl refl

send_ends : (e : Endpoint) (c : Column) (offered : ℕ) (bytes : List ℕ) → L e (send_in c e offered bytes)
send_ends e Opening offered bytes = silent e e replies.NotOpen refl refl
send_ends e (Over why) offered bytes = silent e e (replies.Closed why) refl refl
send_ends e Running offered bytes =
    on_cond (L e) e.tx.shut _ _ (λ t. silent e e replies.Shut refl refl)
    (λ f. on_cond (L e) (eqb (min offered (send_room e)) 0 && not (eqb offered 0)) _ _
    (λ t. silent e e replies.NotYet refl refl)
    (λ g. on_cond (L e) (eqb (length bytes) (min offered (send_room e))) _ _
    (λ t. silent e _ (replies.Took bytes) refl refl) (λ h. tt)))

empty_ends : (e : Endpoint) (why : Option Reason) (ended : Bool) → e.rx.ended ≡ ended → length e.rx.got ≤ e.rx.read
    → Ends e e (empty_reply why ended)
empty_ends e None true is all = record { keeps = λ a. a; told = λ t. (is, all) }
empty_ends e None false is all = silent e e replies.NotYet refl refl
empty_ends e (Some why) true is all = record { keeps = λ a. a; told = λ t. (is, all) }
empty_ends e (Some why) false is all = silent e e (replies.Closed why) refl refl

open_ends : (e : Endpoint) (most : ℕ) → R e (recv_open e most)
open_ends e most =
    on_cond (R e) (eqb (unread e.rx) 0) _ _ (λ t. empty_ends e e.reason e.rx.ended refl (none_left t))
    (λ f. record { keeps = λ all. (all.0, omega (arith, all.1)); told = λ t. absurd (true≢false (sym t)) })
  where
    none_left : eqb (unread e.rx) 0 ≡ true → length e.rx.got ≤ e.rx.read
    none_left t = let none : unread e.rx ≡ 0 = grind (arith, nat_tests, t) in omega (arith, none)

recv_ends : (e : Endpoint) (c : Column) (most : ℕ) → R e (recv_in c e most)
recv_ends e Opening most = silent e e replies.NotOpen refl refl
recv_ends e Running most = open_ends e most
recv_ends e (Over reasons.Done) most = open_ends e most
recv_ends e (Over reasons.Reset) most = silent e e (replies.Closed reasons.Reset) refl refl
recv_ends e (Over reasons.Refused) most = silent e e (replies.Closed reasons.Refused) refl refl
recv_ends e (Over reasons.TimedOut) most = silent e e (replies.Closed reasons.TimedOut) refl refl
recv_ends e (Over reasons.Aborted) most = silent e e (replies.Closed reasons.Aborted) refl refl

shut_ends : (e : Endpoint) (c : Column) → R e (shut_in c e)
shut_ends e Opening = silent e e replies.NotOpen refl refl
shut_ends e (Over why) = silent e e (replies.Closed why) refl refl
shut_ends e Running =
    on_cond (R e) e.tx.shut _ _ (λ t. silent e e replies.Shut refl refl) (λ f. silent e _ replies.Ok refl refl)

close_ends : (e : Endpoint) (c : Column) → R e (close_in c e)
close_ends e Opening = silent e _ replies.Ok refl refl
close_ends e (Over why) = silent e e replies.Ok refl refl
close_ends e Running = silent e _ replies.Ok refl refl

abort_silent : (e : Endpoint) → is_end (abort_reply e) ≡ false
abort_silent e = on_cond (λ (r : Reply). is_end r ≡ false) (tells_abort (phase e)) _ _ (λ t. refl) (λ f. refl)

abort_ends : (e : Endpoint) (c : Column) → R e (abort_in c e)
abort_ends e Opening = silent e _ (abort_reply e) refl (abort_silent e)
abort_ends e (Over why) = silent e e (replies.Closed why) refl refl
abort_ends e Running = silent e _ (abort_reply e) refl (abort_silent e)

-- ----- sending, and time
abbrev G : Endpoint → Option Going → Type 0
G e None = Unit {0}
G e (Some g) = g.after.rx ≡ e.rx

going_same : (e : Endpoint) (c : Column) → G e (going_in c e)
going_same e (Over why) = tt
going_same e Opening = on_cond (G e) (eqb e.tx.nxt 0) _ _ (λ t. refl) (λ f. tt)
going_same e Running =
    on_cond (G e) (ltb 0 (data_len e)) _ _ (λ t. refl)
    (λ f. on_cond (G e) (e.tx.probe && eqb e.tx.window 0 && eqb e.tx.nxt e.tx.una && ltb 0 (waiting e.tx)) _ _
    (λ t. refl)
    (λ g. on_cond (G e) (e.tx.shut && eqb e.tx.nxt (1 + length e.tx.out)) _ _ (λ t. refl) (λ h. tt)))

emit_ends : (e : Endpoint) (o : Option Going) → G e o → L e (emitted o)
emit_ends e None g = tt
emit_ends e (Some x) g = silent e x.after (replies.Sent x.seg) g refl

ticked_ends : (e : Endpoint) → R e (ticked e)
ticked_ends e =
    on_cond (R e) (not (is_armed e.tx)) _ _ (λ t. silent e _ replies.Quiet refl refl)
    (λ f. on_cond (R e) (ltb (e.tx.age + 1) (patience e)) _ _ (λ t. silent e _ replies.Quiet refl refl)
    (λ g. on_cond (R e) (eqb (e.tx.tries + 1) 9) _ _ (λ t. silent e _ replies.TimedOut refl refl)
    (λ h. on_cond (R e) (probes e) _ _ (λ t. silent e _ replies.Probe refl refl)
    (λ k. silent e _ replies.Resend refl refl))))

tick_ends : (ph : Phase) (e : Endpoint) (tick : ℕ) → L e (tick_in ph e tick)
tick_ends phases.Closed e tick = tt
tick_ends phases.TimeWait e tick =
    on_cond (R e) (leb (4 * e.params.rto) (tick - e.entered)) _ _
    (λ t. silent e _ replies.Expired refl refl) (λ f. silent e e replies.Quiet refl refl)
tick_ends _ e tick = ticked_ends e

with_rate : (e : Endpoint) (o : Option Outcome) → L (record e { rate = filled e.rate }) o → L e o
with_rate e None l = tt
with_rate e (Some o) l = record { keeps = l.keeps; told = l.told }

control_ends : (e : Endpoint) (c : Column) → L e (control_in c e)
unfolding control
control_ends e Running = silent e _ _ refl refl
control_ends e Opening = tt
control_ends e (Over why) = tt

-- ----- every step
step_ends : (e : Endpoint) (tick : ℕ) (call : Call) (reply : Reply) → L e (step e tick call reply)
unfolding step going ticks rx
step_ends e tick (calls.Connect iss) reply = tt
step_ends e tick (calls.Passive frame iss seg) reply = tt
step_ends e tick (calls.Rx frame seg) reply = rx_in_ends (phase e) e tick seg
step_ends e tick calls.Emit reply = emit_ends e (going_in (column e) e) (going_same e (column e))
step_ends e tick calls.Tick reply =
    with_rate e (tick_in (phase e) (record e { rate = filled e.rate }) tick)
    (tick_ends (phase e) (record e { rate = filled e.rate }) tick)
step_ends e tick calls.Control reply = control_ends e (column e)
step_ends e tick calls.Accept reply = accept_ends e (column e)
step_ends e tick calls.Ready reply = ready_ends e (column e)
step_ends e tick (calls.Send offered) reply = send_ends e (column e) offered (taken_bytes reply)
step_ends e tick (calls.Recv most) reply = recv_ends e (column e) most
step_ends e tick calls.Shut reply = shut_ends e (column e)
step_ends e tick calls.Close reply = close_ends e (column e)
step_ends e tick calls.Abort reply = abort_ends e (column e)

given_ends : (e : Endpoint) (o : Option Outcome) (reply : Reply) → Gives o reply → L e o → Ends e (state_or e o) reply
given_ends e None reply gives l = absurd gives
given_ends e (Some o) reply gives l = subst (Ends e o.state) gives l

-- ----- every history
told_push : (h : List Entry) (x : Entry) → told_end (h ++ x ∷ []) ≡ (told_end h || is_end x.reply)
told_push [] x = by_end (is_end x.reply) where
  by_end : (b : Bool) → (b || false) ≡ (false || b)
  by_end true = refl
  by_end false = refl
told_push (y ∷ h) x = by_end (is_end y.reply) (told_push h x) where
  by_end : (b : Bool) → told_end (h ++ x ∷ []) ≡ (told_end h || is_end x.reply)
      → (b || told_end (h ++ x ∷ [])) ≡ ((b || told_end h) || is_end x.reply)
  by_end true rest = refl
  by_end false rest = rest

either : (a b : Bool) (C : Type 0) → (a || b) ≡ true → (a ≡ true → C) → (b ≡ true → C) → C
either true b C h f g = f refl
either false b C h f g = g h

all_read : (params : HostParams) (h : List Entry) → Legal params h → told_end h ≡ true → IsRead (replay params h).rx
all_read params h legal =
    legal_induction params (λ (es : List Entry). told_end es ≡ true → IsRead (replay params es).rx)
    (λ x first told. absurd (true≢false (sym told ∙ ap (λ (r : Reply). is_end r || false) first.reply)))
    (λ es x before so_far may told. after es x before so_far may told)
    h legal
  where
    after : (es : List Entry) (x : Entry) → Legal params es → (told_end es ≡ true → IsRead (replay params es).rx)
        → MayFollow params es x → told_end (es ++ x ∷ []) ≡ true → IsRead (replay params (es ++ x ∷ [])).rx
    after es x before so_far may told =
        let e : Endpoint = replay params es in
        let ends : Ends e (moved e x) x.reply =
        given_ends e (step e x.tick x.call x.reply) x.reply may.step (step_ends e x.tick x.call x.reply) in
        subst (λ (f : Endpoint). IsRead f.rx) (sym (replay_push params es x before))
        (either (told_end es) (is_end x.reply) (IsRead (moved e x).rx) (sym (told_push es x) ∙ told)
        (λ t. ends.keeps (so_far t)) (λ t. ends.told t))

pub end_is_last : (params : HostParams) (h : List Entry) → InRange params → Legal params h → told_end h ≡ true
    → ((replay params h).rx.ended ≡ true) × (bytes_read h ≡ (replay params h).rx.got)
end_is_last params h fits legal told =
    let all : IsRead (replay params h).rx = all_read params h legal told in
    (all.0, read_is_of_got params h fits legal ∙ take_all (replay params h).rx.read (replay params h).rx.got all.1)
