-- How many bytes an endpoint accepts in so many ticks: what goes is paid for by the bucket, and what waits fits into a
-- ring.
use Rattle.std.proofs.Common.{◌≡◌, ℕ, ◌+◌, ◌-◌, ◌*◌, ◌≤◌, Bool, true, false, cond, not, ◌&&◌, List, [], ◌∷◌, ◌++◌}
use Rattle.std.proofs.Common.{length, min, max, Option, Some, None, IsSome, refl, sym, subst, ap, ◌∙◌, arith}
use Rattle.std.proofs.Common.{true≢false, append-nil, length-append, ltb, leb, eqb}
use Rattle.std.proofs.lemmas.Bool.Decides.{nat_tests}
use Rattle.tas_model.proofs.Tests.{on_cond}
use Rattle.tas_model.specs.declared.entry.HostParams.{HostParams}
use Rattle.tas_model.specs.declared.entry.Entry.{Entry}
use Rattle.tas_model.specs.declared.entry.Reason.{Reason}
use Rattle.tas_model.specs.declared.entry.Phase.{Phase}
use Rattle.tas_model.specs.declared.entry.Phase.TheVariants as phases
use Rattle.tas_model.specs.declared.entry.Call.{Call}
use Rattle.tas_model.specs.declared.entry.Call.TheVariants as calls
use Rattle.tas_model.specs.declared.entry.Reply.{Reply}
use Rattle.tas_model.specs.Endpoint.{Endpoint, phase}
use Rattle.tas_model.specs.Segments.{Outcome, one_if}
use Rattle.tas_model.specs.ApplicationCalls.{Column, Opening, Over, Running, column_by, column}
use Rattle.tas_model.specs.NextSegment.{Going, going, going_in, emitted, waiting, data_len}
use Rattle.tas_model.specs.Timers.{ticks, tick_in, ticked, is_armed, patience, probes, filled}
use Rattle.tas_model.specs.LegalHistory.{step, state_or, moved, opened, replay, taken_bytes, Gives, Opens, Legal}
use Rattle.tas_model.specs.LegalHistory.{MayFollow, IsFirst}
use Rattle.tas_model.specs.Outputs.{accepted}
use Rattle.tas_model.specs.Valid.{Valid, InRange}
use Rattle.tas_model.specs.BucketLaw.{data_in, data_by, fill_by}
use Rattle.tas_model.proofs.Histories.{legal_induction, legal_push, replay_push, replay_first}
use Rattle.tas_model.proofs.Moves.{Moves}
use Rattle.tas_model.proofs.MovesLaws.{entry_moves, out_is_accepted}
use Rattle.tas_model.proofs.ValidCalls.{valid_replay}
use Rattle.host_rounds.specs.Passing.{is_tick, ticks_in}
use Rattle.sent_streams.proofs.Stays.{IsDeep, SendsNoMore, Stays, StaysWhole, L, Hears, rx_hears, accept_same}
use Rattle.sent_streams.proofs.Stays.{ready_same, send_same, recv_same, shut_same, close_same, abort_same, control_same}

-- ----- what was spent
-- the bytes that went at least once
abbrev gone : Endpoint → ℕ
gone e = min (e.tx.max - 1) (length e.tx.out)

-- what the bucket holds, and what it may hold at first
abbrev credit : (peer : Option ℕ) (tokens : ℕ) → ℕ
credit None tokens = 65535
credit (Some first) tokens = tokens

abbrev spent : Endpoint → ℕ
spent e = gone e + one_if e.tx.probe + credit e.peer e.rate.tokens

-- ----- one step
-- Emit sends what it pays for, or the byte of a probe that was due; a tick may make one due; and no other call sends
-- more.
abbrev Went : Call → (e f : Endpoint) → Type 0
Went calls.Emit e f = gone f + one_if f.tx.probe ≤ gone e + one_if e.tx.probe + data_by e calls.Emit
Went calls.Tick e f = f.tx.max ≡ e.tx.max
Went _ e f = SendsNoMore e.tx f.tx

record Goes (call : Call) (e f : Endpoint) : Type 0 where
  pub went : Went call e f
  pub deep : IsDeep e.rate → IsDeep f.rate

abbrev G : (paid : ℕ) → Endpoint → Option Going → Type 0
G paid e None = Unit {0}
G paid e (Some g) =
    (gone g.after + one_if g.after.tx.probe ≤ gone e + one_if e.tx.probe + paid) × (IsDeep e.rate → IsDeep g.after.rate)

both_left : (a b : Bool) → (a && b) ≡ true → a ≡ true
both_left true b h = refl
both_left false b h = absurd (cc (h))

both_right : (a b : Bool) → (a && b) ≡ true → b ≡ true
both_right true b h = h
both_right false b h = absurd (cc (h))

probe_goes : (probe b c d : Bool) → (probe && b && c && d) ≡ true → one_if probe ≡ 1
probe_goes true b c d h = refl
probe_goes false b c d h = absurd (cc (h))

running_goes : (e : Endpoint) → Valid e → G (data_len e) e (going_in Running e)
running_goes e v =
    on_cond (G (data_len e) e) (ltb 0 (data_len e)) _ _ (λ t. (omega (arith, v.tx.nxt), λ d. d))
    (λ f. on_cond (G (data_len e) e)
    (e.tx.probe && eqb e.tx.window 0 && eqb e.tx.nxt e.tx.una && ltb 0 (waiting e.tx)) _ _
    (λ t. let due : one_if e.tx.probe ≡ 1 = probe_goes e.tx.probe _ _ _ t in (omega (arith, v.tx.nxt, due), λ d. d))
    (λ g. on_cond (G (data_len e) e) (e.tx.shut && eqb e.tx.nxt (1 + length e.tx.out)) _ _
    (λ t. (fin_goes (both_right e.tx.shut (eqb e.tx.nxt (1 + length e.tx.out)) t), λ d. d)) (λ h. tt)))
  where
    fin_goes : eqb e.tx.nxt (1 + length e.tx.out) ≡ true
        → min (max e.tx.max (e.tx.nxt + 1) - 1) (length e.tx.out) + one_if e.tx.probe
        ≤ gone e + one_if e.tx.probe + data_len e
    fin_goes t =
        let place : e.tx.nxt ≡ 1 + length e.tx.out = grind (arith, nat_tests, t) in
        omega (arith, place, v.tx.nxt)

going_goes : (e : Endpoint) (c : Column) → Valid e → G (data_in c e) e (going_in c e)
going_goes e (Over why) v = tt
going_goes e Opening v =
    on_cond (G 0 e) (eqb e.tx.nxt 0) _ _
    (λ t. let first : e.tx.nxt ≡ 0 = grind (arith, nat_tests, t) in (omega (arith, first), λ d. d)) (λ f. tt)
going_goes e Running v = running_goes e v

abbrev LeavesGone : Call → Endpoint → Option Outcome → Type 0
LeavesGone call e None = Unit {0}
LeavesGone call e (Some o) = Goes call e o.state

emit_goes : (e : Endpoint) (o : Option Going) → G (data_by e calls.Emit) e o → LeavesGone calls.Emit e (emitted o)
emit_goes e None g = tt
emit_goes e (Some x) g = record { went = g.0; deep = g.1 }

abbrev T : Endpoint → Outcome → Type 0
T e o = (o.state.tx.max ≡ e.tx.max) × (IsDeep e.rate → IsDeep o.state.rate)

ticked_goes : (e : Endpoint) → T e (ticked e)
ticked_goes e =
    on_cond (T e) (not (is_armed e.tx)) _ _ (λ t. (refl, λ d. d))
    (λ f. on_cond (T e) (ltb (e.tx.age + 1) (patience e)) _ _ (λ t. (refl, λ d. d))
    (λ g. on_cond (T e) (eqb (e.tx.tries + 1) 9) _ _ (λ t. (refl, λ d. d))
    (λ h. on_cond (T e) (probes e) _ _ (λ t. (refl, λ d. d)) (λ k. (refl, λ d. d)))))

abbrev LeavesTimed : Endpoint → Option Outcome → Type 0
LeavesTimed e None = Unit {0}
LeavesTimed e (Some o) = T e o

tick_goes : (ph : Phase) (e : Endpoint) (tick : ℕ) → LeavesTimed e (tick_in ph e tick)
tick_goes phases.Closed e tick = tt
tick_goes phases.TimeWait e tick =
    on_cond (T e) (leb (4 * e.params.rto) (tick - e.entered)) _ _ (λ t. (refl, λ d. d)) (λ f. (refl, λ d. d))
tick_goes _ e tick = ticked_goes e

timed_gone : (e : Endpoint) (o : Option Outcome) → LeavesTimed (record e { rate = filled e.rate }) o
    → LeavesGone calls.Tick e o
timed_gone e None t = tt
timed_gone e (Some o) t = record { went = t.0; deep = t.1 }

accept_goes : (e : Endpoint) (o : Option Outcome) → L e o → LeavesGone calls.Accept e o
accept_goes e None s = tt
accept_goes e (Some o) s = record { went = s.stays.tx; deep = s.stays.deep }

control_goes : (e : Endpoint) (o : Option Outcome) → L e o → LeavesGone calls.Control e o
control_goes e None s = tt
control_goes e (Some o) s = record { went = s.stays.tx; deep = s.stays.deep }

send_goes : (offered : ℕ) (e : Endpoint) (o : Option Outcome) → L e o → LeavesGone (calls.Send offered) e o
send_goes offered e None s = tt
send_goes offered e (Some o) s = record { went = s.stays.tx; deep = s.stays.deep }

step_goes : (e : Endpoint) (tick : ℕ) (call : Call) (reply : Reply) → Valid e
    → LeavesGone call e (step e tick call reply)
unfolding step going ticks
step_goes e tick (calls.Connect iss) reply v = tt
step_goes e tick (calls.Passive frame iss seg) reply v = tt
step_goes e tick (calls.Rx frame seg) reply v =
    let h : Hears (λ n. Unit {0}) e _ = rx_hears (λ n. Unit {0}) e tick seg (λ r s. tt) in
    record { went = h.stays.tx; deep = h.stays.deep }
step_goes e tick calls.Emit reply v = emit_goes e (going_in (column e) e) (going_goes e (column e) v)
step_goes e tick calls.Tick reply v =
    timed_gone e (tick_in (phase e) (record e { rate = filled e.rate }) tick)
    (tick_goes (phase e) (record e { rate = filled e.rate }) tick)
step_goes e tick calls.Control reply v = control_goes e _ (control_same e (column e))
step_goes e tick calls.Accept reply v = accept_goes e _ (accept_same e (column e))
step_goes e tick calls.Ready reply v =
    let s = ready_same e (column e) in record { went = s.stays.tx; deep = s.stays.deep }
step_goes e tick (calls.Send offered) reply v =
    send_goes offered e _ (send_same e (column e) offered (taken_bytes reply))
step_goes e tick (calls.Recv most) reply v =
    let s = recv_same e (column e) most in record { went = s.stays.tx; deep = s.stays.deep }
step_goes e tick calls.Shut reply v =
    let s = shut_same e (column e) in record { went = s.stays.tx; deep = s.stays.deep }
step_goes e tick calls.Close reply v =
    let s = close_same e (column e) in record { went = s.stays.tx; deep = s.stays.deep }
step_goes e tick calls.Abort reply v =
    let s = abort_same e (column e) in record { went = s.stays.tx; deep = s.stays.deep }

given_goes : (call : Call) (e : Endpoint) (o : Option Outcome) (reply : Reply) → Gives o reply → LeavesGone call e o
    → Goes call e (state_or e o)
given_goes call e None reply gives g = absurd gives
given_goes call e (Some o) reply gives g = g

-- ----- what an entry costs
-- no more goes where nothing is sent
gone_stays : (e f : Endpoint) (bytes : List ℕ) → Valid e → f.tx.max ≡ e.tx.max → f.tx.out ≡ e.tx.out ++ bytes
    → (e.tx.shut ≡ true → bytes ≡ []) → gone f ≤ gone e
gone_stays e f bytes v max out shut = by_shut e.tx.shut refl
  where
    long : length f.tx.out ≡ length e.tx.out + length bytes
    long = ap length out ∙ length-append e.tx.out bytes

    by_shut : (b : Bool) → e.tx.shut ≡ b → gone f ≤ gone e
    by_shut true h = omega (arith, max, long, ap length (shut h))
    by_shut false h =
        omega (arith, max, long, subst (λ (b : Bool). e.tx.max ≤ length e.tx.out + 1 + one_if b) h v.tx.max)

sends_by : (call : Call) (e f : Endpoint) (reply : Reply) → Valid e → Went call e f
    → Moves (fill_by e call) (data_by e call) e (record { state = f; reply = reply })
    → gone f + one_if f.tx.probe ≤ gone e + one_if e.tx.probe + data_by e call + one_if (is_tick call)
sends_by calls.Emit e f reply v went m = omega (arith, went)
sends_by calls.Tick e f reply v went m =
    let few : one_if f.tx.probe ≤ 1 = at_most_one f.tx.probe in
    omega (arith, few, gone_stays e f (taken_bytes reply) v went m.out (λ s. (m.shut s).1))
  where
    at_most_one : (b : Bool) → one_if b ≤ 1
    at_most_one true = omega arith
    at_most_one false = omega arith
sends_by _ e f reply v went m =
    omega (arith, went.probe, gone_stays e f (taken_bytes reply) v went.max m.out (λ s. (m.shut s).1))

nothing_paid : (e : Endpoint) (call : Call) → e.peer ≡ None → data_by e call ≡ 0
nothing_paid e calls.Emit none = by_peer e.peer none
  where
    by_reason : (o : Option Reason) → data_in (column_by o None e.tx.una) e ≡ 0
    by_reason None = refl
    by_reason (Some why) = refl

    by_peer : (o : Option ℕ) → o ≡ None → data_in (column_by e.reason o e.tx.una) e ≡ 0
    by_peer (Some n) h = absurd (cc (h))
    by_peer None h = by_reason e.reason
nothing_paid e _ none = refl

credit_pays : (ep fp : Option ℕ) (et ft paid fill : ℕ) → ft ≤ 65535 → (IsSome ep → IsSome fp × (paid + ft ≤ et + fill))
    → (ep ≡ None → paid ≡ 0)
    → credit fp ft + paid ≤ credit ep et + fill
credit_pays None None et ft paid fill low bucket none = omega (arith, none refl)
credit_pays None (Some n) et ft paid fill low bucket none = omega (arith, none refl, low)
credit_pays (Some n) None et ft paid fill low bucket none = absurd (true≢false (sym (bucket refl).0))
credit_pays (Some n) (Some k) et ft paid fill low bucket none = omega (arith, (bucket refl).1)

credit_low : (p : Option ℕ) (tokens : ℕ) → tokens ≤ 65535 → credit p tokens ≤ 65535
credit_low None tokens low = omega arith
credit_low (Some n) tokens low = low

low_tokens : (e : Endpoint) → Valid e → IsDeep e.rate → e.rate.tokens ≤ 65535
low_tokens e v deep = omega (arith, v.rate.tokens, v.rate.cwnd, deep)

costs : (call : Call) (e f : Endpoint) (reply : Reply) → Valid e → f.rate.tokens ≤ 65535 → Went call e f
    → Moves (fill_by e call) (data_by e call) e (record { state = f; reply = reply })
    → spent f ≤ spent e + 65536 * one_if (is_tick call)
costs calls.Tick e f reply v low went m =
    omega (arith, sends_by calls.Tick e f reply v went m, credit_low f.peer f.rate.tokens low)
costs calls.Emit e f reply v low went m =
    omega (
      arith,
      sends_by calls.Emit e f reply v went m,
      credit_pays e.peer f.peer e.rate.tokens f.rate.tokens
          (data_by e calls.Emit) 0 low m.bucket (nothing_paid e calls.Emit),
    )
costs _ e f reply v low went m =
    omega (
      arith,
      went.probe,
      gone_stays e f (taken_bytes reply) v went.max m.out
          (λ s. (m.shut s).1),
      credit_pays e.peer f.peer e.rate.tokens f.rate.tokens 0 0 low m.bucket (λ n. refl),
    )

-- ----- every history
record Spent (n : ℕ) (e : Endpoint) : Type 0 where
  pub most : spent e ≤ 65535 + 65536 * n
  pub deep : IsDeep e.rate

opened_spent : (params : HostParams) (call : Call) → Valid (opened params call) → Spent 0 (opened params call)
opened_spent params (calls.Connect iss) v = record { most = omega arith; deep = refl }
opened_spent params (calls.Passive frame iss seg) v =
    record { most = omega (arith, low_tokens (opened params (calls.Passive frame iss seg)) v refl); deep = refl }
opened_spent params _ v = record { most = omega arith; deep = refl }

ticks_push : (h : List Entry) (x : Entry) → ticks_in (h ++ x ∷ []) ≡ ticks_in h + one_if (is_tick x.call)
ticks_push [] x = omega arith
ticks_push (y ∷ h) x =
    let rest : ticks_in (h ++ x ∷ []) ≡ ticks_in h + one_if (is_tick x.call) = ticks_push h x in omega arith

first_is_no_tick : (x : Entry) → IsFirst x → ticks_in (x ∷ []) ≡ 0
first_is_no_tick x first = by_call x.call first.opens
  where
    by_call : (call : Call) → Opens call → one_if (is_tick call) + 0 ≡ 0
    by_call (calls.Connect iss) o = refl
    by_call (calls.Passive frame iss seg) o = refl
    by_call _ o = absurd o

all_spent : (params : HostParams) (h : List Entry) → InRange params → Legal params h
    → Spent (ticks_in h) (replay params h)
all_spent params h fits legal =
    legal_induction params (λ (es : List Entry). Spent (ticks_in es) (replay params es))
    (λ x first. subst (λ (n : ℕ). Spent n (replay params (x ∷ []))) (sym (first_is_no_tick x first))
    (subst (Spent 0) (sym (replay_first params x))
    (opened_spent params x.call (subst Valid (replay_first params x) (valid_replay params (x ∷ []) fits (first, tt))))))
    (λ es x before so_far may. after es x before so_far may)
    h legal
  where
    after : (es : List Entry) (x : Entry) → Legal params es → Spent (ticks_in es) (replay params es)
        → MayFollow params es x → Spent (ticks_in (es ++ x ∷ [])) (replay params (es ++ x ∷ []))
    after es x before so_far may =
        let e : Endpoint = replay params es in
        let f : Endpoint = moved e x in
        let same : replay params (es ++ x ∷ []) ≡ f = replay_push params es x before in
        let v : Valid e = valid_replay params es fits before in
        let w : Valid f = subst Valid same
        (valid_replay params (es ++ x ∷ []) fits (legal_push params es x before may)) in
        let goes : Goes x.call e f = given_goes x.call e (step e x.tick x.call x.reply) x.reply may.step
        (step_goes e x.tick x.call x.reply v) in
        let deep : IsDeep f.rate = goes.deep so_far.deep in
        let cost : spent f ≤ spent e + 65536 * one_if (is_tick x.call) = costs x.call e f x.reply v
        (low_tokens f w deep) goes.went (entry_moves params es x fits before may) in
        let more : ticks_in (es ++ x ∷ []) ≡ ticks_in es + one_if (is_tick x.call) = ticks_push es x in
        let all : Spent (ticks_in (es ++ x ∷ [])) f =
        record { most = omega (arith, cost, more, so_far.most); deep = deep } in
        subst (Spent (ticks_in (es ++ x ∷ []))) (sym same) all

pub time_bounds : (params : HostParams) (h : List Entry) → InRange params → Legal params h
    → length (accepted h) ≤ 65536 * (ticks_in h + 17)
time_bounds params h fits legal =
    let e : Endpoint = replay params h in
    let v : Valid e = valid_replay params h fits legal in
    let s : Spent (ticks_in h) e = all_spent params h fits legal in
    let out : length e.tx.out ≡ length (accepted h) = ap length (out_is_accepted params h fits legal) in
    let low : gone e ≤ 65535 + 65536 * ticks_in h = omega (arith, s.most) in
    omega (arith, out, low, v.tx.una, v.tx.nxt, v.tx.room, v.fits.ring)
