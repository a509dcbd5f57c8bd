-- What a core does leaves an opening flow opening, a running one running, and a closed one closed, for the law
-- deeds_leave_the_column.
use Rattle.std.proofs.Common.{◌≡◌, ℕ, ◌+◌, ◌==◌, ◌&&◌, not, Bool, true, false, [], length}
use Rattle.std.proofs.Common.{refl, sym, ap, ◌∙◌}
use Rattle.std.proofs.Common.{subst, arith}
use Rattle.std.specs.Prelude.{Option, Some, None, if◌then◌else◌, nat_lt, max, ⊤}
use Rattle.std.proofs.lemmas.Bool.Decides.{nat_tests}
use Rattle.tas_model.specs.declared.entry.Entry.{Entry}
use Rattle.tas_model.specs.declared.entry.Caller.{Caller}
use Rattle.tas_model.specs.declared.entry.Caller.TheVariants.{Core}
use Rattle.tas_model.specs.declared.entry.Call.{Call}
use Rattle.tas_model.specs.declared.entry.Call.TheVariants as calls
use Rattle.tas_model.specs.declared.entry.FrameId.{FrameId}
use Rattle.tas_model.specs.declared.entry.Phase.{Phase}
use Rattle.tas_model.specs.declared.entry.Phase.TheVariants as phases
use Rattle.tas_model.specs.declared.entry.Reason.{Reason}
use Rattle.tas_model.specs.declared.entry.Reason.TheVariants as reasons
use Rattle.tas_model.specs.declared.entry.Reply.{Reply}
use Rattle.tas_model.specs.declared.entry.Seg.{Seg}
use Rattle.tas_model.specs.Endpoint.{Endpoint, Sending, phase, wnd, next_place}
use Rattle.tas_model.specs.Segments.{offered_window, bare, Outcome, is_rst, is_syn, is_ack, seg_len}
use Rattle.tas_model.specs.ApplicationCalls.{Column, Opening, Over, Running, column, column_by}
use Rattle.tas_model.specs.LegalHistory.{moved, step, state_or, last_tick}
use Rattle.tas_model.specs.NextSegment.{Going, going, going_in, going_data, going_probe, going_fin, emitted, data_len}
use Rattle.tas_model.specs.NextSegment.{syn_head, past, waiting}
use Rattle.tas_model.specs.Receive.{place_of_seq, place_of_ack, rx, rx_in, rx_later, by_verdict, verdict, verdict_at}
use Rattle.tas_model.specs.Receive.{verdict_of_place, refused, Verdict}
use Rattle.tas_model.specs.Receive.{is_acceptable}
use Rattle.tas_model.specs.Receive as receive
use Rattle.tas_model.specs.Receive.{AckVerdict, ack_verdict, after_duplicate, after_advance, moves_window}
use Rattle.tas_model.specs.Receive.{with_window}
use Rattle.tas_model.specs.Receive.{sending_after, closes, after_ack, after_data, taken, bare_ack}
use Rattle.tas_model.proofs.Tests.{on_cond}
use Rattle.tas_model.proofs.Histories.{replay_push}
use Rattle.flow_state.specs.Flow.{next_entry, reply_to}
use Rattle.flow_state.specs.Calls.{seg_of}
use Rattle.fast_rx.specs.Exceptions.{is_common}
use Rattle.flow_lock.specs.declared.view.Deed.{Deed}
use Rattle.flow_lock.specs.declared.view.History.{History}
use Rattle.host_books.specs.Indexes.{endpoint_of}
use Rattle.host_books.specs.Tries.{Adds}
use Rattle.core_worker.specs.declared.frames.Frame.{Frame}
use Rattle.core_phase.specs.Deeds.{IsRx, IsSend, KeepsColumn}
use Rattle.core_phase.proofs.Fast.{common_at, no_reset}

-- ----- what the column is read from
-- why it is closed, whether the peer's SYN was taken, and whether the own one is acknowledged
abbrev Keeps : Endpoint → Endpoint → Type 0
Keeps e k = (k.reason ≡ e.reason) × (k.peer ≡ e.peer) × ((k.tx.una == 0) ≡ (e.tx.una == 0))

column_of_tests : (why : Option Reason) (peer : Option ℕ) (a b : ℕ) → (a == 0) ≡ (b == 0)
    → column_by why peer a ≡ column_by why peer b
column_of_tests (Some why) peer a b e = refl
column_of_tests None None a b e = refl
column_of_tests None (Some first) a b e = ap (λ (t : Bool). if t then Opening else Running) e

keeps_column : (e k : Endpoint) → Keeps e k → column k ≡ column e
keeps_column e k s =
    (λ i. column_by (s.0 i) (s.1 i) k.tx.una) ∙ column_of_tests e.reason e.peer k.tx.una e.tx.una s.2

-- ----- acknowledgements
-- the place that is acknowledged only grows
abbrev IsPast : Sending → Type 0
IsPast tx = (tx.una == 0) ≡ false

advanced : (tx : Sending) (a : ℕ) → IsPast tx → IsPast (after_advance tx a)
advanced tx a h = on_cond IsPast (nat_lt tx.una a) _ tx (λ t. grind (arith, nat_tests, t, h)) (λ f. h)

doubled : (tx : Sending) (a len window : ℕ) → IsPast tx → IsPast (after_duplicate tx a len window)
doubled tx a len window h = on_cond IsPast _ _ tx (λ t. h) (λ f. h)

acked : (tx : Sending) (a q len window : ℕ) → IsPast tx → IsPast (sending_after tx a q len window)
acked tx a q len window h =
    let m : Sending = after_advance (after_duplicate tx a len window) a in
    let past : IsPast m = advanced (after_duplicate tx a len window) a (doubled tx a len window h) in
    on_cond IsPast (moves_window tx a q) (with_window m a q window) m (λ t. past) (λ f. past)

closes_not : (p : Phase) (tx : Sending) → is_common p ≡ true → closes p tx ≡ false
closes_not phases.Established tx e = refl
closes_not phases.FinWait1 tx e = refl
closes_not phases.FinWait2 tx e = refl
closes_not phases.CloseWait tx e = refl
closes_not phases.SynSent tx e = absurd (cc e)
closes_not phases.SynReceived tx e = absurd (cc e)
closes_not phases.Closing tx e = absurd (cc e)
closes_not phases.LastAck tx e = absurd (cc e)
closes_not phases.TimeWait tx e = absurd (cc e)
closes_not phases.Closed tx e = absurd (cc e)

ack_keeps : (e : Endpoint) (tick a q len window : ℕ) → is_common (phase e) ≡ true → IsPast e.tx
    → Keeps e (after_ack e tick a q len window)
ack_keeps e tick a q len window open_ past = (
  ap (λ (b : Bool). if b then Some reasons.Done else e.reason)
      (closes_not (phase e) (sending_after e.tx a q len window) open_),
  refl,
  acked e.tx a q len window past ∙ sym past,
)

data_keeps : (e k : Endpoint) (tick window q : ℕ) (seg : Seg) → Keeps e k → Keeps e (after_data k tick window q seg)
data_keeps e k tick window q seg s = on_cond (Keeps e) _ _ _ (λ t. s) (λ f. s)

-- ----- segments
module _ (e : Endpoint) (tick : ℕ) (seg : Seg) (open_ : is_common (phase e) ≡ true) (begun : IsPast e.tx) where
  abbrev P : Outcome → Type 0
  P o = Keeps e o.state

  same : Keeps e e
  same = (refl, refl, refl)

  taken_keeps : (q : ℕ) (v : AckVerdict) → P (taken e tick q seg v)
  taken_keeps q receive.Stray = same
  taken_keeps q receive.TooFar = same
  taken_keeps q receive.Good =
      let a : Endpoint = after_ack e tick (place_of_ack e seg) q (seg_len seg) (offered_window e.scaling seg) in
      data_keeps e a tick (wnd e) q seg
      (ack_keeps e tick (place_of_ack e seg) q (seg_len seg) (offered_window e.scaling seg) open_ begun)

  bare_keeps : (v : AckVerdict) → P (bare_ack e tick seg v)
  bare_keeps receive.Stray = same
  bare_keeps receive.TooFar = same
  bare_keeps receive.Good =
      ack_keeps e tick (place_of_ack e seg) (next_place e.rx) (seg_len seg) (offered_window e.scaling seg) open_ begun

  -- nobody resets
  abbrev NoReset : Verdict → Type 0
  NoReset receive.Reset = ⊥
  NoReset v = ⊤

  verdict_keeps : (v : Verdict) → NoReset v → P (by_verdict e tick seg v)
  verdict_keeps receive.Dropped n = same
  verdict_keeps receive.Answered n = same
  verdict_keeps receive.Reset n = absurd n
  verdict_keeps receive.BareAck n =
      on_cond P (is_ack seg) _ _ (λ t. bare_keeps (ack_verdict e.tx (place_of_ack e seg))) (λ f. same)
  verdict_keeps (receive.Taken q) n = taken_keeps q (ack_verdict e.tx (place_of_ack e seg))

  module _ (plain : is_rst seg ≡ false) where
    refused_not : NoReset (refused seg)
    refused_not = subst (λ b. NoReset (if b then receive.Dropped else receive.Answered)) (sym plain) tt

    reset_by : (ok bare rst equal syn ack : Bool) (q : ℕ) → rst ≡ false
        → NoReset (if not ok then (if bare then receive.BareAck else if rst then receive.Dropped else receive.Answered)
        else if rst then (if equal then receive.Reset else receive.Answered)
        else if syn then receive.Answered
        else if ack then receive.Taken q
        else receive.Dropped)
    reset_by ok bare true equal syn ack q e = absurd (cc e)
    reset_by false true false equal syn ack q e = tt
    reset_by false false false equal syn ack q e = tt
    reset_by true bare false equal true ack q e = tt
    reset_by true bare false equal false true q e = tt
    reset_by true bare false equal false false q e = tt

    reset_not : (r window q : ℕ) → NoReset (verdict_at r window q seg)
    reset_not r window q =
        reset_by (is_acceptable r window q (seg_len seg))
        (window == 0 && q == r && not (is_rst seg) && not (is_syn seg))
        (is_rst seg) (q == r) (is_syn seg) (is_ack seg) q plain

    place_not : (o : Option ℕ) (r window : ℕ) → NoReset (verdict_of_place o r window seg)
    place_not None r window = refused_not
    place_not (Some q) r window = reset_not r window q

    later_keeps : P (rx_later e tick seg)
    unfolding rx_later
    later_keeps = verdict_keeps (verdict e seg) (place_not (place_of_seq e seg) (next_place e.rx) (wnd e))

    in_phase : (p : Phase) → is_common p ≡ true → P (rx_in p e tick seg)
    in_phase phases.Established c = later_keeps
    in_phase phases.FinWait1 c = later_keeps
    in_phase phases.FinWait2 c = later_keeps
    in_phase phases.CloseWait c = later_keeps
    in_phase phases.SynSent c = absurd (cc c)
    in_phase phases.SynReceived c = absurd (cc c)
    in_phase phases.Closing c = absurd (cc c)
    in_phase phases.LastAck c = absurd (cc c)
    in_phase phases.TimeWait c = absurd (cc c)
    in_phase phases.Closed c = absurd (cc c)

    rx_keeps : P (rx e tick seg)
    unfolding rx
    rx_keeps = in_phase (phase e) open_

-- in an open phase the own SYN is acknowledged
past_opening : (e : Endpoint) → is_common (phase e) ≡ true → IsPast e.tx
past_opening e open_ = by_una (e.tx.una == 0) refl
  where
    by_peer : (why : Option Reason) (peer : Option ℕ) → e.reason ≡ why → e.peer ≡ peer → (e.tx.una == 0) ≡ true
        → is_common (phase e) ≡ false
    by_peer (Some why) peer r p z = rw r refl
    by_peer None None r p z = rw (r, p) refl
    by_peer None (Some first) r p z = rw (r, p, z) refl

    by_una : (b : Bool) → (e.tx.una == 0) ≡ b → IsPast e.tx
    by_una false z = z
    by_una true z = absurd (cc (sym open_ ∙ by_peer e.reason e.peer refl refl z))

-- ----- what is sent
abbrev GoesOn : Endpoint → Option Going → Type 0
GoesOn e None = ⊤
GoesOn e (Some g) = Keeps e g.after

running_keeps : (e : Endpoint) (a b c : Bool)
    → GoesOn e (if a then Some (going_data e (data_len e))
    else if b then Some (going_probe e) else if c then Some (going_fin e) else None)
running_keeps e true b c = (refl, refl, refl)
running_keeps e false true c = (refl, refl, refl)
running_keeps e false false true = (refl, refl, refl)
running_keeps e false false false = tt

opening_keeps : (e : Endpoint) (a : Bool)
    → GoesOn e (if a then Some (record { seg = bare (syn_head e e.peer); after = record e { tx = past e.tx 1 } })
    else None)
opening_keeps e true = (refl, refl, refl)
opening_keeps e false = tt

going_keeps : (e : Endpoint) (c : Column) → GoesOn e (going_in c e)
going_keeps e Opening = opening_keeps e (e.tx.nxt == 0)
going_keeps e (Over why) = tt
going_keeps e Running =
    running_keeps e (nat_lt 0 (data_len e))
    (e.tx.probe && e.tx.window == 0 && e.tx.nxt == e.tx.una && nat_lt 0 (waiting e.tx))
    (e.tx.shut && e.tx.nxt == 1 + length e.tx.out)

is_going : (e : Endpoint) → GoesOn e (going e)
unfolding going
is_going e = going_keeps e (column e)

emitted_keeps : (e : Endpoint) (o : Option Going) → GoesOn e o → Keeps e (state_or e (emitted o))
emitted_keeps e None k = (refl, refl, refl)
emitted_keeps e (Some g) k = k

emit_keeps : (e : Endpoint) (t : ℕ) (reply : Reply) → Keeps e (state_or e (step e t calls.Emit reply))
unfolding step
emit_keeps e t reply = emitted_keeps e (going e) (is_going e)

rx_step : (e : Endpoint) (t : ℕ) (frame : FrameId) (seg : Seg) (reply : Reply) → is_common (phase e) ≡ true
    → is_rst seg ≡ false → Keeps e (state_or e (step e t (calls.Rx frame seg) reply))
unfolding step
rx_step e t frame seg reply open_ plain = rx_keeps e t seg open_ (past_opening e open_) plain

-- ----- one deed
keeps_by : (by : Caller) (t : ℕ) (call : Call) (d : Deed) → Adds by t call [] d
    → Keeps (endpoint_of d.before) (moved (endpoint_of d.before)
    (next_entry d.before.entries by t call (reply_to d.before.params d.before.entries t call []))) → KeepsColumn d
keeps_by by t call d a k =
    let h : History = d.before in
    let x : Entry = next_entry h.entries by t call (reply_to h.params h.entries t call []) in
    ap (λ (l : History). column (endpoint_of l)) a.made
    ∙ (ap column (replay_push h.params h.entries x a.legal) ∙ keeps_column (endpoint_of h) (moved (endpoint_of h) x) k)

pub rx_column : (check : Bool) (core t : ℕ) (f : Frame) (d : Deed) → IsRx check core t f d → KeepsColumn d
rx_column check core t f d r =
    let h : History = d.before in
    let e : Endpoint = endpoint_of h in
    let call : Call = calls.Rx f.id (seg_of r.seg) in
    keeps_by (Core core) t call d r.adds
    (rx_step e (max t (last_tick 0 h.entries)) f.id (seg_of r.seg) (reply_to h.params h.entries t call [])
    (common_at (phase e) r.seg r.fast) (no_reset (phase e) r.seg r.fast))

pub send_column : (core t : ℕ) (d : Deed) → IsSend core t d → KeepsColumn d
send_column core t d s =
    let h : History = d.before in
    keeps_by (Core core) t calls.Emit d s.adds
    (emit_keeps (endpoint_of h) (max t (last_tick 0 h.entries)) (reply_to h.params h.entries t calls.Emit []))
