-- Where this side offers no shift, windows are as they were without the option.
use Rattle.std.proofs.Common.{◌≡◌, ℕ, ◌*◌, ◌/◌, ◌^◌, Bool, true, false, cond, not, ◌&&◌, List}
use Rattle.std.proofs.Common.{min, max, Option, Some, None, refl, sym, ap, ◌∙◌, arith, true≢false, leb, eqb}
use Rattle.tas_model.specs.declared.entry.HostParams.{HostParams}
use Rattle.tas_model.specs.declared.entry.Entry.{Entry}
use Rattle.tas_model.specs.declared.entry.Phase.{Phase}
use Rattle.tas_model.specs.declared.entry.Phase.TheVariants as phases
use Rattle.tas_model.specs.declared.entry.Reason.TheVariants as reasons
use Rattle.tas_model.specs.declared.entry.Reply.TheVariants as replies
use Rattle.tas_model.specs.declared.entry.Seg.{Seg}
use Rattle.tas_model.specs.Endpoint.{Endpoint, Scaling, unscaled, agreed_scaling, free, wnd, window_field, phase}
use Rattle.tas_model.specs.Endpoint.{next_place}
use Rattle.tas_model.specs.Segments.{Outcome, offered_window, is_syn, is_ack, is_rst, acks, resets, unchanged, bare}
use Rattle.tas_model.specs.NextSegment.{syn_head, past}
use Rattle.tas_model.specs.ApplicationCalls.{least_update}
use Rattle.tas_model.specs.Receive.{rx, rx_in, rx_later, rx_syn_sent, connected, place_of_ack, place_of_seq, verdict}
use Rattle.tas_model.specs.Receive.{AckVerdict, Stray, TooFar, Good, Verdict, Dropped, Answered, Reset, BareAck, Taken}
use Rattle.tas_model.specs.Receive.{taken, bare_ack, by_verdict, verdict_of_place, ack_verdict}
use Rattle.tas_model.specs.declared.entry.Call.{Call}
use Rattle.tas_model.specs.declared.entry.Call.TheVariants as calls
use Rattle.tas_model.specs.LegalHistory.{replay, opened, Legal}
use Rattle.tas_model.specs.Outputs.{sent}
use Rattle.tas_model.specs.Valid.{ValidScaling, InRange}
use Rattle.tas_model.specs.Shifts.{with_scale, AllBearInSyn, AllBearNone}
use Rattle.tas_model.proofs.Histories.{legal_induction, replay_push, replay_first}
use Rattle.tas_model.proofs.ValidCalls.{valid_replay}
use Rattle.tas_model.proofs.MovesLaws.{entry_moves}
use Rattle.tas_model.proofs.EachSegment.{Shows, AllHave, all_as, sent_shows}

-- ----- the terms of the rules
pub plain_wnd : (e : Endpoint) → e.scaling ≡ unscaled → wnd e ≡ min (free e) 65535
plain_wnd e is = ap (λ (s : Scaling). min (free e) (65535 * 2 ^ s.rs)) is

pub plain_field : (e : Endpoint) → e.scaling ≡ unscaled → window_field e ≡ min (free e) 65535
plain_field e is =
    let one : min (free e) 65535 / 1 ≡ min (free e) 65535 = omega arith in
    ap (λ (s : Scaling). min (free e) (65535 * 2 ^ s.rs) / 2 ^ s.rs) is ∙ one

pub plain_offer : (s : Scaling) (seg : Seg) → s ≡ unscaled → offered_window s seg ≡ seg.head.window
plain_offer s seg is =
    ap (λ (t : Scaling). offered_window t seg) is ∙ by_syn (is_syn seg)
  where
    by_syn : (b : Bool) → cond b seg.head.window (seg.head.window * 1) ≡ seg.head.window
    by_syn true = refl
    by_syn false = omega arith

pub plain_update : (e : Endpoint) → InRange e.params → e.scaling ≡ unscaled
    → least_update e ≡ min e.params.mss (e.params.ring / 2)
plain_update e fits is =
    let low : max 1 (min e.params.mss (e.params.ring / 2)) ≡ min e.params.mss (e.params.ring / 2) =
    omega (arith, fits.mss, fits.ring) in
    ap (λ (s : Scaling). max (2 ^ s.rs) (min e.params.mss (e.params.ring / 2))) is ∙ low

-- ----- which histories have them
pub alone_unscaled : (p : HostParams) (peer : Option ℕ) (s : Scaling) → ValidScaling p peer s → p.scale ≡ None
    → s ≡ unscaled
alone_unscaled p peer s v none = by_agreed s.agreed refl
  where
    by_agreed : (b : Bool) → s.agreed ≡ b → s ≡ unscaled
    by_agreed false is = v.alone is
    by_agreed true is = absurd (cc (v.own is, none))

same_params : (params : HostParams) (h : List Entry) → InRange params → Legal params h
    → (replay params h).params ≡ params
same_params params h fits legal =
    legal_induction params (λ (es : List Entry). (replay params es).params ≡ params)
    (λ x first. ap (λ (e : Endpoint). e.params) (replay_first params x) ∙ opened_params x.call)
    (λ es x before so_far may. ap (λ (e : Endpoint). e.params) (replay_push params es x before)
    ∙ ((entry_moves params es x fits before may).keeps.params ∙ so_far))
    h legal
  where
    opened_params : (call : Call) → (opened params call).params ≡ params
    opened_params (calls.Connect iss) = refl
    opened_params (calls.Passive frame iss seg) = refl
    opened_params _ = refl

pub replay_unscaled : (params : HostParams) (h : List Entry) → InRange params → params.scale ≡ None → Legal params h
    → (replay params h).scaling ≡ unscaled
replay_unscaled params h fits none legal =
    let e : Endpoint = replay params h in
    alone_unscaled e.params e.peer e.scaling (valid_replay params h fits legal).scaling
    (ap (λ (p : HostParams). p.scale) (same_params params h fits legal) ∙ none)

-- ----- what both sides offer
pub theirs_alone : (own : Option ℕ) → agreed_scaling own None ≡ unscaled
theirs_alone None = refl
theirs_alone (Some own) = refl

-- ----- what is received
same_scaling : (own a b : Option ℕ) → own ≡ None → agreed_scaling own a ≡ agreed_scaling own b
same_scaling own a b none = ap (λ (o : Option ℕ). agreed_scaling o a) none
    ∙ sym (ap (λ (o : Option ℕ). agreed_scaling o b) none)

same_connected : (e : Endpoint) (seg : Seg) (scale : Option ℕ) → e.params.scale ≡ None
    → connected e (with_scale seg scale) ≡ connected e seg
same_connected e seg scale none =
    ap (λ (s : Scaling). record (connected e seg) { scaling = s })
    (same_scaling e.params.scale scale seg.head.scale none)

same_taken : (e : Endpoint) (tick q : ℕ) (seg : Seg) (scale : Option ℕ) (a : AckVerdict)
    → taken e tick q (with_scale seg scale) a ≡ taken e tick q seg a
same_taken e tick q seg scale Stray = refl
same_taken e tick q seg scale TooFar = refl
same_taken e tick q seg scale Good = refl

same_bare : (e : Endpoint) (tick : ℕ) (seg : Seg) (scale : Option ℕ) (a : AckVerdict)
    → bare_ack e tick (with_scale seg scale) a ≡ bare_ack e tick seg a
same_bare e tick seg scale Stray = refl
same_bare e tick seg scale TooFar = refl
same_bare e tick seg scale Good = refl

same_heard : (e : Endpoint) (tick : ℕ) (seg : Seg) (scale : Option ℕ) (d : Verdict)
    → by_verdict e tick (with_scale seg scale) d ≡ by_verdict e tick seg d
same_heard e tick seg scale Dropped = refl
same_heard e tick seg scale Answered = refl
same_heard e tick seg scale Reset = refl
same_heard e tick seg scale BareAck = ap (λ (o : Outcome). cond (is_ack seg) o (unchanged e (acks e)))
    (same_bare e tick seg scale (ack_verdict e.tx (place_of_ack e seg)))
same_heard e tick seg scale (Taken q) = same_taken e tick q seg scale (ack_verdict e.tx (place_of_ack e seg))

same_verdict : (o : Option ℕ) (r window : ℕ) (seg : Seg) (scale : Option ℕ)
    → verdict_of_place o r window (with_scale seg scale) ≡ verdict_of_place o r window seg
same_verdict None r window seg scale = refl
same_verdict (Some q) r window seg scale = refl

same_later : (e : Endpoint) (tick : ℕ) (seg : Seg) (scale : Option ℕ)
    → rx_later e tick (with_scale seg scale) ≡ rx_later e tick seg
unfolding rx_later
same_later e tick seg scale =
    ap (by_verdict e tick (with_scale seg scale))
    (same_verdict (place_of_seq e seg) (next_place e.rx) (wnd e) seg scale)
    ∙ same_heard e tick seg scale (verdict e seg)

same_rx_in : (ph : Phase) (e : Endpoint) (tick : ℕ) (seg : Seg) (scale : Option ℕ) → e.params.scale ≡ None
    → rx_in ph e tick (with_scale seg scale) ≡ rx_in ph e tick seg
unfolding rx_syn_sent
same_rx_in phases.Closed e tick seg scale none = refl
same_rx_in phases.SynSent e tick seg scale none = ap (outcome e seg) (same_connected e seg scale none)
  where
    outcome : Endpoint → Seg → Endpoint → Outcome
    outcome e seg x =
        cond (is_ack seg && not (eqb (place_of_ack e seg) 1 && leb 1 e.tx.max))
        (unchanged e (cond (is_rst seg) replies.Nothing (resets seg.head.ack)))
        (cond (is_rst seg) (record {
          state = cond (is_ack seg) (record e { reason = Some reasons.Refused }) e;
          reply = replies.Nothing;
        })
        (cond (is_syn seg && is_ack seg) (record { state = x; reply = acks x }) (unchanged e replies.Nothing)))
same_rx_in _ e tick seg scale none = same_later e tick seg scale

-- the shift of a segment that is received makes no difference
pub same_rx : (e : Endpoint) (tick : ℕ) (seg : Seg) (scale : Option ℕ) → e.params.scale ≡ None
    → rx e tick (with_scale seg scale) ≡ rx e tick seg
unfolding rx
same_rx e tick seg scale none = same_rx_in (phase e) e tick seg scale none

-- ----- what is sent
abbrev P : (b e : Endpoint) → Seg → Type 0
P b e seg = (is_syn seg ≡ false → seg.head.scale ≡ None)
    × (e.params.scale ≡ None → seg.head.scale ≡ None)

syn_bears : (e : Endpoint) (o : Option ℕ) → P e (record e { tx = past e.tx 1 }) (bare (syn_head e o))
syn_bears e None = (λ p. absurd (true≢false p), λ none. none)
syn_bears e (Some first) = (λ p. absurd (true≢false p), λ none. by_agreed e.scaling.agreed none)
  where
    by_agreed : (b : Bool) → e.params.scale ≡ None → cond b e.params.scale None ≡ None
    by_agreed true none = none
    by_agreed false none = refl

each_bears : Shows P
each_bears = record {
  ack = λ b e. (λ p. refl, λ none. refl);
  reset = λ b e head rst plain none. (λ p. none, λ q. none);
  syn = λ e. syn_bears e e.peer;
  payload = λ e is. (λ p. refl, λ none. refl);
  probe = λ e is. (λ p. refl, λ none. refl);
  fin = λ e t. (λ p. refl, λ none. refl);
}

-- a shift stands in a SYN alone
pub bear_in_syn : (params : HostParams) (h : List Entry) → InRange params → Legal params h → AllBearInSyn (sent h)
bear_in_syn params h fits legal =
    all_as (λ seg. is_syn seg ≡ false → seg.head.scale ≡ None) AllBearInSyn tt (λ seg segs one rest. (one, rest))
    (sent h)
    (sent_shows P each_bears (λ e seg. is_syn seg ≡ false → seg.head.scale ≡ None) params fits
    (λ b e seg v p. p.0) (λ es x before may seg q. q) h legal)

-- and nowhere where this side offers none
pub bear_none : (params : HostParams) (h : List Entry) → InRange params → params.scale ≡ None → Legal params h
    → AllBearNone (sent h)
bear_none params h fits none legal =
    all_as (λ seg. seg.head.scale ≡ None) AllBearNone tt (λ seg segs one rest. (one, rest)) (sent h)
    (all_have (sent_shows P each_bears (λ e seg. e.params.scale ≡ None → seg.head.scale ≡ None) params fits
    (λ b e seg v p. p.1)
    (λ es x before may seg q last. q (ap (λ (p : HostParams). p.scale)
    (sym (entry_moves params es x fits before may).keeps.params) ∙ last)) h legal))
  where
    own : (replay params h).params.scale ≡ None
    own = ap (λ (p : HostParams). p.scale) (same_params params h fits legal) ∙ none

    all_have : AllHave (λ seg. (replay params h).params.scale ≡ None → seg.head.scale ≡ None) (sent h)
        → AllHave (λ seg. seg.head.scale ≡ None) (sent h)
    all_have = all_as (λ seg. (replay params h).params.scale ≡ None → seg.head.scale ≡ None)
        (AllHave (λ seg. seg.head.scale ≡ None)) tt (λ seg segs one rest. (one own, rest)) (sent h)
