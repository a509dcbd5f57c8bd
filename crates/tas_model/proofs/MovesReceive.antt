-- How far a received segment moves an endpoint.
use Rattle.std.proofs.Common.{◌≡◌, ℕ, ◌+◌, ◌-◌, ◌≤◌, Bool, true, false, cond, not, ◌&&◌, List, [], ◌∷◌, ◌++◌, length}
use Rattle.std.proofs.Common.{take, drop, max, Option, Some, None, IsSome, refl, sym, subst, ap, ◌∙◌, arith, true≢false}
use Rattle.std.proofs.Common.{ltb, leb, eqb, append-nil, append_assoc, length-append}
use Rattle.std.proofs.lemmas.Bool.Decides.{nat_tests}
use Rattle.std.proofs.lemmas.List.{take-append-le}
use Rattle.tas_model.proofs.Tests.{on_cond}
use Rattle.tas_model.proofs.Moves.{Moves, IsSilent, grown_by_none, moves_nothing, moves_reason}
use Rattle.tas_model.proofs.StreamSteps.{place_tells}
use Rattle.tas_model.proofs.ValidSteps.{good_tells}
use Rattle.tas_model.proofs.ValidCalls.{unopened_peer}
use Rattle.tas_model.specs.declared.entry.Phase.{Phase}
use Rattle.tas_model.specs.declared.entry.Phase.TheVariants as phases
use Rattle.tas_model.specs.declared.entry.Reason.TheVariants as reasons
use Rattle.tas_model.specs.declared.entry.Seg.{Seg}
use Rattle.tas_model.specs.declared.entry.Reply.{Reply}
use Rattle.tas_model.specs.declared.entry.Reply.TheVariants as replies
use Rattle.tas_model.specs.Endpoint.{Endpoint, Scaling, Sending, Receiving, Rate, Island, phase, next_place, wnd}
use Rattle.tas_model.specs.Endpoint.{uncounted}
use Rattle.tas_model.specs.Segments.{offered_window, seg_len, is_fin, is_ack, is_rst, is_syn, acks, resets, stray_reply}
use Rattle.tas_model.specs.Reassembly.{bridged, grown, with_part, with_data, kept_apart, trimmed}
use Rattle.tas_model.specs.Receive.{takes_fin, ack_verdict, AckVerdict, Stray, TooFar, Good, Verdict, Dropped, Answered}
use Rattle.tas_model.specs.Receive.{Reset, BareAck, Taken, after_ack, after_data, taken, bare_ack, by_verdict, verdict}
use Rattle.tas_model.specs.Receive.{rx_later, rx_syn_sent, connected, rx_in, rx, place_of_ack, place_of_seq}
use Rattle.tas_model.specs.Receive.{is_acceptable, is_duplicate, after_duplicate, after_advance, moves_window}
use Rattle.tas_model.specs.Receive.{sending_after, is_heard}
use Rattle.tas_model.specs.Outputs.{given_bytes}
use Rattle.tas_model.specs.LegalHistory.{taken_bytes}
use Rattle.tas_model.specs.Valid.{Valid}

-- ----- what is received
-- nothing is read, and what is in order grows at its end
record Receives (before after : Receiving) : Type 0 where
  pub read : after.read ≡ before.read
  pub ended : before.ended ≡ true → after.ended ≡ true
  pub got : (more : List ℕ) × (after.got ≡ before.got ++ more)

receives_nothing : (rx : Receiving) → Receives rx rx
receives_nothing rx = record { read = refl; ended = λ h. h; got = ([], sym (append-nil rx.got)) }

bridged_receives : (rx : Receiving) (o : Option Island) → Receives rx (bridged rx o)
bridged_receives rx None = receives_nothing rx
bridged_receives rx (Some i) = on_cond (Receives rx) (leb i.at (length rx.got)) _ rx
    (λ t. record { read = refl; ended = λ h. h; got = (drop (length rx.got - i.at) i.bytes, refl) })
    (λ f. receives_nothing rx)

grown_receives : (rx : Receiving) (part : List ℕ) → Receives rx (grown rx part)
grown_receives rx part =
    let b : Receives (record rx { got = rx.got ++ part }) (grown rx part) =
    bridged_receives (record rx { got = rx.got ++ part }) rx.island in
    record { read = b.read; ended = b.ended; got = (part ++ b.got.0, b.got.1 ∙ append_assoc rx.got part b.got.0) }

part_receives : (rx : Receiving) (at : ℕ) (part : List ℕ) → Receives rx (with_part rx at part)
part_receives rx at [] = receives_nothing rx
part_receives rx at (b ∷ part) =
    on_cond (Receives rx) (eqb at (length rx.got)) (grown rx (b ∷ part))
    (record rx { island = kept_apart rx.island at (b ∷ part) })
    (λ t. grown_receives rx (b ∷ part))
    (λ f. record { read = refl; ended = λ h. h; got = ([], sym (append-nil rx.got)) })

data_receives : (rx : Receiving) (window q : ℕ) (payload : List ℕ) → Receives rx (with_data rx window q payload)
data_receives rx window q payload =
    on_cond (Receives rx) rx.ended rx (with_part rx (max q (next_place rx) - 1)
    (trimmed (next_place rx) window q payload))
    (λ t. receives_nothing rx) (λ f. part_receives rx (max q (next_place rx) - 1)
    (trimmed (next_place rx) window q payload))

-- ----- what is acknowledged
abbrev Acked : Sending → (a q : ℕ) → Sending → Type 0
Acked tx a q x = (x.una ≤ tx.max) × (x.wl1 ≤ max tx.wl1 q) × (x.wl2 ≤ max tx.wl2 a) × (x.out ≡ tx.out)
    × (x.shut ≡ tx.shut)

sending_acked : (tx : Sending) (a q len window : ℕ) → a ≤ tx.max → tx.una ≤ tx.max
    → Acked tx a q (sending_after tx a q len window)
sending_acked tx a q len window good una =
    let duplicate : Acked tx a q (after_duplicate tx a len window) =
    on_cond (Acked tx a q) (is_duplicate tx a len window) _ tx (λ t. (una, omega arith, omega arith, refl, refl))
    (λ f. (una, omega arith, omega arith, refl, refl)) in
    let advance : Acked tx a q (after_advance (after_duplicate tx a len window) a) =
    on_cond (Acked tx a q) (ltb (after_duplicate tx a len window).una a) _ (after_duplicate tx a len window)
    (λ t. (good, duplicate.1, duplicate.2, duplicate.3, duplicate.4)) (λ f. duplicate) in
    on_cond (Acked tx a q) (moves_window tx a q) _ (after_advance (after_duplicate tx a len window) a)
    (λ t. (advance.0, omega arith, omega arith, advance.3, advance.4)) (λ f. advance)

-- ----- both
record Hears (e x : Endpoint) : Type 0 where
  pub iss : x.iss ≡ e.iss
  pub shut : x.tx.shut ≡ e.tx.shut
  pub out : x.tx.out ≡ e.tx.out
  pub una : x.tx.una ≤ e.tx.max
  pub wl1 : x.tx.wl1 ≤ max e.tx.wl1 (next_place e.rx + 1048576)
  pub wl2 : x.tx.wl2 ≤ max e.tx.wl2 e.tx.max
  pub rx : Receives e.rx x.rx
  pub peer : x.peer ≡ e.peer
  pub params : x.params ≡ e.params
  pub scaling : x.scaling ≡ e.scaling
  pub tokens : x.rate.tokens ≡ e.rate.tokens

moves_heard : (e x : Endpoint) (reply : Reply) → Valid e → Hears e x → IsSilent reply
    → Moves 0 0 e (record { state = x; reply = reply })
moves_heard e x reply v h silent = record {
  una = h.una;
  read = omega (arith, h.rx.read);
  wl1 = h.wl1;
  wl2 = h.wl2;
  iss = h.iss;
  keeps = record {
    params = h.params;
    got = omega (arith, ap length h.rx.got.1, length-append e.rx.got h.rx.got.0);
    read = omega (arith, h.rx.read);
    ended = h.rx.ended;
    shift = omega (arith, ap (λ (s : Scaling). s.rs) h.scaling);
  };
  shut = λ s. (h.shut ∙ s, silent.1);
  out = h.out ∙ grown_by_none e.tx.out (taken_bytes reply) silent.1;
  bytes = same_read ∙ grown_by_none (take e.rx.read e.rx.got) (given_bytes reply) silent.0;
  bucket = λ s. (subst (λ (o : Option ℕ). IsSome o) (sym h.peer) s, omega (arith, h.tokens));
}
  where
    same_read : take x.rx.read x.rx.got ≡ take e.rx.read e.rx.got
    same_read = ap (λ (n : ℕ). take n x.rx.got) h.rx.read
        ∙ (ap (take e.rx.read) h.rx.got.1 ∙ take-append-le e.rx.read e.rx.got h.rx.got.0 v.rx.read)

ack_hears : (e : Endpoint) (tick a q len window : ℕ) → Valid e → ack_verdict e.tx a ≡ Good
    → q ≤ next_place e.rx + 1048576 → Hears e (after_ack e tick a q len window)
ack_hears e tick a q len window v good near =
    let most : a ≤ e.tx.max = good_tells e.tx a good in
    let s : Acked e.tx a q (sending_after e.tx a q len window) =
    sending_acked e.tx a q len window most (omega (arith, v.tx.una, v.tx.nxt)) in
    record {
      iss = refl;
      shut = s.4;
      out = s.3;
      una = s.0;
      wl1 = omega (arith, s.1);
      wl2 = omega (arith, s.2);
      rx = receives_nothing e.rx;
      peer = refl;
      params = refl;
      scaling = refl;
      tokens = on_cond (λ (r : Rate). r.tokens ≡ e.rate.tokens) (eqb e.tx.una 0) (uncounted e.rate) _ (λ t. refl)
          (λ f. refl);
    }

after_data_hears : (e x : Endpoint) (tick window q : ℕ) (seg : Seg) → x.rx ≡ e.rx → Hears e x
    → Hears e (after_data x tick window q seg)
after_data_hears e x tick window q seg same h =
    let rx : Receives e.rx (with_data x.rx window q seg.bytes) =
    subst (λ (r : Receiving). Receives r (with_data x.rx window q seg.bytes)) same
    (data_receives x.rx window q seg.bytes) in
    on_cond (Hears e) (takes_fin x.rx (with_data x.rx window q seg.bytes) window q (length seg.bytes) (is_fin seg)) _ _
    (λ t. record {
      iss = h.iss;
      shut = h.shut;
      out = h.out;
      una = h.una;
      wl1 = h.wl1;
      wl2 = h.wl2;
      rx = record { read = rx.read; ended = λ g. refl; got = rx.got };
      peer = h.peer;
      params = h.params;
      scaling = h.scaling;
      tokens = h.tokens;
    })
    (λ f. record {
      iss = h.iss;
      shut = h.shut;
      out = h.out;
      una = h.una;
      wl1 = h.wl1;
      wl2 = h.wl2;
      rx = rx;
      peer = h.peer;
      params = h.params;
      scaling = h.scaling;
      tokens = h.tokens;
    })

-- ----- the verdicts
heard_silent : (e : Endpoint) (b : Bool) → IsSilent (cond b (acks e) replies.Nothing)
heard_silent e true = (refl, refl)
heard_silent e false = (refl, refl)

taken_moves : (e : Endpoint) (tick q : ℕ) (seg : Seg) (a : AckVerdict) → Valid e
    → ack_verdict e.tx (place_of_ack e seg) ≡ a → q ≤ next_place e.rx + 1048576 → Moves 0 0 e (taken e tick q seg a)
taken_moves e tick q seg Stray v is near = moves_nothing e (resets seg.head.ack) v (refl, refl)
taken_moves e tick q seg TooFar v is near = moves_nothing e (acks e) v (refl, refl)
taken_moves e tick q seg Good v is near =
    let acked : Endpoint = after_ack e tick (place_of_ack e seg) q (seg_len seg) (offered_window e.scaling seg) in
    let after : Endpoint = after_data acked tick (wnd e) q seg in
    moves_heard e after (cond (is_heard seg) (acks after) replies.Nothing) v
    (after_data_hears e acked tick (wnd e) q seg refl
    (ack_hears e tick (place_of_ack e seg) q (seg_len seg) (offered_window e.scaling seg) v is near))
    (heard_silent after (is_heard seg))

bare_moves : (e : Endpoint) (tick : ℕ) (seg : Seg) (a : AckVerdict) → Valid e
    → ack_verdict e.tx (place_of_ack e seg) ≡ a → Moves 0 0 e (bare_ack e tick seg a)
bare_moves e tick seg Stray v is = moves_nothing e (resets seg.head.ack) v (refl, refl)
bare_moves e tick seg TooFar v is = moves_nothing e (acks e) v (refl, refl)
bare_moves e tick seg Good v is =
    let after : Endpoint = after_ack e tick (place_of_ack e seg) (next_place e.rx) (seg_len seg)
    (offered_window e.scaling seg) in
    moves_heard e after (acks after) v (ack_hears e tick (place_of_ack e seg) (next_place e.rx)
    (seg_len seg) (offered_window e.scaling seg) v is (omega arith)) (refl, refl)

acceptable_near : (r window q len : ℕ) → is_acceptable r window q len ≡ true → q ≤ r + window
acceptable_near r window q len is = grind (arith, nat_tests)

verdict_moves : (e : Endpoint) (tick : ℕ) (seg : Seg) (d : Verdict) → Valid e → verdict e seg ≡ d
    → Moves 0 0 e (by_verdict e tick seg d)
verdict_moves e tick seg Dropped v is = moves_nothing e replies.Nothing v (refl, refl)
verdict_moves e tick seg Answered v is = moves_nothing e (acks e) v (refl, refl)
verdict_moves e tick seg Reset v is = moves_reason e (Some reasons.Reset) replies.Nothing v (refl, refl)
verdict_moves e tick seg BareAck v is =
    on_cond (Moves 0 0 e) (is_ack seg) _ _ (λ t. bare_moves e tick seg _ v refl)
    (λ f. moves_nothing e (acks e) v (refl, refl))
verdict_moves e tick seg (Taken q) v is =
    let tells = place_tells (place_of_seq e seg) (next_place e.rx) (wnd e) q seg is in
    taken_moves e tick q seg _ v refl (omega (arith, acceptable_near (next_place e.rx) (wnd e) q (seg_len seg) tells.2))

-- ----- the phases
stray_silent : (seg : Seg) → IsSilent (stray_reply seg)
stray_silent seg = on_cond IsSilent (is_rst seg) _ _ (λ t. (refl, refl))
    (λ f. on_cond IsSilent (is_ack seg) _ _ (λ t. (refl, refl)) (λ g. (refl, refl)))

connected_moves : (e : Endpoint) (seg : Seg) → Valid e → e.peer ≡ None → 1 ≤ e.tx.max
    → Moves 0 0 e (record { state = connected e seg; reply = acks (connected e seg) })
connected_moves e seg v none sent = record {
  una = sent;
  read = omega arith;
  wl1 = omega arith;
  wl2 = omega arith;
  iss = refl;
  keeps = record {
    params = refl;
    got = omega arith;
    read = omega arith;
    ended = λ h. h;
    shift = omega (arith, ap (λ (s : Scaling). s.rs) (v.scaling.early none));
  };
  shut = λ s. (s, refl);
  out = sym (append-nil e.tx.out);
  bytes = sym (append-nil (take e.rx.read e.rx.got));
  bucket = λ s. absurd (true≢false (sym (subst (λ (o : Option ℕ). IsSome o) none s)));
}

syn_sent_moves : (e : Endpoint) (seg : Seg) → Valid e → e.peer ≡ None → Moves 0 0 e (rx_syn_sent e seg)
unfolding rx_syn_sent
syn_sent_moves e seg v none =
    on_cond (Moves 0 0 e) (is_ack seg && not (eqb (place_of_ack e seg) 1 && leb 1 e.tx.max)) _ _
    (λ t. moves_nothing e _ v (on_cond IsSilent (is_rst seg) replies.Nothing (resets seg.head.ack) (λ u. (refl, refl))
    (λ u. (refl, refl))))
    (λ f. on_cond (Moves 0 0 e) (is_rst seg) _ _
    (λ t. on_cond (λ (x : Endpoint). Moves 0 0 e (record { state = x; reply = replies.Nothing })) (is_ack seg)
    (record e { reason = Some reasons.Refused }) e
    (λ u. moves_reason e (Some reasons.Refused) replies.Nothing v (refl, refl))
    (λ u. moves_nothing e replies.Nothing v (refl, refl)))
    (λ u. on_cond (Moves 0 0 e) (is_syn seg && is_ack seg) _ _ (λ both. connected_moves e seg v none (sent f both))
    (λ w. moves_nothing e replies.Nothing v (refl, refl))))
  where
    sent : (is_ack seg && not (eqb (place_of_ack e seg) 1 && leb 1 e.tx.max)) ≡ false
        → (is_syn seg && is_ack seg) ≡ true → 1 ≤ e.tx.max
    sent f both = grind (arith, nat_tests)

rx_in_moves : (ph : Phase) (e : Endpoint) (tick : ℕ) (seg : Seg) → phase e ≡ ph → Valid e
    → Moves 0 0 e (rx_in ph e tick seg)
unfolding rx_later
rx_in_moves phases.Closed e tick seg is v = moves_nothing e (stray_reply seg) v (stray_silent seg)
rx_in_moves phases.SynSent e tick seg is v =
    syn_sent_moves e seg v (unopened_peer e.reason e.peer e.tx.una e.tx.shut _ e.rx.ended e.rx.ended_first is)
rx_in_moves _ e tick seg is v = verdict_moves e tick seg (verdict e seg) v refl

pub rx_moves : (e : Endpoint) (tick : ℕ) (seg : Seg) → Valid e → Moves 0 0 e (rx e tick seg)
unfolding rx
rx_moves e tick seg v = rx_in_moves (phase e) e tick seg refl v
