-- A received segment makes sending go back where it is the third duplicate acknowledgement, and nowhere else.
use Rattle.std.proofs.Common.{◌≡◌, ℕ, ◌+◌, ◌<◌, ◌≤◌, Bool, true, false, cond, not, ◌&&◌, length, min, Some, refl}
use Rattle.std.proofs.Common.{arith, ltb, leb, eqb}
use Rattle.std.proofs.lemmas.Bool.Decides.{nat_tests}
use Rattle.tas_model.proofs.Tests.{on_cond}
use Rattle.tas_model.specs.declared.entry.Phase.{Phase}
use Rattle.tas_model.specs.declared.entry.Phase.TheVariants as phases
use Rattle.tas_model.specs.declared.entry.Reason.TheVariants as reasons
use Rattle.tas_model.specs.declared.entry.Seg.{Seg}
use Rattle.tas_model.specs.Endpoint.{Endpoint, Sending, phase, next_place, wnd}
use Rattle.tas_model.specs.Segments.{Outcome, offered_window, seg_len, is_ack, is_rst, is_syn, is_fin}
use Rattle.tas_model.specs.Reassembly.{with_data}
use Rattle.tas_model.specs.Receive.{rx, rx_in, rx_later, rx_syn_sent, by_verdict, verdict, Verdict, Dropped, Answered}
use Rattle.tas_model.specs.Receive.{Reset, BareAck, Taken, AckVerdict, Stray, TooFar, Good, taken, bare_ack}
use Rattle.tas_model.specs.Receive.{after_ack, takes_fin, place_of_ack, is_duplicate, after_duplicate, after_advance}
use Rattle.tas_model.specs.Receive.{moves_window, sending_after}
use Rattle.tas_model.specs.StandardsWords.{RepeatsAcknowledgement}

-- What a segment makes of the next place and of the count, where `Repeats` is that it is a duplicate.
record Duplicates (Repeats : Type 0) (tx : Sending) (nxt dup : ℕ) : Type 0 where
  repeats : nxt < tx.nxt → Repeats
  third : nxt < tx.nxt → (tx.dup ≡ 2) × (dup ≡ 3)
  place : nxt < tx.nxt → nxt ≡ tx.una
  counts : tx.dup < dup → Repeats

-- what leaves both, or moves the next place on and begins to count anew
forward : (Repeats : Type 0) (tx : Sending) (nxt dup : ℕ) → tx.nxt ≤ nxt → dup ≤ tx.dup → Duplicates Repeats tx nxt dup
forward Repeats tx nxt dup on fewer =
    record {
      repeats = λ h. absurd (omega arith);
      third = λ h. absurd (omega arith);
      place = λ h. absurd (omega arith);
      counts = λ h. absurd (omega arith);
    }

abbrev Repeated : Sending → (a len window : ℕ) → Type 0
Repeated tx a len window = is_duplicate tx a len window ≡ true

abbrev D : (tx : Sending) (a len window : ℕ) → Sending → Type 0
D tx a len window x = Duplicates (Repeated tx a len window) tx x.nxt x.dup

duplicate_counts : (tx : Sending) (a len window : ℕ) → is_duplicate tx a len window ≡ true
    → Duplicates (Repeated tx a len window) tx (cond (eqb tx.dup 2) tx.una tx.nxt) (min 3 (tx.dup + 1))
duplicate_counts tx a len window is =
    on_cond (λ (n : ℕ). Duplicates (Repeated tx a len window) tx n (min 3 (tx.dup + 1))) (eqb tx.dup 2) tx.una tx.nxt
    (λ t. let two : tx.dup ≡ 2 = grind (arith, nat_tests, t) in
    record { repeats = λ h. is; third = λ h. (two, omega (arith, two)); place = λ h. refl; counts = λ h. is })
    (λ f. record {
      repeats = λ h. is;
      third = λ h. absurd (omega arith);
      place = λ h. absurd (omega arith);
      counts = λ h. is;
    })

abbrev counted_in : Sending → Sending
counted_in tx = record tx { dup = min 3 (tx.dup + 1); nxt = cond (eqb tx.dup 2) tx.una tx.nxt }

sending_duplicates : (tx : Sending) (a q len window : ℕ) → D tx a len window (sending_after tx a q len window)
sending_duplicates tx a q len window =
    on_cond (D tx a len window) (moves_window tx a q) _ (after_advance (after_duplicate tx a len window) a)
    (λ t. advanced) (λ f. advanced)
  where
    by_test : (d : Bool) → is_duplicate tx a len window ≡ d
        → D tx a len window (after_advance (cond d (counted_in tx) tx) a)
    by_test true is =
        let here : ltb tx.una a ≡ false = grind (arith, nat_tests, is) in
        rw here (duplicate_counts tx a len window is)
    by_test false is =
        on_cond (D tx a len window) (ltb tx.una a) _ tx (λ t. forward _ tx _ _ (omega arith) (omega arith))
        (λ f. forward _ tx _ _ (omega arith) (omega arith))

    advanced : D tx a len window (after_advance (after_duplicate tx a len window) a)
    advanced = by_test (is_duplicate tx a len window) refl

-- ----- a segment
abbrev W : Endpoint → Seg → Endpoint → Type 0
W e seg x = Duplicates (RepeatsAcknowledgement e seg) e.tx x.tx.nxt x.tx.dup

same : (e : Endpoint) (seg : Seg) → W e seg e
same e seg = forward _ e.tx _ _ (omega arith) (omega arith)

told : (e : Endpoint) (seg : Seg)
    → is_duplicate e.tx (place_of_ack e seg) (seg_len seg) (offered_window e.scaling seg) ≡ true
    → RepeatsAcknowledgement e seg
told e seg is = record {
  outstanding = grind (arith, nat_tests, is);
  empty = grind (arith, nat_tests, is);
  place = grind (arith, nat_tests, is);
  window = grind (arith, nat_tests, is);
}

abbrev acked_by : Endpoint → (q : ℕ) → Seg → Sending
acked_by e q seg = sending_after e.tx (place_of_ack e seg) q (seg_len seg) (offered_window e.scaling seg)

acked : (e : Endpoint) (q : ℕ) (seg : Seg)
    → Duplicates (RepeatsAcknowledgement e seg) e.tx (acked_by e q seg).nxt (acked_by e q seg).dup
acked e q seg =
    let d : D e.tx (place_of_ack e seg) (seg_len seg) (offered_window e.scaling seg) (acked_by e q seg) =
    sending_duplicates e.tx (place_of_ack e seg) q (seg_len seg) (offered_window e.scaling seg) in
    record {
      repeats = λ h. told e seg (d.repeats h);
      third = d.third;
      place = d.place;
      counts = λ h. told e seg (d.counts h);
    }

taken_duplicates : (e : Endpoint) (tick q : ℕ) (seg : Seg) (a : AckVerdict) → W e seg (taken e tick q seg a).state
taken_duplicates e tick q seg Stray = same e seg
taken_duplicates e tick q seg TooFar = same e seg
taken_duplicates e tick q seg Good =
    let x : Endpoint = after_ack e tick (place_of_ack e seg) q (seg_len seg) (offered_window e.scaling seg) in
    on_cond (W e seg)
    (takes_fin x.rx (with_data x.rx (wnd e) q seg.bytes) (wnd e) q (length seg.bytes) (is_fin seg)) _ _
    (λ t. acked e q seg) (λ f. acked e q seg)

bare_duplicates : (e : Endpoint) (tick : ℕ) (seg : Seg) (a : AckVerdict) → W e seg (bare_ack e tick seg a).state
bare_duplicates e tick seg Stray = same e seg
bare_duplicates e tick seg TooFar = same e seg
bare_duplicates e tick seg Good = acked e (next_place e.rx) seg

verdict_duplicates : (e : Endpoint) (tick : ℕ) (seg : Seg) (d : Verdict) → W e seg (by_verdict e tick seg d).state
verdict_duplicates e tick seg Dropped = same e seg
verdict_duplicates e tick seg Answered = same e seg
verdict_duplicates e tick seg Reset = same e seg
verdict_duplicates e tick seg BareAck =
    on_cond (λ (o : Outcome). W e seg o.state) (is_ack seg) _ _ (λ t. bare_duplicates e tick seg _) (λ f. same e seg)
verdict_duplicates e tick seg (Taken q) = taken_duplicates e tick q seg _

abbrev O : Endpoint → Seg → Outcome → Type 0
O e seg o = W e seg o.state

in_phase : (ph : Phase) (e : Endpoint) (tick : ℕ) (seg : Seg) → W e seg (rx_in ph e tick seg).state
unfolding rx_later rx_syn_sent
in_phase phases.Closed e tick seg = same e seg
in_phase phases.SynSent e tick seg =
    on_cond (O e seg) (is_ack seg && not (eqb (place_of_ack e seg) 1 && leb 1 e.tx.max)) _ _ (λ t. same e seg)
    (λ f. on_cond (O e seg) (is_rst seg) _ _
    (λ t. on_cond (W e seg) (is_ack seg) (record e { reason = Some reasons.Refused }) e (λ u. same e seg)
    (λ u. same e seg))
    (λ u. on_cond (O e seg) (is_syn seg && is_ack seg) _ _ (λ both. forward _ e.tx _ _ (omega arith) (omega arith))
    (λ w. same e seg)))
in_phase _ e tick seg = verdict_duplicates e tick seg (verdict e seg)

rx_duplicates : (e : Endpoint) (tick : ℕ) (seg : Seg) → W e seg (rx e tick seg).state
unfolding rx
rx_duplicates e tick seg = in_phase (phase e) e tick seg

-- ----- the law
pub goes_back_by_repeated : (e : Endpoint) (tick : ℕ) (seg : Seg) → (rx e tick seg).state.tx.nxt < e.tx.nxt
    → RepeatsAcknowledgement e seg
goes_back_by_repeated e tick seg h = (rx_duplicates e tick seg).repeats h

pub goes_back_at_third : (e : Endpoint) (tick : ℕ) (seg : Seg) → (rx e tick seg).state.tx.nxt < e.tx.nxt
    → (e.tx.dup ≡ 2) × ((rx e tick seg).state.tx.dup ≡ 3)
goes_back_at_third e tick seg h = (rx_duplicates e tick seg).third h

pub goes_back_to_una : (e : Endpoint) (tick : ℕ) (seg : Seg) → (rx e tick seg).state.tx.nxt < e.tx.nxt
    → (rx e tick seg).state.tx.nxt ≡ e.tx.una
goes_back_to_una e tick seg h = (rx_duplicates e tick seg).place h

pub counts_repeated : (e : Endpoint) (tick : ℕ) (seg : Seg) → e.tx.dup < (rx e tick seg).state.tx.dup
    → RepeatsAcknowledgement e seg
counts_repeated e tick seg h = (rx_duplicates e tick seg).counts h
