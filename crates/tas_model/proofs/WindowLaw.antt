-- The peer's window is the newest segment's, and no older one moves it.
use Rattle.std.proofs.Common.{◌≡◌, ℕ, ◌<◌, ◌≤◌, true, false, length, refl, sym, ap, subst, ◌∙◌, arith, ltb}
use Rattle.std.proofs.lemmas.Bool.Decides.{nat_tests}
use Rattle.tas_model.proofs.Tests.{on_cond}
use Rattle.tas_model.specs.declared.entry.Phase.{Phase}
use Rattle.tas_model.specs.declared.entry.Phase.TheVariants as phases
use Rattle.tas_model.specs.declared.entry.Seg.{Seg}
use Rattle.tas_model.specs.Endpoint.{Endpoint, Sending, phase, wnd}
use Rattle.tas_model.specs.Segments.{Outcome, offered_window, seg_len, is_fin}
use Rattle.tas_model.specs.Reassembly.{with_data}
use Rattle.tas_model.specs.Receive.{rx, rx_in, rx_later, by_verdict, verdict, Good, ack_verdict, taken, after_ack}
use Rattle.tas_model.specs.Receive.{takes_fin, place_of_ack, is_duplicate, after_duplicate, after_advance}
use Rattle.tas_model.specs.Receive.{moves_window, sending_after}
use Rattle.tas_model.specs.OneStream.{IsSynchronized}
use Rattle.tas_model.specs.StandardsWords.{IsCurrent, WindowOf}

-- ----- what is sent
window_taken : (tx : Sending) (a q len offered : ℕ) → moves_window tx a q ≡ true
    → WindowOf q a offered (sending_after tx a q len offered)
window_taken tx a q len offered moves = rw moves (record { window = refl; wl1 = refl; wl2 = refl })

abbrev K : (tx x : Sending) → Type 0
K tx x = WindowOf tx.wl1 tx.wl2 tx.window x

window_kept : (tx : Sending) (a q len offered : ℕ) → moves_window tx a q ≡ false
    → WindowOf tx.wl1 tx.wl2 tx.window (sending_after tx a q len offered)
window_kept tx a q len offered moves = rw moves advanced
  where
    duplicate : K tx (after_duplicate tx a len offered)
    duplicate = on_cond (K tx) (is_duplicate tx a len offered) _ tx
        (λ t. record { window = refl; wl1 = refl; wl2 = refl }) (λ f. record { window = refl; wl1 = refl; wl2 = refl })

    advanced : K tx (after_advance (after_duplicate tx a len offered) a)
    advanced = on_cond (K tx) (ltb (after_duplicate tx a len offered).una a) _ (after_duplicate tx a len offered)
        (λ t. record { window = duplicate.window; wl1 = duplicate.wl1; wl2 = duplicate.wl2 }) (λ f. duplicate)

-- ----- a segment that is heard
in_phase : (ph : Phase) (e : Endpoint) (tick : ℕ) (seg : Seg) → IsSynchronized ph
    → rx_in ph e tick seg ≡ by_verdict e tick seg (verdict e seg)
unfolding rx_later
in_phase phases.Closed e tick seg is = absurd is
in_phase phases.SynSent e tick seg is = absurd is
in_phase _ e tick seg is = refl

heard : (e : Endpoint) (tick q : ℕ) (seg : Seg) → IsCurrent e seg q → rx e tick seg ≡ taken e tick q seg Good
unfolding rx
heard e tick q seg c =
    let one : rx_in (phase e) e tick seg ≡ by_verdict e tick seg (verdict e seg) =
    in_phase (phase e) e tick seg c.synchronized in
    let two : by_verdict e tick seg (verdict e seg) ≡ taken e tick q seg (ack_verdict e.tx (place_of_ack e seg)) =
    ap (by_verdict e tick seg) c.verdict in
    one ∙ (two ∙ ap (taken e tick q seg) c.good)

-- what holds of the sending side after rule 5 holds after all rules
after_rules : (P : Sending → Type 0) (e : Endpoint) (tick q : ℕ) (seg : Seg) → IsCurrent e seg q
    → P (sending_after e.tx (place_of_ack e seg) q (seg_len seg) (offered_window e.scaling seg))
    → P (rx e tick seg).state.tx
after_rules P e tick q seg c h =
    let x : Endpoint = after_ack e tick (place_of_ack e seg) q (seg_len seg) (offered_window e.scaling seg) in
    let all : P (taken e tick q seg Good).state.tx =
    on_cond (λ (y : Endpoint). P y.tx)
    (takes_fin x.rx (with_data x.rx (wnd e) q seg.bytes) (wnd e) q (length seg.bytes) (is_fin seg)) _ _
    (λ t. h) (λ f. h) in
    subst (λ (o : Outcome). P o.state.tx) (sym (heard e tick q seg c)) all

-- ----- the law
newer_moves : (tx : Sending) (a q : ℕ) → tx.una ≤ a → tx.wl1 < q → moves_window tx a q ≡ true
newer_moves tx a q not_old newer = grind (arith, nat_tests)

same_moves : (tx : Sending) (a q : ℕ) → tx.una ≤ a → q ≡ tx.wl1 → tx.wl2 ≤ a → moves_window tx a q ≡ true
same_moves tx a q not_old at le = grind (arith, nat_tests)

older_keeps : (tx : Sending) (a q : ℕ) → 0 < tx.una → q < tx.wl1 → moves_window tx a q ≡ false
older_keeps tx a q past older = grind (arith, nat_tests)

same_keeps : (tx : Sending) (a q : ℕ) → 0 < tx.una → q ≡ tx.wl1 → a < tx.wl2 → moves_window tx a q ≡ false
same_keeps tx a q past at less = grind (arith, nat_tests)

pub newer_is_taken : (e : Endpoint) (tick q : ℕ) (seg : Seg) → IsCurrent e seg q → e.tx.wl1 < q
    → WindowOf q (place_of_ack e seg) (offered_window e.scaling seg) (rx e tick seg).state.tx
newer_is_taken e tick q seg c newer =
    after_rules (WindowOf q (place_of_ack e seg) (offered_window e.scaling seg)) e tick q seg c
    (window_taken e.tx (place_of_ack e seg) q (seg_len seg) (offered_window e.scaling seg)
    (newer_moves e.tx (place_of_ack e seg) q c.not_old newer))

pub as_new_is_taken : (e : Endpoint) (tick q : ℕ) (seg : Seg) → IsCurrent e seg q → q ≡ e.tx.wl1
    → e.tx.wl2 ≤ place_of_ack e seg
    → WindowOf q (place_of_ack e seg) (offered_window e.scaling seg) (rx e tick seg).state.tx
as_new_is_taken e tick q seg c at le =
    after_rules (WindowOf q (place_of_ack e seg) (offered_window e.scaling seg)) e tick q seg c
    (window_taken e.tx (place_of_ack e seg) q (seg_len seg) (offered_window e.scaling seg)
    (same_moves e.tx (place_of_ack e seg) q c.not_old at le))

pub older_is_not : (e : Endpoint) (tick q : ℕ) (seg : Seg) → IsCurrent e seg q → q < e.tx.wl1
    → WindowOf e.tx.wl1 e.tx.wl2 e.tx.window (rx e tick seg).state.tx
older_is_not e tick q seg c older =
    after_rules (WindowOf e.tx.wl1 e.tx.wl2 e.tx.window) e tick q seg c
    (window_kept e.tx (place_of_ack e seg) q (seg_len seg) (offered_window e.scaling seg)
    (older_keeps e.tx (place_of_ack e seg) q c.past_opening older))

pub older_ack_is_not : (e : Endpoint) (tick q : ℕ) (seg : Seg) → IsCurrent e seg q → q ≡ e.tx.wl1
    → place_of_ack e seg < e.tx.wl2 → WindowOf e.tx.wl1 e.tx.wl2 e.tx.window (rx e tick seg).state.tx
older_ack_is_not e tick q seg c at less =
    after_rules (WindowOf e.tx.wl1 e.tx.wl2 e.tx.window) e tick q seg c
    (window_kept e.tx (place_of_ack e seg) q (seg_len seg) (offered_window e.scaling seg)
    (same_keeps e.tx (place_of_ack e seg) q c.past_opening at less))
