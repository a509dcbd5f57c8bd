-- Data in order: each rule, and all of them.
use Rattle.std.proofs.Common.{◌≡◌, ℕ, ◌+◌, ◌-◌, ◌<◌, ◌≤◌, Bool, true, false, cond, List, [], ◌∷◌, ◌++◌, length, max}
use Rattle.std.proofs.Common.{None, refl, ◌∙◌, ap, arith, ltb, eqb}
use Rattle.std.proofs.lemmas.Bool.Decides.{nat_tests}
use Rattle.std.proofs.lemmas.List.{take_all}
use Rattle.tas_model.specs.declared.entry.Seg.{Seg}
use Rattle.tas_model.specs.declared.entry.Phase.TheVariants as phases
use Rattle.tas_model.specs.declared.entry.Reply.TheVariants as replies
use Rattle.tas_model.specs.Endpoint.{Endpoint, Sending, Receiving, Rate, phase, wnd, next_place}
use Rattle.tas_model.specs.Segments.{Outcome, offered_window, seg_len, is_fin, is_ack, is_rst, is_syn, acks}
use Rattle.tas_model.specs.Receive.{rx, rx_later, rx_in, is_duplicate, moves_window, with_window, by_verdict}
use Rattle.tas_model.specs.Receive.{verdict_at, verdict_of_place, Taken, taken, ack_verdict, Good, place_of_seq}
use Rattle.tas_model.specs.Receive.{place_of_ack, after_ack, after_data, sending_after, rate_after, is_heard}
use Rattle.tas_model.specs.Reassembly.{with_data, with_part, grown, bridged, kept_apart, trimmed}
use Rattle.tas_model.specs.Valid.{Valid}
use Rattle.tas_model.specs.InOrder.{FollowsInOrder, in_order, in_order_outcome}

taken_at_r : (r window : ℕ) (seg : Seg) → 0 < length seg.bytes → length seg.bytes ≤ window
    → is_ack seg ≡ true → is_rst seg ≡ false → is_syn seg ≡ false → is_fin seg ≡ false
    → verdict_at r window r seg ≡ Taken r
taken_at_r r window seg some fits a b c d = grind (arith, nat_tests)

good_at_una : (tx : Sending) → 0 < tx.una → tx.una ≤ tx.max → ack_verdict tx tx.una ≡ Good
good_at_una tx began le = grind (arith, nat_tests)

no_duplicate : (tx : Sending) (len window : ℕ) → 0 < len → is_duplicate tx tx.una len window ≡ false
no_duplicate tx len window some = grind (arith, nat_tests)

same_rate : (r : Rate) (tx : Sending) (len window : ℕ) → 0 < tx.una → is_duplicate tx tx.una len window ≡ false
    → rate_after r tx tx.una len window ≡ r
same_rate r tx len window began no_dup =
    let begun : eqb tx.una 0 ≡ false = grind (arith, nat_tests) in
    let here : ltb tx.una tx.una ≡ false = grind (arith, nat_tests) in
    rw (begun, here, no_dup) refl

sending_in_order : (tx : Sending) (q len window : ℕ) → is_duplicate tx tx.una len window ≡ false
    → sending_after tx tx.una q len window ≡ cond (moves_window tx tx.una q) (with_window tx tx.una q window) tx
sending_in_order tx q len window no_dup =
    let here : ltb tx.una tx.una ≡ false = grind (arith, nat_tests) in
    rw (no_dup, here) refl

-- the part of a payload that begins at r and fits is the payload
whole_part : (r window : ℕ) (payload : List ℕ) → length payload ≤ window → trimmed r window r payload ≡ payload
whole_part r window payload fits =
    let none : r - r ≡ 0 = omega arith in
    let all : r + window - max r r ≡ window = omega arith in
    rw (none, all) (take_all window payload fits)

data_in_order : (rx : Receiving) (window : ℕ) (payload : List ℕ) → 0 < length payload → length payload ≤ window
    → rx.ended ≡ false → rx.island ≡ None
    → with_data rx window (next_place rx) payload ≡ record rx { got = rx.got ++ payload }
data_in_order rx window [] some fits going no_island = absurd (omega arith)
data_in_order rx window (b ∷ p) some fits going no_island =
    let r : ℕ = next_place rx in
    let at : max r r - 1 ≡ length rx.got = grind arith in
    let here : eqb (length rx.got) (length rx.got) ≡ true = grind (arith, nat_tests) in
    let one : with_data rx window r (b ∷ p) ≡ with_part rx (max r r - 1) (trimmed r window r (b ∷ p)) =
    ap (λ (t : Bool). cond t rx (with_part rx (max r r - 1) (trimmed r window r (b ∷ p)))) going in
    let two : with_part rx (max r r - 1) (trimmed r window r (b ∷ p)) ≡ with_part rx (length rx.got) (b ∷ p) =
    ap (λ (bs : List ℕ). with_part rx (max r r - 1) bs) (whole_part r window (b ∷ p) fits)
    ∙ ap (λ (k : ℕ). with_part rx k (b ∷ p)) at in
    let three : with_part rx (length rx.got) (b ∷ p) ≡ grown rx (b ∷ p) =
    ap (λ (t : Bool). cond t (grown rx (b ∷ p)) (record rx { island = kept_apart rx.island (length rx.got) (b ∷ p) }))
    here in
    let four : grown rx (b ∷ p) ≡ record rx { got = rx.got ++ (b ∷ p) } =
    ap (bridged (record rx { got = rx.got ++ (b ∷ p) })) no_island in
    one ∙ (two ∙ (three ∙ four))

ack_in_order : (e : Endpoint) (tick q len window : ℕ) → phase e ≡ phases.Established → 0 < e.tx.una → 0 < len
    → after_ack e tick e.tx.una q len window
    ≡ record e { tx = cond (moves_window e.tx e.tx.una q) (with_window e.tx e.tx.una q window) e.tx }
ack_in_order e tick q len window is began some =
    let nd : is_duplicate e.tx e.tx.una len window ≡ false = no_duplicate e.tx len window some in
    rw (is, sending_in_order e.tx q len window nd, same_rate e.rate e.tx len window began nd) refl

pub rx_in_order : (e : Endpoint) (tick : ℕ) (seg : Seg) → Valid e → FollowsInOrder e seg
    → rx e tick seg ≡ in_order_outcome e seg
unfolding rx rx_later
rx_in_order e tick seg v f =
    let r : ℕ = next_place e.rx in
    let one : rx_in (phase e) e tick seg ≡ by_verdict e tick seg (verdict_of_place (place_of_seq e seg) r (wnd e) seg) =
    ap (λ p. rx_in p e tick seg) f.phase in
    let two : by_verdict e tick seg (verdict_of_place (place_of_seq e seg) r (wnd e) seg)
    ≡ taken e tick r seg (ack_verdict e.tx (place_of_ack e seg)) =
    ap (λ o. by_verdict e tick seg (verdict_of_place o r (wnd e) seg)) f.q
    ∙ ap (by_verdict e tick seg) (taken_at_r r (wnd e) seg f.some f.fits f.ack f.rst f.syn f.fin) in
    let three : ack_verdict e.tx (place_of_ack e seg) ≡ Good = ap (ack_verdict e.tx) f.a
    ∙ good_at_una e.tx f.began (omega (arith, f.max)) in
    let acked : after_ack e tick (place_of_ack e seg) r (seg_len seg) (offered_window e.scaling seg)
    ≡ record e { tx = (in_order e seg).tx } =
    ap (λ (a : ℕ). after_ack e tick a r (seg_len seg) (offered_window e.scaling seg)) f.a
    ∙ ack_in_order e tick r (seg_len seg) (offered_window e.scaling seg) f.phase f.began (grind arith) in
    let heard : is_heard seg ≡ true = grind (arith, nat_tests, f.some) in
    let after : after_data (record e { tx = (in_order e seg).tx }) tick (wnd e) r seg ≡ in_order e seg =
    rw (f.fin, data_in_order e.rx (wnd e) seg.bytes f.some f.fits f.ended f.island) refl in
    let both : after_data (after_ack e tick (place_of_ack e seg) r (seg_len seg) (offered_window e.scaling seg)) tick
    (wnd e) r seg ≡ in_order e seg =
    ap (λ (x : Endpoint). after_data x tick (wnd e) r seg) acked ∙ after in
    let last : taken e tick r seg Good ≡ in_order_outcome e seg =
    ap (λ (x : Endpoint). answered seg x) both ∙ ap (λ (t : Bool). heard_outcome (in_order e seg) t) heard in
    one ∙ (two ∙ (ap (taken e tick r seg) three ∙ last))
  where
    heard_outcome : Endpoint → Bool → Outcome
    heard_outcome x t = record { state = x; reply = cond t (acks x) replies.Nothing }

    answered : Seg → Endpoint → Outcome
    answered seg x = heard_outcome x (is_heard seg)
