-- What a segment's payload and FIN do, by the tests of the code, and which rule a segment meets.
use Rattle.std.proofs.Common.{◌≡◌, ℕ, ◌+◌, ◌-◌, Bool, true, false, cond, leb, eqb, not, ◌&&◌, List, [], ◌∷◌, ◌++◌}
use Rattle.std.proofs.Common.{length, max, Option, Some, None, refl, sym, ◌∙◌, ap, arith}
use Rattle.tas_model.proofs.Tests.{on_cond}
use Rattle.tas_model.specs.declared.entry.Phase.{Phase}
use Rattle.tas_model.specs.declared.entry.Phase.TheVariants as phases
use Rattle.tas_model.specs.declared.entry.Seg.{Seg}
use Rattle.tas_model.specs.Endpoint.{Endpoint, Receiving, Island, phase, phase_by, is_fin_acked, next_place}
use Rattle.tas_model.specs.Segments.{is_fin}
use Rattle.tas_model.specs.OneStream.{IsSynchronized}
use Rattle.tas_model.specs.Reassembly.{with_data, with_part, grown, bridged, kept_apart, trimmed}
use Rattle.tas_model.specs.Receive.{rx, rx_in, rx_later, by_verdict, verdict, after_data, takes_fin, with_fin}
use Rattle.tas_model.specs.Receive.{is_fin_wait_2}

-- ----- the end of the peer's stream is not in its bytes
abbrev Same : Receiving → Receiving → Type 0
Same before after = (after.ended ≡ before.ended) × (after.ended_first ≡ before.ended_first)

bridged_same : (rx : Receiving) (o : Option Island) → Same rx (bridged rx o)
bridged_same rx None = (refl, refl)
bridged_same rx (Some i) = on_cond (Same rx) (leb i.at (length rx.got)) _ rx (λ t. (refl, refl)) (λ f. (refl, refl))

part_same : (rx : Receiving) (at : ℕ) (part : List ℕ) → Same rx (with_part rx at part)
part_same rx at [] = (refl, refl)
part_same rx at (b ∷ part) =
    on_cond (Same rx) (eqb at (length rx.got)) (grown rx (b ∷ part))
    (record rx { island = kept_apart rx.island at (b ∷ part) })
    (λ t. bridged_same (record rx { got = rx.got ++ (b ∷ part) }) rx.island) (λ f. (refl, refl))

pub data_same : (rx : Receiving) (window q : ℕ) (payload : List ℕ)
    → ((with_data rx window q payload).ended ≡ rx.ended)
    × ((with_data rx window q payload).ended_first ≡ rx.ended_first)
data_same rx window q payload =
    on_cond (Same rx) rx.ended rx (with_part rx (max q (next_place rx) - 1) (trimmed (next_place rx) window q payload))
    (λ t. (refl, refl))
    (λ f. part_same rx (max q (next_place rx) - 1) (trimmed (next_place rx) window q payload))

-- so the phase stays
data_phase : (e : Endpoint) (window q : ℕ) (payload : List ℕ)
    → phase (record e { rx = with_data e.rx window q payload }) ≡ phase e
data_phase e window q payload =
    let same : Same e.rx (with_data e.rx window q payload) = data_same e.rx window q payload in
    ap (λ (b : Bool). phase_by e.reason e.peer e.tx.una e.tx.shut (is_fin_acked e.tx) b
    (with_data e.rx window q payload).ended_first) same.0
    ∙ ap (phase_by e.reason e.peer e.tx.una e.tx.shut (is_fin_acked e.tx) e.rx.ended) same.1

-- ----- payload and FIN
no_fin : (fin ended b c : Bool) → ended ≡ true → (fin && not ended && b && c) ≡ false
no_fin false ended b c is = refl
no_fin true true b c is = refl
no_fin true false b c is = absurd (cc (is))

abbrev fin_taken : Endpoint → (tick : ℕ) → Receiving → Phase → Endpoint
fin_taken e tick rx ph = record e { rx = with_fin rx e.tx.shut; entered = cond (is_fin_wait_2 ph) tick e.entered }

-- after the peer's FIN nothing is received
pub ended_same : (e : Endpoint) (tick window q : ℕ) (seg : Seg) → e.rx.ended ≡ true → after_data e tick window q seg ≡ e
ended_same e tick window q seg is =
    let rx : Receiving = with_data e.rx window q seg.bytes in
    let same : rx ≡ e.rx =
    ap (λ (t : Bool). cond t e.rx (with_part e.rx (max q (next_place e.rx) - 1)
    (trimmed (next_place e.rx) window q seg.bytes))) is in
    let none : takes_fin e.rx rx window q (length seg.bytes) (is_fin seg) ≡ false =
    no_fin (is_fin seg) e.rx.ended (leb (q + length seg.bytes) (next_place e.rx + window))
    (eqb (q + length seg.bytes) (1 + length rx.got)) is in
    ap (λ (t : Bool). cond t (fin_taken e tick rx (phase e)) (record e { rx = rx })) none
    ∙ ap (λ (x : Receiving). with_rx x) same
  where
    with_rx : Receiving → Endpoint
    with_rx x = record e { rx = x }

-- what the code's test says
pub test_is : (e : Endpoint) (window q : ℕ) (seg : Seg) (at limit next : ℕ) → e.rx.ended ≡ false
    → at ≡ q + length seg.bytes → limit ≡ length e.rx.got + 1 + window
    → next ≡ length (with_data e.rx window q seg.bytes).got + 1
    → (is_fin seg && leb at limit && eqb at next) ≡ takes_fin e.rx (with_data e.rx window q seg.bytes) window q
    (length seg.bytes) (is_fin seg)
test_is e window q seg at limit next going at_is limit_is next_is =
    let r : next_place e.rx ≡ 1 + length e.rx.got = grind arith in
    let edge : limit ≡ next_place e.rx + window = omega (arith, limit_is, r) in
    let stop : next ≡ 1 + length (with_data e.rx window q seg.bytes).got = omega (arith, next_is) in
    ap (λ (n : ℕ). is_fin seg && leb n limit && eqb n next) at_is
    ∙ (ap (λ (n : ℕ). is_fin seg && leb (q + length seg.bytes) n && eqb (q + length seg.bytes) next) edge
    ∙ (ap (λ (n : ℕ). is_fin seg && leb (q + length seg.bytes) (next_place e.rx + window)
    && eqb (q + length seg.bytes) n) stop
    ∙ open_test (is_fin seg) e.rx.ended (leb (q + length seg.bytes) (next_place e.rx + window))
    (eqb (q + length seg.bytes) (1 + length (with_data e.rx window q seg.bytes).got)) going))
  where
    open_test : (fin ended b c : Bool) → ended ≡ false → (fin && b && c) ≡ (fin && not ended && b && c)
    open_test false ended b c is = refl
    open_test true false b c is = refl
    open_test true true b c is = absurd (cc (is))

pub with_fin_is : (e : Endpoint) (tick window q : ℕ) (seg : Seg)
    → takes_fin e.rx (with_data e.rx window q seg.bytes) window q (length seg.bytes) (is_fin seg) ≡ true
    → after_data e tick window q seg ≡ fin_taken e tick (with_data e.rx window q seg.bytes)
    (phase (record e { rx = with_data e.rx window q seg.bytes }))
with_fin_is e tick window q seg is =
    ap (λ (t : Bool). cond t (fin_taken e tick (with_data e.rx window q seg.bytes) (phase e))
    (record e { rx = with_data e.rx window q seg.bytes })) is
    ∙ ap (fin_taken e tick (with_data e.rx window q seg.bytes)) (sym (data_phase e window q seg.bytes))

pub without_fin_is : (e : Endpoint) (tick window q : ℕ) (seg : Seg)
    → takes_fin e.rx (with_data e.rx window q seg.bytes) window q (length seg.bytes) (is_fin seg) ≡ false
    → after_data e tick window q seg ≡ record e { rx = with_data e.rx window q seg.bytes }
without_fin_is e tick window q seg is =
    ap (λ (t : Bool). cond t (fin_taken e tick (with_data e.rx window q seg.bytes) (phase e))
    (record e { rx = with_data e.rx window q seg.bytes })) is

-- ----- which rules
later_in : (ph : Phase) (e : Endpoint) (tick : ℕ) (seg : Seg) → IsSynchronized ph
    → rx_in ph e tick seg ≡ by_verdict e tick seg (verdict e seg)
unfolding rx_later
later_in phases.Closed e tick seg is = absurd is
later_in phases.SynSent e tick seg is = absurd is
later_in _ e tick seg is = refl

pub rx_is : (e : Endpoint) (tick : ℕ) (seg : Seg) → IsSynchronized (phase e)
    → rx e tick seg ≡ by_verdict e tick seg (verdict e seg)
unfolding rx
rx_is e tick seg is = later_in (phase e) e tick seg is
