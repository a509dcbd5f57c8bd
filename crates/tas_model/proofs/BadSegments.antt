-- A segment that rules 1 to 4 drop changes nothing.
use Rattle.std.proofs.Common.{◌≡◌, ℕ, Bool, true, false, cond, not, ◌&&◌, Option, Some, None, IsSome, refl, sym, subst}
use Rattle.std.proofs.Common.{true≢false, arith, eqb}
use Rattle.std.proofs.lemmas.Bool.Decides.{nat_tests}
use Rattle.tas_model.specs.declared.entry.Reason.{Reason}
use Rattle.tas_model.specs.declared.entry.Phase.{Phase}
use Rattle.tas_model.specs.declared.entry.Phase.TheVariants as phases
use Rattle.tas_model.specs.declared.entry.Seg.{Seg}
use Rattle.tas_model.specs.Endpoint.{Endpoint, phase, phase_by, next_place, wnd}
use Rattle.tas_model.specs.Segments.{seg_len, is_rst, is_syn, is_ack}
use Rattle.tas_model.specs.Receive.{Verdict, Dropped, Answered, Reset, BareAck, Taken, verdict, verdict_of_place}
use Rattle.tas_model.specs.Receive.{place_of_seq, is_acceptable, by_verdict, rx, rx_in, rx_later}
use Rattle.tas_model.specs.OneStream.{IsSynchronized}
use Rattle.tas_model.specs.BadSegment.{IsDropped}

-- ----- a dropped segment
dropped_same : (e : Endpoint) (tick : ℕ) (seg : Seg) (d : Verdict) → IsDropped d → (by_verdict e tick seg d).state ≡ e
dropped_same e tick seg Dropped is = refl
dropped_same e tick seg Answered is = refl
dropped_same e tick seg Reset is = absurd is
dropped_same e tick seg BareAck is = absurd is
dropped_same e tick seg (Taken q) is = absurd is

dropped_in : (ph : Phase) (e : Endpoint) (tick : ℕ) (seg : Seg) → IsSynchronized ph → IsDropped (verdict e seg)
    → (rx_in ph e tick seg).state ≡ e
unfolding rx_later
dropped_in phases.Closed e tick seg is d = absurd is
dropped_in phases.SynSent e tick seg is d = absurd is
dropped_in _ e tick seg is d = dropped_same e tick seg (verdict e seg) d

pub dropped_changes_nothing : (e : Endpoint) (tick : ℕ) (seg : Seg) → IsSynchronized (phase e)
    → IsDropped (verdict e seg) → (rx e tick seg).state ≡ e
unfolding rx
dropped_changes_nothing e tick seg is d = dropped_in (phase e) e tick seg is d

-- ----- a closed endpoint
closed_phase : (reason : Option Reason) (peer : Option ℕ) (una : ℕ) (shut fin_acked ended ended_first : Bool)
    → IsSome reason → phase_by reason peer una shut fin_acked ended ended_first ≡ phases.Closed
closed_phase (Some why) peer una shut fin_acked ended ended_first s = refl
closed_phase None peer una shut fin_acked ended ended_first s = absurd (true≢false (sym s))

pub closed_changes_nothing : (e : Endpoint) (tick : ℕ) (seg : Seg) → IsSome e.reason → (rx e tick seg).state ≡ e
unfolding rx
closed_changes_nothing e tick seg s =
    subst (λ (ph : Phase). (rx_in ph e tick seg).state ≡ e)
    (sym (closed_phase e.reason e.peer e.tx.una e.tx.shut _ e.rx.ended e.rx.ended_first s)) refl

-- ----- which segments are dropped
abbrev by_tests : (acceptable bare rst first syn ack : Bool) → ℕ → Verdict
by_tests acceptable bare rst first syn ack q =
    cond (not acceptable) (cond bare BareAck (cond rst Dropped Answered))
    (cond rst (cond first Reset Answered) (cond syn Answered (cond ack (Taken q) Dropped)))

outside : (acceptable bare rst first syn ack : Bool) (q : ℕ) → acceptable ≡ false → bare ≡ false
    → IsDropped (by_tests acceptable bare rst first syn ack q)
outside false false true first syn ack q a b = tt
outside false false false first syn ack q a b = tt
outside true bare rst first syn ack q a b = absurd (true≢false a)
outside false true rst first syn ack q a b = absurd (true≢false b)

elsewhere : (acceptable bare rst first syn ack : Bool) (q : ℕ) → acceptable ≡ true → rst ≡ true → first ≡ false
    → IsDropped (by_tests acceptable bare rst first syn ack q)
elsewhere true bare true false syn ack q a r f = tt
elsewhere false bare rst first syn ack q a r f = absurd (true≢false (sym a))
elsewhere true bare false first syn ack q a r f = absurd (true≢false (sym r))
elsewhere true bare true true syn ack q a r f = absurd (true≢false f)

synchronizes : (acceptable bare rst first syn ack : Bool) (q : ℕ) → acceptable ≡ true → rst ≡ false → syn ≡ true
    → IsDropped (by_tests acceptable bare rst first syn ack q)
synchronizes true bare false first true ack q a r s = tt
synchronizes false bare rst first syn ack q a r s = absurd (true≢false (sym a))
synchronizes true bare true first syn ack q a r s = absurd (true≢false r)
synchronizes true bare false first false ack q a r s = absurd (true≢false (sym s))

says_nothing : (acceptable bare rst first syn ack : Bool) (q : ℕ) → acceptable ≡ true → rst ≡ false → ack ≡ false
    → IsDropped (by_tests acceptable bare rst first syn ack q)
says_nothing true bare false first true ack q a r k = tt
says_nothing true bare false first false false q a r k = tt
says_nothing false bare rst first syn ack q a r k = absurd (true≢false (sym a))
says_nothing true bare true first syn ack q a r k = absurd (true≢false r)
says_nothing true bare false first false true q a r k = absurd (true≢false k)

-- the tests of a segment whose place is q
abbrev Tested : Endpoint → Seg → ℕ → Verdict
Tested e seg q =
    by_tests (is_acceptable (next_place e.rx) (wnd e) q (seg_len seg)) (eqb (wnd e) 0 && eqb q (next_place e.rx)
    && not (is_rst seg) && not (is_syn seg)) (is_rst seg) (eqb q (next_place e.rx)) (is_syn seg) (is_ack seg) q

at_place : (e : Endpoint) (seg : Seg) (q : ℕ) → place_of_seq e seg ≡ Some q → IsDropped (Tested e seg q)
    → IsDropped (verdict e seg)
at_place e seg q is d = subst (λ (o : Option ℕ). IsDropped (verdict_of_place o (next_place e.rx) (wnd e) seg))
    (sym is) d

no_exception : (window r q : ℕ) (rst syn : Bool) → (window ≡ 0 → q ≡ r → ⊥)
    → (eqb window 0 && eqb q r && not rst && not syn) ≡ false
no_exception window r q rst syn none = by_first (eqb window 0) (eqb q r) refl refl
  where
    by_first : (b c : Bool) → eqb window 0 ≡ b → eqb q r ≡ c → (b && c && not rst && not syn) ≡ false
    by_first false c h k = refl
    by_first true false h k = refl
    by_first true true h k = absurd (none (grind (arith, nat_tests, h)) (grind (arith, nat_tests, k)))

not_first : (q r : ℕ) → (q ≡ r → ⊥) → eqb q r ≡ false
not_first q r other = by_test (eqb q r) refl
  where
    by_test : (b : Bool) → eqb q r ≡ b → b ≡ false
    by_test false h = refl
    by_test true h = absurd (other (grind (arith, nat_tests, h)))

pub negative_dropped : (e : Endpoint) (seg : Seg) → place_of_seq e seg ≡ None → IsDropped (verdict e seg)
negative_dropped e seg is = subst (λ (o : Option ℕ). IsDropped (verdict_of_place o (next_place e.rx) (wnd e) seg))
    (sym is) (by_reset (is_rst seg))
  where
    by_reset : (b : Bool) → IsDropped (cond b Dropped Answered)
    by_reset true = tt
    by_reset false = tt

pub unacceptable_dropped : (e : Endpoint) (seg : Seg) (q : ℕ) → place_of_seq e seg ≡ Some q
    → is_acceptable (next_place e.rx) (wnd e) q (seg_len seg) ≡ false
    → (wnd e ≡ 0 → q ≡ next_place e.rx → ⊥) → IsDropped (verdict e seg)
unacceptable_dropped e seg q is a none =
    at_place e seg q is (outside _ _ (is_rst seg) _ (is_syn seg) (is_ack seg) q a
    (no_exception (wnd e) (next_place e.rx) q (is_rst seg) (is_syn seg) none))

pub reset_elsewhere_dropped : (e : Endpoint) (seg : Seg) (q : ℕ) → place_of_seq e seg ≡ Some q
    → is_acceptable (next_place e.rx) (wnd e) q (seg_len seg) ≡ true
    → is_rst seg ≡ true → (q ≡ next_place e.rx → ⊥) → IsDropped (verdict e seg)
reset_elsewhere_dropped e seg q is a rst other =
    at_place e seg q is (elsewhere _ _ (is_rst seg) _ (is_syn seg) (is_ack seg) q a rst
    (not_first q (next_place e.rx) other))

pub syn_dropped : (e : Endpoint) (seg : Seg) (q : ℕ) → place_of_seq e seg ≡ Some q
    → is_acceptable (next_place e.rx) (wnd e) q (seg_len seg) ≡ true
    → is_rst seg ≡ false → is_syn seg ≡ true → IsDropped (verdict e seg)
syn_dropped e seg q is a rst syn =
    at_place e seg q is (synchronizes _ _ (is_rst seg) _ (is_syn seg) (is_ack seg) q a rst syn)

pub no_ack_dropped : (e : Endpoint) (seg : Seg) (q : ℕ) → place_of_seq e seg ≡ Some q
    → is_acceptable (next_place e.rx) (wnd e) q (seg_len seg) ≡ true
    → is_rst seg ≡ false → is_ack seg ≡ false → IsDropped (verdict e seg)
no_ack_dropped e seg q is a rst ack =
    at_place e seg q is (says_nothing _ _ (is_rst seg) _ (is_syn seg) (is_ack seg) q a rst ack)
