-- No reset is the answer to a reset.
use Rattle.std.proofs.Common.{◌≡◌, ℕ, Bool, true, not, ◌&&◌, Option, Some, None, refl, sym, ◌∙◌, true≢false, arith}
use Rattle.std.proofs.Common.{leb, eqb}
use Rattle.std.proofs.lemmas.Bool.Decides.{nat_tests}
use Rattle.tas_model.proofs.Tests.{on_cond}
use Rattle.tas_model.specs.declared.entry.Phase.{Phase}
use Rattle.tas_model.specs.declared.entry.Phase.TheVariants as phases
use Rattle.tas_model.specs.declared.entry.Seg.{Seg}
use Rattle.tas_model.specs.declared.entry.Reply.TheVariants as replies
use Rattle.tas_model.specs.Endpoint.{Endpoint, phase, next_place, wnd}
use Rattle.tas_model.specs.Segments.{Outcome, seg_len, is_ack, is_rst, is_syn}
use Rattle.tas_model.specs.Receive.{rx, rx_in, rx_later, rx_syn_sent, by_verdict, verdict, verdict_at}
use Rattle.tas_model.specs.Receive.{verdict_of_place, refused, place_of_seq, place_of_ack, is_acceptable, Verdict}
use Rattle.tas_model.specs.Receive.{Dropped, Answered, Reset, BareAck, Taken}
use Rattle.tas_model.specs.StandardsWords.{IsNoReset}

-- neither its bytes nor its acknowledgement are heard
abbrev Unheard : Verdict → Type 0
Unheard Dropped = Unit {0}
Unheard Answered = Unit {0}
Unheard Reset = Unit {0}
Unheard BareAck = ⊥
Unheard (Taken q) = ⊥

refused_unheard : (seg : Seg) → Unheard (refused seg)
refused_unheard seg = on_cond Unheard (is_rst seg) Dropped Answered (λ t. tt) (λ f. tt)

at_unheard : (r window q : ℕ) (seg : Seg) → is_rst seg ≡ true → Unheard (verdict_at r window q seg)
at_unheard r window q seg rst =
    on_cond Unheard (not (is_acceptable r window q (seg_len seg))) _ _
    (λ t. on_cond Unheard (eqb window 0 && eqb q r && not (is_rst seg) && not (is_syn seg)) BareAck (refused seg)
    (λ u. absurd (not_both (eqb window 0) (eqb q r) (is_rst seg) (not (is_syn seg)) rst u))
    (λ u. refused_unheard seg))
    (λ f. on_cond Unheard (is_rst seg) _ _ (λ t. on_cond Unheard (eqb q r) Reset Answered (λ u. tt)
    (λ u. tt)) (λ g. absurd (true≢false (sym rst ∙ g))))
  where
    not_both : (a b c d : Bool) → c ≡ true → (a && b && not c && d) ≡ true → ⊥
    not_both a b c d h all = grind (arith, nat_tests, h, all)

place_unheard : (o : Option ℕ) (r window : ℕ) (seg : Seg) → is_rst seg ≡ true
    → Unheard (verdict_of_place o r window seg)
place_unheard None r window seg rst = refused_unheard seg
place_unheard (Some q) r window seg rst = at_unheard r window q seg rst

abbrev N : Outcome → Type 0
N o = IsNoReset o.reply

by_unheard : (e : Endpoint) (tick : ℕ) (seg : Seg) (d : Verdict) → Unheard d → N (by_verdict e tick seg d)
by_unheard e tick seg Dropped u = tt
by_unheard e tick seg Answered u = refl
by_unheard e tick seg Reset u = tt
by_unheard e tick seg BareAck u = absurd u
by_unheard e tick seg (Taken q) u = absurd u

in_phase : (ph : Phase) (e : Endpoint) (tick : ℕ) (seg : Seg) → is_rst seg ≡ true → N (rx_in ph e tick seg)
unfolding rx_later rx_syn_sent
in_phase phases.Closed e tick seg rst =
    on_cond IsNoReset (is_rst seg) replies.Nothing _ (λ t. tt) (λ f. absurd (true≢false (sym rst ∙ f)))
in_phase phases.SynSent e tick seg rst =
    on_cond N (is_ack seg && not (eqb (place_of_ack e seg) 1 && leb 1 e.tx.max)) _ _
    (λ t. on_cond IsNoReset (is_rst seg) replies.Nothing _ (λ u. tt) (λ u. absurd (true≢false (sym rst ∙ u))))
    (λ f. on_cond N (is_rst seg) _ _ (λ t. tt) (λ u. absurd (true≢false (sym rst ∙ u))))
in_phase _ e tick seg rst =
    by_unheard e tick seg (verdict e seg) (place_unheard (place_of_seq e seg) (next_place e.rx) (wnd e) seg rst)

pub no_reset_for_a_reset : (e : Endpoint) (tick : ℕ) (seg : Seg) → is_rst seg ≡ true → IsNoReset (rx e tick seg).reply
unfolding rx
no_reset_for_a_reset e tick seg rst = in_phase (phase e) e tick seg rst
