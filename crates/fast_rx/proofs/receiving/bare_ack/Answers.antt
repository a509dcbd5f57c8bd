use Rattle.std.proofs.Common.{◌≡◌, Bool, true, cond, sym, ◌∙◌, ap, subst, rules}
use Rattle.tas_model.specs.declared.entry.Seg.{Seg}
use Rattle.tas_model.specs.Segments.{Outcome, is_ack, unchanged, acks}
use Rattle.tas_model.specs.Receive.{bare_ack, ack_verdict, place_of_ack, Good}
use Rattle.flow_state.specs.Made.{IsOutcome}
use Rattle.flow_state.specs.Calls.{seg_of}
use Rattle.fast_rx.specs.Judgements.{ack_verdict_of}
use Rattle.fast_rx.proofs.receiving.bare_ack.Goals as goal

pub returns-in-Good-clause-made : goal.returns-in-Good-clause-made
returns-in-Good-clause-made c out e v s =
    let seg : Seg = seg_of c.args.seg.now in
    let a : c.acknowledged-a.result ≡ place_of_ack e seg = c.acknowledged-a.ensures e v s in
    let good : ack_verdict e.tx c.acknowledged-a.result ≡ Good = sym (c.accept.ensures e v s)
    ∙ ap ack_verdict_of c.in-Good.is in
    let there : ack_verdict e.tx (place_of_ack e seg) ≡ Good = ap (ack_verdict e.tx) (sym a) ∙ good in
    let ack : is_ack seg ≡ true = search rules in
    let same : cond (is_ack seg) (bare_ack e c.args.tick seg (ack_verdict e.tx (place_of_ack e seg)))
    (unchanged e (acks e)) ≡ bare_ack e c.args.tick seg Good =
    ap (λ (t : Bool). cond t (bare_ack e c.args.tick seg (ack_verdict e.tx (place_of_ack e seg)))
    (unchanged e (acks e))) ack ∙ ap (bare_ack e c.args.tick seg) there in
    subst (λ (o : Outcome). IsOutcome c.take_bare.new.parts c.take_bare.result out o) (sym same)
    (c.take_bare.ensures.made out e v s a good)
