use Rattle.std.proofs.Common.{◌≡◌, sym, ◌∙◌, ap, subst}
use Rattle.tas_model.specs.declared.entry.Seg.{Seg}
use Rattle.tas_model.specs.Segments.{Outcome}
use Rattle.tas_model.specs.Receive.{taken, ack_verdict, place_of_ack, Good}
use Rattle.flow_state.specs.Made.{IsOutcome}
use Rattle.flow_state.specs.Calls.{seg_of}
use Rattle.fast_rx.specs.Judgements.{ack_verdict_of}
use Rattle.fast_rx.proofs.receiving.take.Goals as goal

pub returns-in-Good-clause-made : goal.returns-in-Good-clause-made
returns-in-Good-clause-made c out e v s =
    let seg : Seg = seg_of c.args.seg.now in
    let a : c.acknowledged-a.result ≡ place_of_ack e seg = c.acknowledged-a.ensures e v s in
    let good : ack_verdict e.tx c.acknowledged-a.result ≡ Good = sym (c.accept.ensures e v s)
    ∙ ap ack_verdict_of c.in-Good.is in
    let there : ack_verdict e.tx (place_of_ack e seg) ≡ Good = ap (ack_verdict e.tx) (sym a) ∙ good in
    subst (λ (o : Outcome). IsOutcome c.take_good.new.parts c.take_good.result out o)
    (sym (ap (taken e c.args.tick c.args.q seg) there)) (c.take_good.ensures.made out e v s a good)
