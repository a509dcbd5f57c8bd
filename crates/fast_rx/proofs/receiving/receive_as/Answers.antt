use Rattle.std.proofs.Common.{sym, subst}
use Rattle.tas_model.specs.Receive.{by_verdict}
use Rattle.flow_state.specs.Made.{IsOutcome}
use Rattle.flow_state.specs.Calls.{seg_of}
use Rattle.fast_rx.specs.declared.hearing.Hearing.{Hearing}
use Rattle.fast_rx.specs.Judgements.{verdict_of}
use Rattle.fast_rx.proofs.receiving.receive_as.Goals as goal

pub returns-in-BareAck-clause-made : goal.returns-in-BareAck-clause-made
returns-in-BareAck-clause-made c out e v s =
    subst (λ (h : Hearing). IsOutcome c.bare_ack.new.parts c.bare_ack.result out
    (by_verdict e c.args.tick (seg_of c.args.seg.now) (verdict_of h))) (sym c.in-BareAck.is)
    (c.bare_ack.ensures.made out e v s)

pub returns-in-Taken-clause-made : goal.returns-in-Taken-clause-made
returns-in-Taken-clause-made c out e v s =
    subst (λ (h : Hearing). IsOutcome c.take.new.parts c.take.result out
    (by_verdict e c.args.tick (seg_of c.args.seg.now) (verdict_of h))) (sym c.in-Taken.is)
    (c.take.ensures.made out e v s)
