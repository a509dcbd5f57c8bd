use Rattle.std.proofs.Common.{sym, ◌∙◌, ap, subst}
use Rattle.tas_model.specs.Segments.{Outcome}
use Rattle.tas_model.specs.OneStream.{IsSynchronized}
use Rattle.tas_model.specs.Receive.{by_verdict}
use Rattle.flow_state.specs.Made.{IsOutcome}
use Rattle.flow_state.specs.Calls.{seg_of}
use Rattle.fast_rx.proofs.Taking.{rx_is}
use Rattle.fast_rx.proofs.receiving.receive.Goals as goal

pub returns-clause-made : goal.returns-clause-made
returns-clause-made c out e v s =
    subst (λ (o : Outcome). IsOutcome c.receive_as.new.parts c.receive_as.result out o)
    (ap (by_verdict e c.args.tick (seg_of c.args.seg.now)) (c.hear-hearing.ensures.verdict e v s)
    ∙ sym (rx_is e c.args.tick (seg_of c.args.seg.now) (subst IsSynchronized s.phase c.requires.later)))
    (c.receive_as.ensures.made out e v s)
