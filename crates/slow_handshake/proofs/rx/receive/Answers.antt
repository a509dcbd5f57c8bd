use Rattle.std.proofs.Common.{◌≡◌, sym, ◌∙◌, subst}
use Rattle.tas_model.specs.declared.entry.Phase.{Phase}
use Rattle.tas_model.specs.declared.entry.Phase.TheVariants as phases
use Rattle.tas_model.specs.Endpoint.{phase}
use Rattle.tas_model.specs.Receive.{rx, rx_in}
use Rattle.flow_state.specs.Calls.{seg_of}
use Rattle.flow_state.specs.Made.{IsOutcome}
use Rattle.slow_handshake.proofs.rx.receive.Goals as goal

pub returns-in-SynSent-clause-made : goal.returns-in-SynSent-clause-made
unfolding rx
returns-in-SynSent-clause-made c out e v s =
    let here : phase e ≡ phases.SynSent = sym s.phase ∙ c.in-SynSent.is in
    subst (λ (p : Phase). IsOutcome c.receive_in_syn_sent.new.parts c.receive_in_syn_sent.result out
    (rx_in p e c.args.tick (seg_of c.args.seg.now))) (sym here) (c.receive_in_syn_sent.ensures.made out e v s here)
