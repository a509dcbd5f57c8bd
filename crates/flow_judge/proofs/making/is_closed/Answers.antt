use Rattle.std.proofs.Common.{sym, ap, ◌∙◌}
use Rattle.tas_model.specs.LegalHistory.{replay}
use Rattle.flow_state.specs.declared.parts.Parts.{Parts}
use Rattle.flow_state.specs.Calls.{is_closed_phase}
use Rattle.flow_judge.proofs.Steps.{no_tick}
use Rattle.flow_judge.proofs.making.is_closed.Goals as goal

pub returns-clause-closed : goal.returns-clause-closed
returns-clause-closed c = λ over.
    let f = c.args.flow.now in
    let same = ap (λ (p : Parts). is_closed_phase p.phase) c.parts.ensures.parts in
    no_tick (replay f.params f.entries) f.parts.phase c.parts.ensures.phase
    (sym same ∙ (sym c.is_closed.ensures ∙ over))
