use Rattle.std.proofs.Common.{sym, subst, ◌∙◌}
use Rattle.tas_model.specs.LegalHistory.{replay}
use Rattle.flow_state.specs.declared.parts.Parts.{Parts}
use Rattle.flow_state.specs.Stands.{Stands}
use Rattle.flow_judge.proofs.Steps.{no_accept, no_control}
use Rattle.flow_judge.proofs.making.is_running.Goals as goal

pub returns-clause-accept : goal.returns-clause-accept
returns-clause-accept c = λ none.
    let f = c.args.flow.now in
    no_accept (replay f.params f.entries) c.stage.result
    (c.stage.ensures.column (replay f.params f.entries)
    (subst (λ (p : Parts). Stands p (replay f.params f.entries)) (sym c.parts.ensures.parts) c.parts.ensures.stands))
    (sym c.is_standing.ensures ∙ none)

pub returns-clause-control : goal.returns-clause-control
returns-clause-control c = λ none.
    let f = c.args.flow.now in
    no_control (replay f.params f.entries) c.stage.result
    (c.stage.ensures.column (replay f.params f.entries)
    (subst (λ (p : Parts). Stands p (replay f.params f.entries)) (sym c.parts.ensures.parts) c.parts.ensures.stands))
    (sym c.is_standing.ensures ∙ none)
