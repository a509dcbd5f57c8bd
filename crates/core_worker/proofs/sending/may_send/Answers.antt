use Rattle.std.proofs.Common.{is_some, sym, subst, ap, ◌∙◌}
use Rattle.tas_model.specs.Endpoint.{Endpoint}
use Rattle.tas_model.specs.NextSegment.{going}
use Rattle.tas_model.specs.LegalHistory.{replay}
use Rattle.tas_model.proofs.ValidCalls.{valid_replay}
use Rattle.flow_state.specs.declared.parts.Parts.{Parts}
use Rattle.flow_state.specs.Stands.{Stands}
use Rattle.core_worker.proofs.Emissions.{some_out}
use Rattle.core_worker.proofs.sending.may_send.Goals as goal

pub returns-clause-going : goal.returns-clause-going
returns-clause-going c =
    let e : Endpoint = replay c.args.flow.now.params c.args.flow.now.entries in
    let stands : Stands c.parts.result.now e = subst (λ (p : Parts). Stands p e)
    (sym c.parts.ensures.parts) c.parts.ensures.stands in
    c.is_some.ensures ∙ (ap is_some (c.next_out.ensures.segment e
    (valid_replay c.args.flow.now.params c.args.flow.now.entries c.parts.ensures.ranges c.parts.ensures.legal)
    stands) ∙ some_out (going e))
