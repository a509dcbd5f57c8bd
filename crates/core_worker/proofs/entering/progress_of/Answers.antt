use Rattle.std.proofs.Common.{sym, subst}
use Rattle.tas_model.specs.Endpoint.{Endpoint}
use Rattle.tas_model.specs.LegalHistory.{replay}
use Rattle.tas_model.proofs.ValidCalls.{valid_replay}
use Rattle.flow_state.specs.declared.parts.Parts.{Parts}
use Rattle.flow_state.specs.Stands.{Stands}
use Rattle.core_worker.proofs.entering.progress_of.Goals as goal

pub returns : goal.returns
returns c =
    let e : Endpoint = replay c.args.flow.now.params c.args.flow.now.entries in
    let stands : Stands c.parts.result.now e = subst (λ (p : Parts). Stands p e)
    (sym c.parts.ensures.parts) c.parts.ensures.stands in
    c.of.ensures e
    (valid_replay c.args.flow.now.params c.args.flow.now.entries c.parts.ensures.ranges c.parts.ensures.legal) stands
