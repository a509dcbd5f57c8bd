use Rattle.std.proofs.Common.{◌<◌, arith, sym, subst}
use Rattle.tas_model.specs.Endpoint.{Endpoint}
use Rattle.tas_model.specs.LegalHistory.{replay}
use Rattle.tas_model.specs.Valid.{Valid}
use Rattle.tas_model.proofs.ValidCalls.{valid_replay}
use Rattle.flow_state.specs.declared.parts.Parts.{Parts}
use Rattle.flow_state.specs.Stands.{Stands}
use Rattle.local_host.proofs.Sleeping.{before_timeout}
use Rattle.local_host.proofs.sleep.rest.Goals as goal

pub returns-clause-rested : goal.returns-clause-rested
returns-clause-rested c =
    let f = c.args.history.now in
    let e : Endpoint = replay f.params f.entries in
    let p = c.parts-parts.ensures in
    let valid : Valid e = valid_replay f.params f.entries p.ranges p.legal in
    let stands : Stands c.parts-parts.result.now e = subst (λ (q : Parts). Stands q e) (sym p.parts) p.stands in
    record {
      far = omega arith;
      rests = λ some. record {
        still = c.is_still.ensures e valid stands c.if-not-is_still.false;
        early = λ armed.
            let left : 0 < c.early_ticks.result = omega (arith, some) in
            omega (arith, before_timeout e c.early_ticks.result (c.early_ticks.ensures e valid stands) left armed);
      };
    }
