use Rattle.std.proofs.Common.{subst}
use Rattle.tas_model.specs.Valid.{InRange}
use Rattle.tas_model.specs.LegalHistory.{Legal}
use Rattle.host_rounds.specs.Hosts.{Live}
use Rattle.local_host.specs.Live.{flow_in}
use Rattle.local_host.proofs.Sleeping.{lags}
use Rattle.local_host.proofs.live.LiveFlow.know_legal.Goals as goal

pub returns : goal.returns
returns c =
    let p = c.parts-parts.ensures in
    let so = lags c.self.inside.sleep (flow_in c.self.inside.history) p.legal c.self.invariant in
    record {
      legal = subst (λ (l : Live). InRange l.flow.params × Legal l.flow.params l.flow.entries) c.self.view_is
          (p.ranges, so.legal);
    }
