use Rattle.std.proofs.Common.{ap, sym, ◌∙◌}
use Rattle.host_rounds.specs.Hosts.{Live, endpoint}
use Rattle.local_host.specs.Live.{flow_in}
use Rattle.local_host.proofs.Sleeping.{lags, iss_slept}
use Rattle.local_host.proofs.live.LiveFlow.iss.Goals as goal

pub returns : goal.returns
returns c =
    let so = lags c.self.inside.sleep (flow_in c.self.inside.history) c.parts-parts.ensures.legal c.self.invariant in
    c.first_number.ensures
    ∙ (sym (iss_slept _ _ _ so.slept) ∙ ap (λ (l : Live). (endpoint l).iss) c.self.view_is)
