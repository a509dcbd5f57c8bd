use Rattle.std.proofs.Common.{refl, subst}
use Rattle.host_rounds.specs.Hosts.{Live}
use Rattle.local_host.specs.Live.{flow_in}
use Rattle.local_host.specs.Lacking.{LacksTicks}
use Rattle.local_host.proofs.Sleeping.{lags}
use Rattle.local_host.proofs.live.LiveFlow.record.Goals as goal

pub returns-clause-lacks : goal.returns-clause-lacks
returns-clause-lacks c =
    let so = lags c.self.inside.sleep (flow_in c.self.inside.history) c.parts-parts.ensures.legal c.self.invariant in
    subst (λ (l : Live). LacksTicks c.self.inside.history l.flow) c.self.view_is
    (record {
      ticks = so.ticks;
      entries = so.entries;
      quiet = so.quiet;
      id = refl;
      tuple = refl;
      params = refl;
    })
