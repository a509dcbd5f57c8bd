use Rattle.host_rounds.specs.Lists.{Each}
use Rattle.local_host.specs.declared.host.HostEnd.{HostEnd}
use Rattle.local_host.specs.Live.{IsLegal}
use Rattle.scenario_world.proofs.Ended.{ends_more, each_more}
use Rattle.scenario_world.proofs.world.end_of.Goals as goal

pub loop-host-preserved : goal.loop-host-preserved
loop-host-preserved c =
    let legal = λ (e : HostEnd). Each IsLegal e.flows.items in
    let end = c.in_ok-finish.field-0 in
    record {
      ends = ends_more c.loop-host.yielded c.loop-host.ends.items c.push.new.self.items c.in-Some.host end
          c.loop-host.invariant.ends
          (record { log = c.in_ok-finish.ensures.log; flows = c.in_ok-finish.ensures.flows })
          c.in_ok-push.ensures.items;
      legal = each_more legal c.loop-host.ends.items c.push.new.self.items end c.loop-host.invariant.legal
          c.in_ok-finish.ensures.legal c.in_ok-push.ensures.items;
    }
