use Rattle.host_rounds.specs.Lists.{Each}
use Rattle.local_host.specs.declared.host.HostEnd.{HostEnd}
use Rattle.local_host.specs.Live.{IsLegal}
use Rattle.scenario_world.specs.Ends.{AreEnds}
use Rattle.scenario_world.proofs.world.end_of.Given as goal

abbrev pub invariant-loop-host : goal.invariant-loop-host
invariant-loop-host l = record {
  ends : AreEnds l.yielded l.ends.items;
  legal : Each (λ (e : HostEnd). Each IsLegal e.flows.items) l.ends.items;
}
