use Rattle.std.proofs.Common.{◌≡◌, ◌++◌, map, reverse}
use Rattle.host_rounds.specs.Hosts.{flows_of}
use Rattle.host_rounds.specs.Lists.{Each}
use Rattle.local_host.specs.Live.{flow_left, IsLegal}
use Rattle.local_host.proofs.flows.histories_of.Given as goal

abbrev pub invariant-moving : goal.invariant-moving
invariant-moving l = record {
  flows : flows_of l.flows.items ++ map flow_left (reverse l.histories.items) ≡ flows_of l.fn.flows.items;
  legal : Each IsLegal l.histories.items;
}

abbrev pub decreases-moving : goal.decreases-moving
decreases-moving l = l.flows.len
