use Rattle.std.proofs.Common.{◌≡◌, map, take}
use Rattle.scenario_text.specs.declared.scenario.HostLine.{HostLine}
use Rattle.scenario_runs.specs.Worlds.{site_of}
use Rattle.scenario_world.specs.Playing.{AreCounted}
use Rattle.scenario_world.proofs.playing.at_start.Given as goal

abbrev pub invariant-loop-line : goal.invariant-loop-line
invariant-loop-line l = record {
  hosts : l.hosts.items ≡ map (site_of l.s) (take l.line-index l.line-items);
  addresses : l.addresses.items ≡ map (λ (h : HostLine). h.params.addr) (take l.line-index l.line-items);
  counted : AreCounted l.hosts.items l.counts.items;
}
