-- Measures or invariants of starting/new_traffic.
use Rattle.std.proofs.Common.{◌≡◌, map, take}
use Rattle.scenario_runs.specs.Worlds.{site_of}
use Rattle.scenario_text.specs.declared.scenario.HostLine.{HostLine}
use Rattle.scenario_world.specs.Playing.{AreCounted}
use Rattle.shared_world.proofs.starting.new_traffic.Given as goal

-- that of the hosts of the first lines
abbrev pub invariant-loop-line : goal.invariant-loop-line
invariant-loop-line l = record {
  addresses : l.addresses.items ≡ map (λ (h : HostLine). h.params.addr) (take l.line-index l.line-items);
  counted : AreCounted (map (site_of l.s) (take l.line-index l.line-items)) l.counts.items;
}
