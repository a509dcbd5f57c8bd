use Rattle.std.proofs.Common.{◌≡◌, ◌++◌, take}
use Rattle.std.specs.List.{flat_map}
use Rattle.scenario_text.specs.Canonical.{host_text}
use Rattle.scenario_text.proofs.printing.put_hosts.Given as goal

abbrev pub invariant-loop-host : goal.invariant-loop-host
invariant-loop-host l = l.out.items ≡ l.fn.out.items ++ flat_map host_text (take l.host-index l.hosts)
