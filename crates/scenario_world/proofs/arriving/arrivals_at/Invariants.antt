use Rattle.std.proofs.Common.{◌≡◌, ◌==◌, map, filter, take}
use Rattle.link_script.specs.declared.frames.Sent.{Sent}
use Rattle.local_host.specs.Arriving.{arrival_in}
use Rattle.scenario_runs.specs.Worlds.{arrival}
use Rattle.scenario_world.proofs.arriving.arrivals_at.Given as goal

abbrev pub invariant-loop-i : goal.invariant-loop-i
invariant-loop-i l =
    map arrival_in l.arrivals.items ≡ map arrival (filter (λ (f : Sent). f.to == l.host) (take l.i l.due))
