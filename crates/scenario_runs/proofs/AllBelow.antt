-- The cores that make the entries of a run: on one thread there is one.
use Rattle.std.proofs.Common.{ℕ, zero, suc, ◌+◌, Bool, true, false, List, [], ◌∷◌, map}
use Rattle.host_rounds.specs.Cores.{CoresBelow}
use Rattle.host_rounds.proofs.AllBelow.{run_low, serial_tick_low}
use Rattle.scenario_text.specs.declared.scenario.Scenario.{Scenario}
use Rattle.scenario_text.specs.declared.scenario.HostLine.{HostLine}
use Rattle.scenario_runs.specs.Worlds.{World, site_of, at_start, scripts_of, due_at, is_at_rest}
use Rattle.scenario_runs.specs.Runs.{serial_sites, serial_world, End, serial_from, hosts_of, serial_run}
use Rattle.scenario_runs.specs.Histories.{AreBelow}
use Rattle.scenario_runs.proofs.AllRuns.{AreLegal, serial_is_tick, rounds_legal, start_legal}
use Rattle.scenario_runs.proofs.ByMoves.{scenarios_by_moves}

-- a run begins with no entry
pub start_low : (cores : ℕ) (s : Scenario) (hosts : List HostLine) → AreBelow cores (map (site_of s) hosts)
start_low cores s [] = tt
start_low cores s (h ∷ hs) = (tt, start_low cores s hs)

-- what is left of a world
pub hosts_low : (cores : ℕ) (hosts : List HostLine) (world : World) → AreBelow cores world
    → CoresBelow cores (hosts_of hosts world)
hosts_low cores [] world low = tt
hosts_low cores (h ∷ hs) [] low = tt
hosts_low cores (h ∷ hs) (site ∷ sites) low =
    (run_low cores site.host.flows low.0, hosts_low cores hs sites low.1)

-- ----- the serial run
sites_low : (s : Scenario) (whole : World) (t h : ℕ) (world : World) → AreLegal world → AreBelow 1 world
    → AreBelow 1 (serial_sites s whole t h world)
sites_low s whole t h [] legal low = tt
sites_low s whole t h (site ∷ sites) legal low = (
  serial_tick_low (scripts_of s site.host.params) t (due_at s whole t h site.scripts) site
      (scenarios_by_moves s site.host.params) legal.0 low.0,
  sites_low s whole t (h + 1) sites legal.1 low.1,
)

world_low : (s : Scenario) (t : ℕ) (world : World) → AreLegal world → AreBelow 1 world
    → AreBelow 1 (serial_world s t world)
unfolding serial_world
world_low s t world legal low = sites_low s world t 0 world legal low

abbrev picked : Bool → End → End → End
picked rest stopped going = elim rest [ true ↦ stopped | false ↦ going ]

runs_low : (s : Scenario) (most t : ℕ) (world : World) → AreLegal world → AreBelow 1 world
    → AreBelow 1 (serial_from s most t world).world
unfolding serial_from
runs_low s zero t world legal low = low
runs_low s (suc most) t world legal low =
    let next : World = serial_world s t world in
    let after : AreBelow 1 next = world_low s t world legal low in
    by_rest next (is_at_rest s t next) after
    (runs_low s most (t + 1) next (rounds_legal s world t 0 world next (serial_is_tick s t world legal) legal) after)
  where
    by_rest : (next : World) (b : Bool) → AreBelow 1 next → AreBelow 1 (serial_from s most (t + 1) next).world
        → AreBelow 1 (picked b (record { world = next; ticks = t + 1; stalled = false })
        (serial_from s most (t + 1) next)).world
    by_rest next true after rest = after
    by_rest next false after rest = rest

pub serial_run_low : (s : Scenario) → CoresBelow 1 (serial_run s).hosts
serial_run_low s =
    hosts_low 1 s.hosts (serial_from s s.limit 0 (at_start s)).world
    (runs_low s s.limit 0 (at_start s) (start_legal s s.hosts) (start_low 1 s s.hosts))
