use Rattle.std.proofs.Common.{◌≡◌, ◌-◌}
use Rattle.scenario_runs.specs.Worlds.{at_start}
use Rattle.scenario_runs.specs.Runs.{serial_from}
use Rattle.scenario_world.specs.Playing.{IsWorld}
use Rattle.scenario_world.proofs.world.play_scenario.Given as goal

-- the ticks that are left lead to the same end
abbrev pub invariant-loop-tick : goal.invariant-loop-tick
invariant-loop-tick l = record {
  world : IsWorld l.s l.tick l.playing;
  run : serial_from l.s (l.s.limit - l.tick) l.tick l.playing.hosts.items ≡ serial_from l.s l.s.limit 0 (at_start l.s);
}
