use Rattle.std.proofs.Common.{◌≡◌, ◌++◌, take, drop}
use Rattle.link_script.specs.DueFrames.{due}
use Rattle.scenario_runs.specs.Worlds.{World, sent_in}
use Rattle.scenario_runs.specs.Runs.{serial_sites}
use Rattle.scenario_world.proofs.playing.play_hosts.Given as goal

abbrev pub invariant-loop-number : goal.invariant-loop-number
invariant-loop-number l = (whole : World) → l.due ≡ due l.s.link (sent_in whole) l.tick
    → l.hosts ≡ serial_sites l.s whole l.tick 0 (take l.number l.fn.hosts) ++ drop l.number l.fn.hosts
