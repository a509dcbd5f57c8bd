-- How the code's scripts are seen as those of the model.
use Rattle.std.specs.Prelude.{ℕ, Bool, ◌&&◌, List, map, bytes_eq}
use Rattle.scenario_text.specs.declared.scenario.AppLine.{AppLine}
use Rattle.scenario_text.specs.declared.scenario.KillLine.{KillLine}
use Rattle.scenario_runs.specs.Applications.{Bound, AListener, ASocket, Script}
use Rattle.scenario_host.specs.declared.script.Bound as code
use Rattle.scenario_host.specs.declared.script.Bound.TheVariants as bounds
use Rattle.scenario_host.specs.declared.script.Named.{Named}
use Rattle.scenario_host.specs.declared.script.AppScript.TheInside.{Inside}

abbrev pub bound_of : code.Bound → Bound
bound_of (bounds.Listener port) = AListener port
bound_of (bounds.Socket place) = ASocket place

-- a name and what it stands for
abbrev pub named : Named → List ℕ × Bound
named n = (n.name.now, bound_of n.bound)

abbrev pub script_of : Inside → Script
script_of s =
    record {
      number = s.number;
      kill = s.kill;
      left = s.left.now;
      done = s.done;
      begun = s.begun;
      names = map named s.names.items;
    }

-- a kill of the application that finds it with a record in hand
abbrev pub is_holding_kill : AppLine → KillLine → Bool
is_holding_kill app k = k.holding && bytes_eq k.host app.host && bytes_eq k.app app.name
