-- A host with one of its applications, or with all of them.
use Rattle.std.specs.Prelude.{List}
use Rattle.scenario_runs.specs.Applications.{Script, Turn}
use Rattle.host_rounds.specs.Hosts.{Host}
use Rattle.host_rounds.specs.Scripts.{Site}

abbrev pub turn_of : Host → Script → Turn
turn_of host script = record { host = host; script = script }

abbrev pub site_with : Host → List Script → Site (List Script)
site_with host scripts = record { host = host; scripts = scripts }
