-- Measures or invariants of scripts/all_ended.
use Rattle.std.proofs.Common.{◌≡◌, drop}
use Rattle.std.specs.List.{list_all}
use Rattle.scenario_runs.specs.Applications.{has_ended}
use Rattle.shared_scripts.proofs.scripts.all_ended.Given as goal

-- the scripts that are left lead to the same
abbrev pub invariant-loop-script : goal.invariant-loop-script
invariant-loop-script l = list_all has_ended (drop l.script-index l.scripts) ≡ list_all has_ended l.scripts
