use Rattle.std.proofs.Common.{◌≡◌, ◌++◌, take}
use Rattle.std.specs.List.{flat_map}
use Rattle.scenario_text.specs.Canonical.{app_text}
use Rattle.scenario_text.proofs.printing.put_apps.Given as goal

abbrev pub invariant-loop-app : goal.invariant-loop-app
invariant-loop-app l = l.out.items ≡ l.fn.out.items ++ flat_map app_text (take l.app-index l.apps)
