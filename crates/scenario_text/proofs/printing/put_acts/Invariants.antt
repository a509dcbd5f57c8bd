use Rattle.std.proofs.Common.{◌≡◌, ◌++◌}
use Rattle.std.specs.List.{flat_map}
use Rattle.scenario_text.specs.Canonical.{act_text}
use Rattle.scenario_text.proofs.printing.put_acts.Given as goal

abbrev pub invariant-loop-target : goal.invariant-loop-target
invariant-loop-target l = l.out.items ++ flat_map (act_text l.hosts) l.target-iterator ≡ l.fn.out.items
    ++ flat_map (act_text l.hosts) l.link.acts
