-- Measures or invariants of resting/have_ended.
use Rattle.std.proofs.Common.{◌≡◌, List, drop}
use Rattle.std.specs.List.{list_all}
use Rattle.scenario_runs.specs.Applications.{Script, has_ended}
use Rattle.shared_world.proofs.resting.have_ended.Given as goal

-- the scripts that are left lead to the same
abbrev pub invariant-loop-own : goal.invariant-loop-own
invariant-loop-own l = list_all (λ (xs : List Script). list_all has_ended xs) (drop l.own-index l.scripts)
    ≡ list_all (λ (xs : List Script). list_all has_ended xs) l.scripts
