-- The scripts of a host at its start.
use Rattle.std.proofs.Common.{◌≤◌, ◌<◌, ◌+◌, ℕ, Bool, true, false, cond, List, [], ◌∷◌, ◌++◌, bytes_eq}
use Rattle.std.proofs.Common.{arith}
use Rattle.host_rounds.specs.Lists.{Each}
use Rattle.scenario_text.specs.declared.scenario.AppLine.{AppLine}
use Rattle.scenario_text.specs.declared.scenario.KillLine.{KillLine}
use Rattle.scenario_text.specs.declared.scenario.HostLine.{HostLine}
use Rattle.scenario_text.specs.declared.scenario.Scenario.{Scenario}
use Rattle.scenario_ranges.specs.Ranges.{IsStepInRange, IsInRange, IsHostInRange}
use Rattle.scenario_runs.specs.Applications.{Script}
use Rattle.scenario_runs.specs.Worlds.{scripts_on, kill_tick, site_of}
use Rattle.scenario_host.specs.Sound.{IsFit, AreRising, IsSound}
use Rattle.scenario_host.proofs.Fit.{part_of_none}
use Rattle.scenario_host.proofs.Walking.{each_weaker}

-- scripts from this number on
record AreFrom (n : ℕ) (ss : List Script) : Type 0 where
  above : Each (λ (s : Script). n ≤ s.number) ss
  rising : AreRising ss
  fit : Each (IsFit 0) ss

abbrev started : List KillLine → (number : ℕ) → AppLine → Script
started kills n app =
    record { number = n; kill = kill_tick kills app; left = app.steps; done = 0; begun = false; names = [] }

after_less : (n : ℕ) (ss : List Script) → AreFrom (n + 1) ss → AreFrom n ss
after_less n ss from = record {
  above = each_weaker (λ (s : Script). n + 1 ≤ s.number) (λ (s : Script). n ≤ s.number) (λ s h. omega (arith, h)) ss
      from.above;
  rising = from.rising;
  fit = from.fit;
}

one_first : (kills : List KillLine) (n : ℕ) (app : AppLine) (ss : List Script) → Each IsStepInRange app.steps
    → AreFrom (n + 1) ss → AreFrom n (started kills n app ∷ ss)
one_first kills n app ss ranges from = record {
  above = (omega arith, (after_less n ss from).above);
  rising = (
    each_weaker (λ (s : Script). n + 1 ≤ s.number) (λ (s : Script). n < s.number) (λ s h. omega (arith, h)) ss
        from.above,
    from.rising,
  );
  fit = (record { steps = ranges; part = part_of_none app.steps ranges; names = tt }, from.fit);
}

scripts_from : (kills : List KillLine) (host : List ℕ) (n : ℕ) (apps : List AppLine)
    → Each (λ (app : AppLine). Each IsStepInRange app.steps) apps → AreFrom n (scripts_on kills host n apps)
scripts_from kills host n [] ranges = record { above = tt; rising = tt; fit = tt }
scripts_from kills host n (app ∷ apps) ranges =
    by_test (bytes_eq app.host host) (scripts_from kills host (n + 1) apps ranges.1)
  where
    by_test : (b : Bool) → AreFrom (n + 1) (scripts_on kills host (n + 1) apps)
        → AreFrom n ((cond b (started kills n app ∷ []) []) ++ scripts_on kills host (n + 1) apps)
    by_test true rest = one_first kills n app (scripts_on kills host (n + 1) apps) ranges.0 rest
    by_test false rest = after_less n (scripts_on kills host (n + 1) apps) rest

pub starts_sound : (s : Scenario) (line : HostLine) → IsInRange s → IsHostInRange line → IsSound (site_of s line)
starts_sound s line ranges host =
    let from : AreFrom 0 (scripts_on s.kills line.name 0 s.apps) =
    scripts_from s.kills line.name 0 s.apps ranges.steps in
    record { listens = host.listens; numbers = from.rising; scripts = from.fit }
