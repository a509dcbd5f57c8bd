-- The ranges that the grammar of scenarios keeps.
use Rattle.std.specs.Prelude.{◌≡◌, ◌≤◌, ℕ, false, length, ⊤}
use Rattle.tas_model.specs.Valid.{InRange}
use Rattle.host_rounds.specs.Lists.{Each}
use Rattle.scenario_text.specs.declared.scenario.Step.{Step}
use Rattle.scenario_text.specs.declared.scenario.Step.TheVariants as steps
use Rattle.scenario_text.specs.declared.scenario.Scenario.{Scenario}
use Rattle.scenario_text.specs.declared.scenario.HostLine.{HostLine}
use Rattle.scenario_text.specs.declared.scenario.AppLine.{AppLine}

-- the number is from `low` to `high`
abbrev pub IsFrom : (low high n : ℕ) → Type 0
IsFrom low high n = (low ≤ n) × (n ≤ high)

-- Ports from 49,152 on are given to connects, so that nobody listens there.
abbrev pub IsStepInRange : Step → Type 0
IsStepInRange (steps.Listen name port) = IsFrom 1 49151 port
IsStepInRange (steps.Connect socket host port) = IsFrom 1 65535 port
IsStepInRange (steps.Send socket text) = IsFrom 1 4096 (length text)
IsStepInRange (steps.Fill socket count) = IsFrom 1 1048576 count
IsStepInRange (steps.Recv socket count) = IsFrom 1 1048576 count
IsStepInRange (steps.Wait ticks) = IsFrom 1 10000 ticks
IsStepInRange _ = ⊤

-- A host of a scenario has parameters in their ranges, and only what listens there listens.
pub record IsHostInRange (h : HostLine) : Type 0 where
  pub params : InRange h.params
  pub listens : h.params.fixed ≡ false

pub record IsInRange (s : Scenario) : Type 0 where
  pub limit : IsFrom 1 10000 s.limit
  pub count : IsFrom 1 8 (length s.hosts)
  pub hosts : Each IsHostInRange s.hosts
  pub apps : length s.apps ≤ 2048
  pub steps : Each (λ (app : AppLine). Each IsStepInRange app.steps) s.apps
