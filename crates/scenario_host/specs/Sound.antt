-- What holds of a host's scripts between its ticks.
use Rattle.std.specs.Prelude.{◌≡◌, ℕ, ◌<◌, false, List, [], ◌∷◌, length, ⊤}
use Rattle.tas_model.specs.declared.entry.HostParams.{HostParams}
use Rattle.tas_model.specs.Valid.{InRange}
use Rattle.host_rounds.specs.Lists.{Each}
use Rattle.host_rounds.specs.Scripts.{Site}
use Rattle.scenario_text.specs.declared.scenario.Step.{Step}
use Rattle.scenario_text.specs.declared.scenario.Step.TheVariants as steps
use Rattle.scenario_ranges.specs.Ranges.{IsStepInRange}
use Rattle.scenario_runs.specs.Applications.{Bound, AListener, ASocket, Script}

-- so much of a step may be done while it is under way: never all of it
abbrev pub IsPart : Step → (done : ℕ) → Type 0
IsPart (steps.Send socket text) done = done < length text
IsPart (steps.Fill socket count) done = done < count
IsPart (steps.Recv socket count) done = done < count
IsPart (steps.Wait ticks) done = done < ticks
IsPart _ done = ⊤

abbrev pub IsPartOfFirst : List Step → (done : ℕ) → Type 0
IsPartOfFirst [] done = ⊤
IsPartOfFirst (step ∷ rest) done = IsPart step done

-- a socket is one of those that the application has, by their flows' places
abbrev pub IsOneOf : (has : ℕ → Type 0) → Bound → Type 0
IsOneOf has (AListener port) = ⊤
IsOneOf has (ASocket place) = has place

abbrev pub AreNamesOf : (has : ℕ → Type 0) → List (List ℕ × Bound) → Type 0
AreNamesOf has names = Each (λ (b : List ℕ × Bound). IsOneOf has b.1) names

-- A script of an application that has these sockets.
pub record IsFitFor (has : ℕ → Type 0) (s : Script) : Type 0 where
  pub steps : Each IsStepInRange s.left
  pub part : IsPartOfFirst s.left s.done
  pub names : AreNamesOf has s.names

-- one of a host that has so many flows
abbrev pub IsPlace : (flows place : ℕ) → Type 0
IsPlace flows place = place < flows

abbrev pub IsFit : (flows : ℕ) → Script → Type 0
IsFit flows s = IsFitFor (IsPlace flows) s

-- Applications are numbered upward.
abbrev pub AreRising : List Script → Type 0
AreRising [] = ⊤
AreRising (s ∷ ss) = Each (λ (later : Script). s.number < later.number) ss × AreRising ss

-- Only what listens on the host listens, and its scripts are fit for its flows.
pub record IsSound (site : Site (List Script)) : Type 0 where
  pub listens : site.host.params.fixed ≡ false
  pub numbers : AreRising site.scripts
  pub scripts : Each (IsFit (length site.host.flows)) site.scripts

-- The host has these parameters, which are in their ranges, and its scripts are sound.
pub record IsHosting (given : HostParams) (site : Site (List Script)) : Type 0 where
  pub ranges : InRange given
  pub params : given ≡ site.host.params
  pub sound : IsSound site
