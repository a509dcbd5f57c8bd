-- Turns of applications, one after the other, alone on their host.
use Rattle.std.specs.Prelude.{◌≡◌, ℕ, suc, Bool, true, false, List, ◌++◌, map, Option}
use Rattle.flow_state.specs.declared.call.Answer.{Answer}
use Rattle.host_rounds.specs.Hosts.{Host, Application}
use Rattle.host_rounds.specs.Lists.{Each}
use Rattle.host_rounds.specs.SerialOrder.{ask_phase}
use Rattle.scenario_host.specs.Sound.{AreRising}
use Rattle.scenario_host.specs.Tries.{IsAtStep}
use Rattle.scenario_host.specs.Turns.{turn_of, site_with}
use Rattle.scenario_laws.specs.Names.{holder_at}
use Rattle.scenario_runs.specs.Applications.{Script, turn}
use Rattle.scenario_runs.specs.Worlds.{starts_of, address_in, scripts_of}
use Rattle.scenario_text.specs.declared.scenario.Scenario.{Scenario}
use Rattle.tas_model.specs.declared.entry.HostParams.{HostParams}
use Rattle.core_host.specs.Asking.{HasApp}
use Rattle.core_host.specs.Ticks.{AreAsked}
use Rattle.core_host.specs.Views.{Staffed, seen_by}
use Rattle.shared_scripts.specs.Answers.{later_by}
use Rattle.shared_scripts.specs.Playing.{Owns, RunsOn}

abbrev pub numbers_in : List Script → List ℕ
numbers_in scripts = map (λ (x : Script). x.number) scripts

-- None of these scripts is of the application.
abbrev pub AreOthers : (app : ℕ) → List Script → Type 0
AreOthers n scripts = Each (λ (x : Script). x.number ≡ n → ⊥) scripts

-- ----- on a host of a run
-- These scripts, which stand behind any others, had their turns, those among them that are numbered here; nobody else
-- lost a socket.
pub record HadTurns (s : Scenario) (p : HostParams) (t : ℕ) (before after : Host) (scripts next : List Script)
    (turns : List ℕ) : Type 0 where
  pub asked : (front : List Script) → AreRising (front ++ scripts)
      → ask_phase (scripts_of s p) t (site_with before (front ++ scripts)) turns ≡ site_with after (front ++ next)
  pub params : after.params ≡ before.params
  pub others : (n : ℕ) → AreOthers n scripts → (k : ℕ) → holder_at before.flows k ≡ Application n
      → holder_at after.flows k ≡ Application n
  pub numbers : numbers_in next ≡ numbers_in scripts
  pub steps : Each IsAtStep next
  pub own : Each (Owns after.flows) next

-- ----- on a host of shared flows
-- The host was asked, in the same tick; no record was filed.
pub record StaysAsked (before after : Staffed) : Type 0 where
  pub asked : AreAsked before after
  pub time : after.host.slow.time ≡ before.host.slow.time
  pub filed : after.host.slow.filed ≡ before.host.slow.filed

-- One application had its turn of the tick; all others run on.
pub record HadTurnOn (s : Scenario) (p : HostParams) (t : ℕ) (before after : Staffed) (x y : Script) : Type 0 where
  pub made : turn_of (seen_by after) y ≡ turn (starts_of p) (address_in s.hosts) t (turn_of (seen_by before) x)
  pub stays : StaysAsked before after
  pub others : (n : ℕ) → (n ≡ x.number → ⊥) → HasApp n before → HasApp n after
  pub runs : RunsOn (suc t) after y

-- and one that was answered before has none
abbrev pub HasHadTurn : (answered : Bool) → Scenario → HostParams → (tick : ℕ) → (before after : Staffed)
    → (x y : Script) → Type 0
HasHadTurn true s p t before after x y = (after ≡ before) × (y ≡ x)
HasHadTurn false s p t before after x y = HadTurnOn s p t before after x y

-- All of these that have no answer had their turns; all other applications run on.
pub record HaveHadTurns (s : Scenario) (p : HostParams) (t : ℕ) (answers : List (Option Answer))
    (before after : Staffed) (scripts next : List Script) : Type 0 where
  pub turns : HadTurns s p t (seen_by before) (seen_by after) scripts next (later_by answers (numbers_in scripts))
  pub stays : StaysAsked before after
  pub others : (n : ℕ) → AreOthers n scripts → HasApp n before → HasApp n after
  pub runs : Each (RunsOn (suc t) after) next
