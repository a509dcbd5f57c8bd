-- What a run of a scenario leaves in its log.
use Rattle.std.specs.Prelude.{◌≡◌, ℕ, ◌<◌, List, [], ◌∷◌, ⊤}
use Rattle.tas_model.specs.declared.entry.Entry.{Entry}
use Rattle.host_rounds.specs.declared.log.LogLine.{LogLine}
use Rattle.host_rounds.specs.Lists.{Each}
use Rattle.host_rounds.specs.Logs.{Flow, HostRun, RunLog}
use Rattle.host_rounds.specs.Openings.{AreOpened, openings_of}
use Rattle.scenario_text.specs.declared.scenario.Scenario.{Scenario}
use Rattle.scenario_text.specs.declared.scenario.HostLine.{HostLine}
use Rattle.scenario_runs.specs.Worlds.{World, starts_of}
use Rattle.scenario_runs.specs.Runs.{Run}

-- ----- hosts and their lines
-- The fact holds of each line and its host; there are as many of the one as of the other.
abbrev pub OfEachLine : (HostLine → HostRun → Type 0) → List HostLine → List HostRun → Type 0
OfEachLine Fact [] [] = ⊤
OfEachLine Fact (l ∷ ls) (h ∷ hs) = Fact l h × OfEachLine Fact ls hs
OfEachLine Fact _ _ = ⊥

-- The host has its line's name and address.
abbrev pub IsNamed : HostLine → HostRun → Type 0
IsNamed l h = (h.name ≡ l.name) × (h.addr ≡ l.params.addr)

-- Its flows were opened with its line's parameters, slots, generations and first numbers.
abbrev pub HasOpened : HostLine → HostRun → Type 0
HasOpened l h = AreOpened (starts_of l.params) l.params [] (openings_of h.flows)

-- ----- ticks
-- each of these entries is of an earlier tick, and each of these lines
abbrev pub AllBefore : (tick : ℕ) → List Entry → Type 0
AllBefore t xs = Each (λ (x : Entry). x.tick < t) xs

abbrev pub LinesBefore : (tick : ℕ) → List LogLine → Type 0
LinesBefore t ls = Each (λ (l : LogLine). l.tick < t) ls

-- So is all that the host did.
abbrev pub IsBefore : (tick : ℕ) → HostRun → Type 0
IsBefore t h = Each (λ (f : Flow). AllBefore t f.entries) h.flows × LinesBefore t h.log

-- ----- the end
-- the world after the last tick of a run
abbrev pub last_world : (s : Scenario) → (log : RunLog) → Run s log → World
last_world s log run = run.0.world
