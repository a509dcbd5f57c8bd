-- Scripts whose turns are counted together: while one waits, or where it has ended, its turns ask nothing of the host.
use Rattle.std.specs.Prelude.{◌≡◌, ℕ, suc, ◌+◌, ◌<◌, ◌≤◌, Bool, true, false, List, [], ◌∷◌, length}
use Rattle.std.specs.Prelude.{None, ⊤}
use Rattle.tas_model.specs.declared.entry.HostParams.{HostParams}
use Rattle.host_rounds.specs.Hosts.{Host}
use Rattle.scenario_text.specs.declared.scenario.Step.{Step}
use Rattle.scenario_text.specs.declared.scenario.Step.TheVariants as steps
use Rattle.scenario_runs.specs.Applications.{Script}
use Rattle.scenario_host.specs.declared.resting.AppScripts.{AppScripts}
use Rattle.scenario_host.specs.Sound.{IsHosting}
use Rattle.scenario_host.specs.Turns.{site_with}

-- ----- one script
-- how much of the step under way is done after so many more turns of a wait
abbrev pub waited : List Step → (turns done : ℕ) → ℕ
waited [] n done = done
waited (step ∷ rest) n done = done + n

abbrev pub rested : (turns : ℕ) → Script → Script
rested n s = record s { done = waited s.left n s.done }

-- The first step is a wait of more than so many ticks, or none is left.
abbrev pub IsLongerThan : List Step → (done : ℕ) → Type 0
IsLongerThan [] done = ⊤
IsLongerThan (steps.Wait ticks ∷ rest) done = done < ticks
IsLongerThan _ done = ⊥

-- The script may rest for so many turns: no kill awaits it, and all that it does in them is to wait.
pub record MayRest (turns : ℕ) (s : Script) : Type 0 where
  pub spared : s.kill ≡ None
  pub waits : IsLongerThan s.left (s.done + turns)

-- ----- all scripts of a host
-- Those that are asleep rested for so many turns; scripts without a mark here are awake.
abbrev pub seen : (turns : ℕ) → (asleep : List Bool) → List Script → List Script
seen n [] ss = ss
seen n (b ∷ bs) [] = []
seen n (true ∷ bs) (s ∷ ss) = rested n s ∷ seen n bs ss
seen n (false ∷ bs) (s ∷ ss) = s ∷ seen n bs ss

abbrev pub AreResting : (turns : ℕ) → (asleep : List Bool) → List Script → Type 0
AreResting n [] ss = ⊤
AreResting n (b ∷ bs) [] = ⊤
AreResting n (true ∷ bs) (s ∷ ss) = MayRest n s × AreResting n bs ss
AreResting n (false ∷ bs) (s ∷ ss) = AreResting n bs ss

-- the places of those that are awake, where the first mark is of this place
abbrev pub awake_from : (place : ℕ) → (asleep : List Bool) → List ℕ
awake_from i [] = []
awake_from i (true ∷ bs) = awake_from (suc i) bs
awake_from i (false ∷ bs) = i ∷ awake_from (suc i) bs

abbrev pub scripts_in : AppScripts → List Script
scripts_in k = seen k.passed k.asleep.items k.items.items

-- While turns are left to rest, all marks and places are there.
pub record AreMarked (k : AppScripts) : Type 0 where
  pub marks : length k.asleep.items ≡ length k.items.items
  pub places : k.awake.items ≡ awake_from 0 k.asleep.items

pub record AreKept (k : AppScripts) : Type 0 where
  pub resting : AreResting k.turns k.asleep.items k.items.items
  pub bound : k.passed ≤ k.turns
  pub marked : k.passed < k.turns → AreMarked k

-- A host with these parameters between two ticks, and all its scripts.
pub record IsReady (given : HostParams) (host : Host) (k : AppScripts) : Type 0 where
  pub hosting : IsHosting given (site_with host (scripts_in k))
  pub kept : AreKept k
