-- Hosts of shared flows with the scripts of their applications, as the definitions of runs have them.
use Rattle.std.specs.Prelude.{◌≡◌, ℕ, ◌+◌, List, [], ◌∷◌, ⊤}
use Rattle.host_rounds.specs.Lists.{Each}
use Rattle.local_host.specs.declared.host.HostEnd.{HostEnd}
use Rattle.core_host.specs.Ending.{AreFiled}
use Rattle.core_host.specs.Ticks.{site_in}
use Rattle.core_host.specs.Views.{Staffed, seen_by}
use Rattle.due_frames.specs.Few.{AreFew}
use Rattle.scenario_runs.specs.Applications.{Script}
use Rattle.scenario_runs.specs.Worlds.{World, at_start, site_of}
use Rattle.scenario_text.specs.declared.scenario.HostLine.{HostLine}
use Rattle.scenario_text.specs.declared.scenario.Scenario.{Scenario}
use Rattle.scenario_world.specs.Ends.{IsEnd}
use Rattle.scenario_world.specs.Playing.{IsWorldOf, IsPlayedOf}
use Rattle.shared_scripts.specs.Playing.{IsPlayable}
use Rattle.shared_world.specs.Looking.{AreSilentBut}
use Rattle.shared_world.specs.declared.world.SharedWorld.{SharedWorld}

-- each host with its own scripts
abbrev pub sites_in : List Staffed → List (List Script) → World
sites_in [] xs = []
sites_in (h ∷ hs) [] = []
sites_in (h ∷ hs) (x ∷ xs) = site_in h x ∷ sites_in hs xs

-- Each host and its scripts may have the tick.
abbrev pub ArePlayable : (tick : ℕ) → List Staffed → List (List Script) → Type 0
ArePlayable t [] [] = ⊤
ArePlayable t [] (x ∷ xs) = ⊥
ArePlayable t (h ∷ hs) [] = ⊥
ArePlayable t (h ∷ hs) (x ∷ xs) = IsPlayable t h x × ArePlayable t hs xs

-- The host has so many cores, and each record that it filed has the history that is known of its flow.
pub record IsOneOf (n : ℕ) (h : Staffed) : Type 0 where
  pub cores : h.cores ≡ n
  pub filed : AreFiled h.host

abbrev pub AreOf : (cores : ℕ) → List Staffed → Type 0
AreOf cores hosts = Each (IsOneOf cores) hosts

-- ----- the whole
abbrev pub world_of : SharedWorld → World
world_of w = sites_in w.hosts.items w.scripts.items

-- They are a world of the scenario before a tick, which they may have, with so many cores each; and no host has as many
-- flows as could not be told from none.
pub record IsReady (s : Scenario) (t cores : ℕ) (w : SharedWorld) : Type 0 where
  pub playable : ArePlayable t w.hosts.items w.scripts.items
  pub hosts : AreOf cores w.hosts.items
  pub world : IsWorldOf s t (world_of w) w.traffic
  pub few : AreFew (world_of w)

-- They played a right tick, and may have the next one; what is kept is still that of the world before it. No flow that
-- an index hasn't sent anything in it.
pub record HasPlayed (s : Scenario) (t cores : ℕ) (w : SharedWorld) : Type 0 where
  pub playable : ArePlayable (t + 1) w.hosts.items w.scripts.items
  pub hosts : AreOf cores w.hosts.items
  pub played : IsPlayedOf s t (world_of w) w.traffic
  pub few : AreFew (world_of w)
  pub silent : AreSilentBut t w.hosts.items

-- ----- at the start
-- The host of this line, with so many cores, before the first tick.
pub record IsNew (s : Scenario) (cores : ℕ) (line : HostLine) (h : Staffed) : Type 0 where
  pub playable : IsPlayable 0 h (site_of s line).scripts
  pub one : IsOneOf cores h
  pub site : site_in h (site_of s line).scripts ≡ site_of s line

-- those of these lines, in their order
abbrev pub AreNew : Scenario → (cores : ℕ) → List HostLine → List Staffed → Type 0
AreNew s cores [] [] = ⊤
AreNew s cores [] (h ∷ hs) = ⊥
AreNew s cores (line ∷ lines) [] = ⊥
AreNew s cores (line ∷ lines) (h ∷ hs) = IsNew s cores line h × AreNew s cores lines hs

-- the scripts of the applications on the hosts of these lines, at their first steps
abbrev pub scripts_at : Scenario → List HostLine → List (List Script)
scripts_at s [] = []
scripts_at s (line ∷ lines) = (site_of s line).scripts ∷ scripts_at s lines

-- all of them, before the first tick
pub record IsStart (s : Scenario) (cores : ℕ) (w : SharedWorld) : Type 0 where
  pub world : world_of w ≡ at_start s
  pub ready : IsReady s 0 cores w

-- ----- at the end
-- this is what the hosts left, one after the other
abbrev pub AreLeft : List Staffed → List HostEnd → Type 0
AreLeft [] [] = ⊤
AreLeft [] (end ∷ ends) = ⊥
AreLeft (h ∷ hs) [] = ⊥
AreLeft (h ∷ hs) (end ∷ ends) = IsEnd (seen_by h) end × AreLeft hs ends
