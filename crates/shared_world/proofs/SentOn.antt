-- What hosts sent in a tick goes to the link: the world before the next tick.
use Rattle.std.proofs.Common.{◌≡◌, ◌+◌, ◌-◌, ◌<◌, ◌≤◌, ◌^◌, ℕ, suc, List, [], ◌∷◌, length}
use Rattle.std.proofs.Common.{refl, sym, ap, ◌∙◌, subst, arith}
use Rattle.std.proofs.lemmas.List.{length-map}
use Rattle.due_frames.specs.Few.{AreFew}
use Rattle.host_rounds.specs.Lists.{Each}
use Rattle.host_rounds.specs.Scripts.{Site}
use Rattle.core_host.specs.Views.{Staffed, seen_by}
use Rattle.scenario_runs.specs.Applications.{Script}
use Rattle.scenario_runs.specs.Worlds.{World}
use Rattle.scenario_text.specs.declared.scenario.Scenario.{Scenario}
use Rattle.scenario_world.specs.Playing.{IsWorldOf}
use Rattle.scenario_world.proofs.NextTick.{few_hosts, hosts_len}
use Rattle.shared_world.specs.Looking.{AreLookedAt}
use Rattle.shared_world.specs.Sites.{ArePlayable, HasPlayed, IsReady, sites_in, world_of}
use Rattle.shared_world.specs.declared.world.SharedWorld.{SharedWorld}
use Rattle.shared_world.proofs.Looked.{all_of_looked, all_playable_looked, playable_len, sites_looked}

-- ----- hosts that may have a tick
pub sites_len : (t : ℕ) (hs : List Staffed) (xs : List (List Script)) → ArePlayable t hs xs
    → length (sites_in hs xs) ≡ length hs
sites_len t [] xs can = refl
sites_len t (h ∷ hs) [] can = absurd can
sites_len t (h ∷ hs) (x ∷ xs) can = ap suc (sites_len t hs xs can.1)

-- flows that can be told from none can be numbered
pub few_flows : (t : ℕ) (hs : List Staffed) (xs : List (List Script)) → ArePlayable t hs xs → AreFew (sites_in hs xs)
    → Each (λ (h : Staffed). length (seen_by h).flows < 2 ^ 32) hs
few_flows t [] xs can few = tt
few_flows t (h ∷ hs) [] can few = absurd can
few_flows t (h ∷ hs) (x ∷ xs) can few = (
  (let here : length (seen_by h).flows ≤ 2 ^ 32 - 1 = (few.0).few in omega (arith, here)),
  few_flows t hs xs can.1 few.1,
)

pub few_played : (s : Scenario) (t cores : ℕ) (w : SharedWorld) → length s.hosts ≤ 8 → HasPlayed s t cores w
    → length w.hosts.items ≤ 8
few_played s t cores w few played =
    let all : length (world_of w) ≤ 8 = few_hosts s t (world_of w) w.traffic few played.played in
    let len : length (world_of w) ≡ length w.hosts.items =
    sites_len (t + 1) w.hosts.items w.scripts.items played.playable in
    omega (arith, all, len)

pub few_addresses : (s : Scenario) (t cores : ℕ) (w : SharedWorld) → length s.hosts ≤ 8 → HasPlayed s t cores w
    → length w.traffic.addresses.items ≤ 8
few_addresses s t cores w few played =
    let before : World = played.played.before in
    let addresses : length w.traffic.addresses.items ≡ length before =
    ap length played.played.world.addresses
    ∙ length-map before (λ (site : Site (List Script)). site.host.params.addr) in
    let len : length before ≡ length s.hosts = hosts_len s t before w.traffic played.played.world in
    omega (arith, addresses, len, few)

-- ----- after it
-- the hosts were looked at only, and what is kept is that of the world before the next tick
pub next_same : (w after : SharedWorld) → AreLookedAt w.hosts.items after.hosts.items
    → after.scripts.items ≡ w.scripts.items → world_of after ≡ world_of w
next_same w after looked scripts =
    ap (sites_in after.hosts.items) scripts ∙ sites_looked w.hosts.items after.hosts.items w.scripts.items looked

pub next_ready : (s : Scenario) (t cores : ℕ) (w after : SharedWorld) → HasPlayed s t cores w
    → AreLookedAt w.hosts.items after.hosts.items → after.scripts.items ≡ w.scripts.items
    → IsWorldOf s (t + 1) (world_of w) after.traffic → IsReady s (t + 1) cores after
next_ready s t cores w after played looked scripts world =
    let same : world_of after ≡ world_of w = next_same w after looked scripts in
    record {
      playable = subst (ArePlayable (t + 1) after.hosts.items) (sym scripts)
          (all_playable_looked (t + 1) w.hosts.items after.hosts.items w.scripts.items looked played.playable);
      hosts = all_of_looked cores w.hosts.items after.hosts.items looked played.hosts;
      world = subst (λ (sites : World). IsWorldOf s (t + 1) sites after.traffic) (sym same) world;
      few = subst AreFew (sym same) played.few;
    }
