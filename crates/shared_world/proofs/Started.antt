-- Hosts of a scenario before the first tick, with their scripts.
use Rattle.std.proofs.Common.{◌≡◌, ◌<◌, ◌≤◌, ◌+◌, ℕ, zero, suc, Bool, true, false, cond, List, [], ◌∷◌, ◌++◌}
use Rattle.std.proofs.Common.{Some, IfOk, Result, Ok, Err, bytes_eq, length, map, slice_get}
use Rattle.std.proofs.Common.{refl, sym, ap, ◌∙◌, subst, arith}
use Rattle.due_frames.proofs.Worlds.{start_few}
use Rattle.due_frames.specs.Few.{AreFew}
use Rattle.host_rounds.specs.Hosts.{Host}
use Rattle.host_rounds.specs.Lists.{Each}
use Rattle.host_rounds.specs.Scripts.{Site}
use Rattle.core_host.specs.Ending.{AreFiled, IsFiledAs}
use Rattle.core_host.specs.Sound.{IsClear, IsStaffSound, IsUnasked}
use Rattle.core_host.specs.Staffing as staffing
use Rattle.core_host.specs.Staffing.{new_host}
use Rattle.core_host.specs.Ticks.{site_in}
use Rattle.core_host.specs.Views.{Staffed, seen_by}
use Rattle.flow_state.specs.Flow as records
use Rattle.sound_hosts.specs.Hosts.{known_in}
use Rattle.slow_worker.specs.declared.clock.Clock.TheVariants.{New}
use Rattle.scenario_host.specs.Sound.{AreRising}
use Rattle.scenario_host.proofs.Starting.{starts_sound}
use Rattle.scenario_host.proofs.Walking.{each_at}
use Rattle.scenario_ranges.specs.Ranges.{IsHostInRange, IsInRange}
use Rattle.scenario_runs.specs.Applications.{Script}
use Rattle.scenario_runs.specs.Worlds.{World, at_start, kill_tick, scripts_on, site_of}
use Rattle.scenario_text.specs.declared.scenario.AppLine.{AppLine}
use Rattle.scenario_text.specs.declared.scenario.HostLine.{HostLine}
use Rattle.scenario_text.specs.declared.scenario.KillLine.{KillLine}
use Rattle.scenario_text.specs.declared.scenario.Scenario.{Scenario}
use Rattle.scenario_world.specs.Playing.{IsWorldOf}
use Rattle.shared_scripts.proofs.Beginning.{begins}
use Rattle.shared_scripts.specs.Turns.{numbers_in}
use Rattle.shared_world.specs.Sites.{AreNew, AreOf, ArePlayable, IsNew, IsOneOf, IsReady, IsStart, scripts_at}
use Rattle.shared_world.specs.Sites.{sites_in, world_of}
use Rattle.shared_world.specs.declared.world.SharedWorld.{SharedWorld}

-- ----- scripts
abbrev pub own_scripts : Scenario → HostLine → List Script
own_scripts s line = (site_of s line).scripts

pub scripts_mapped : (s : Scenario) (lines : List HostLine) → scripts_at s lines ≡ map (own_scripts s) lines
scripts_mapped s [] = refl
scripts_mapped s (line ∷ lines) = ap (λ (xs : List (List Script)). own_scripts s line ∷ xs) (scripts_mapped s lines)

-- as many as there are lines, and at the place of a line its own
pub scripts_len : (s : Scenario) (lines : List HostLine) → length (scripts_at s lines) ≡ length lines
scripts_len s [] = refl
scripts_len s (line ∷ lines) = ap suc (scripts_len s lines)

pub scripts_there : (s : Scenario) (lines : List HostLine) (i : ℕ) (line : HostLine) (x : List Script)
    → slice_get lines i ≡ Some line → slice_get (scripts_at s lines) i ≡ Some x → x ≡ own_scripts s line
scripts_there s [] i line x e f = absurd (cc (e))
scripts_there s (l ∷ ls) zero line x e f =
    let same : l ≡ line = cc (e) in let own : own_scripts s l ≡ x = cc (f) in sym own ∙ ap (own_scripts s) same
scripts_there s (l ∷ ls) (suc i) line x e f = scripts_there s ls i line x e f

-- ----- their numbers
above_numbers : (n : ℕ) (xs : List Script) → Each (λ (x : Script). n < x.number) xs
    → Each (λ (m : ℕ). n < m) (numbers_in xs)
above_numbers n [] each = tt
above_numbers n (x ∷ xs) each = (each.0, above_numbers n xs each.1)

rising_numbers : (xs : List Script) → AreRising xs → staffing.AreRising (numbers_in xs)
rising_numbers [] rising = tt
rising_numbers (x ∷ xs) rising = (above_numbers x.number xs rising.0, rising_numbers xs rising.1)

few_scripts : (kills : List KillLine) (host : List ℕ) (n : ℕ) (apps : List AppLine)
    → length (numbers_in (scripts_on kills host n apps)) ≤ length apps
few_scripts kills host n [] = omega arith
few_scripts kills host n (app ∷ apps) = by (bytes_eq app.host host) (few_scripts kills host (n + 1) apps) where
  by : (b : Bool) → length (numbers_in (scripts_on kills host (n + 1) apps)) ≤ length apps
      → length (numbers_in ((cond b ((record {
        number = n;
        kill = kill_tick kills app;
        left = app.steps;
        done = 0;
        begun = false;
        names = [];
      }) ∷ []) []) ++ scripts_on kills host (n + 1) apps)) ≤ suc (length apps)
  by true few =
      let next : suc (length (numbers_in (scripts_on kills host (n + 1) apps))) ≤ suc (length apps) =
      omega (arith, few) in
      next
  by false few =
      let next : length (numbers_in (scripts_on kills host (n + 1) apps)) ≤ suc (length apps) = omega (arith, few) in
      next

-- they rise and are few, as a host wants them
pub numbers_fit : (s : Scenario) (line : HostLine) (xs : List Script) (ns : List ℕ) → IsInRange s → IsHostInRange line
    → xs ≡ own_scripts s line → ns ≡ numbers_in xs → staffing.AreRising ns × (length ns ≤ 4000)
numbers_fit s line xs ns ranges host own are =
    let all : ns ≡ numbers_in (own_scripts s line) = are ∙ ap numbers_in own in
    let few : length (numbers_in (own_scripts s line)) ≤ length s.apps = few_scripts s.kills line.name 0 s.apps in
    let apps : length s.apps ≤ 2048 = ranges.apps in
    let len : length ns ≡ length (numbers_in (own_scripts s line)) = ap length all in (
      subst staffing.AreRising (sym all)
          (rising_numbers (own_scripts s line) (starts_sound s line ranges host).numbers),
      omega (arith, few, apps, len),
    )

-- ----- one host
pub host_in_range : (s : Scenario) (i : ℕ) (line : HostLine) → IsInRange s → slice_get s.hosts i ≡ Some line
    → IsHostInRange line
host_in_range s i line ranges e = each_at IsHostInRange s.hosts i line ranges.hosts e

abbrev site_by : Host → List Script → Site (List Script)
site_by host xs = record { host = host; scripts = xs }

-- a host that was just made is its line's, before the first tick
pub is_new : (s : Scenario) (cores : ℕ) (line : HostLine) (xs : List Script) (ns : List ℕ) (h : Staffed) → IsInRange s
    → IsHostInRange line → xs ≡ own_scripts s line → ns ≡ numbers_in xs
    → seen_by h ≡ new_host line.params → IsStaffSound h → (h.cores ≡ cores) × (h.names ≡ ns)
    → Each IsClear h.lanes → Each IsUnasked h.lanes → h.host.slow.time ≡ New → h.host.slow.check_sums ≡ true
    → h.host.slow.filed ≡ [] → IsNew s cores line h
is_new s cores line xs ns h ranges host own are seen sound staff clear unasked time checks filed =
    record {
      playable = begins s line 0 h ranges host.listens sound seen (staff.1 ∙ (are ∙ ap numbers_in own)) clear unasked
          time checks;
      one = record {
        cores = staff.0;
        filed = subst (λ (fs : List records.Flow). Each (IsFiledAs (known_in h.host)) fs) (sym filed) tt;
      };
      site = ap (λ (host : Host). site_by host (own_scripts s line)) seen;
    }

pub is_new_ok : {Y : Type 0} (s : Scenario) (cores : ℕ) (line : HostLine) (xs : List Script) (ns : List ℕ)
    (r : Result Staffed Y) → IsInRange s → IsHostInRange line → xs ≡ own_scripts s line → ns ≡ numbers_in xs
    → IfOk r (λ h. seen_by h ≡ new_host line.params) → IfOk r (λ h. IsStaffSound h)
    → IfOk r (λ h. (h.cores ≡ cores) × (h.names ≡ ns)) → IfOk r (λ h. Each IsClear h.lanes)
    → IfOk r (λ h. Each IsUnasked h.lanes) → IfOk r (λ h. h.host.slow.time ≡ New)
    → IfOk r (λ h. h.host.slow.check_sums ≡ true) → IfOk r (λ h. h.host.slow.filed ≡ [])
    → IfOk r (λ h. IsNew s cores line h)
is_new_ok s cores line xs ns (Ok h) ranges host own are seen sound staff clear unasked time checks filed =
    is_new s cores line xs ns h ranges host own are seen sound staff clear unasked time checks filed
is_new_ok s cores line xs ns (Err e) ranges host own are seen sound staff clear unasked time checks filed = tt

-- ----- all hosts
pub item_there : {X : Type 0} (xs : List X) (i : ℕ) → i < length xs → (x : X) × (slice_get xs i ≡ Some x)
item_there [] i below = absurd (omega (arith, below))
item_there (x ∷ xs) zero below = (x, refl)
item_there (x ∷ xs) (suc i) below = item_there xs i (omega (arith, below))

pub new_len : (s : Scenario) (cores : ℕ) (lines : List HostLine) (hs : List Staffed) → AreNew s cores lines hs
    → length hs ≡ length lines
new_len s cores [] [] new = refl
new_len s cores [] (h ∷ hs) new = absurd new
new_len s cores (line ∷ lines) [] new = absurd new
new_len s cores (line ∷ lines) (h ∷ hs) new = ap suc (new_len s cores lines hs new.1)

new_push : (s : Scenario) (cores : ℕ) (lines : List HostLine) (hs : List Staffed) (line : HostLine) (h : Staffed)
    → AreNew s cores lines hs → IsNew s cores line h → AreNew s cores (lines ++ line ∷ []) (hs ++ h ∷ [])
new_push s cores [] [] line h new one = (one, tt)
new_push s cores [] (k ∷ ks) line h new one = absurd new
new_push s cores (l ∷ ls) [] line h new one = absurd new
new_push s cores (l ∷ ls) (k ∷ ks) line h new one = (new.0, new_push s cores ls ks line h new.1 one)

-- one more of them
pub new_more : (s : Scenario) (cores : ℕ) (lines some : List HostLine) (hs after : List Staffed) (line : HostLine)
    (h : Staffed) → AreNew s cores lines hs → IsNew s cores line h → some ≡ lines ++ line ∷ [] → after ≡ hs ++ h ∷ []
    → AreNew s cores some after
new_more s cores lines some hs after line h new one is was =
    subst (λ (ls : List HostLine). AreNew s cores ls after) (sym is)
    (subst (λ (ks : List Staffed). AreNew s cores (lines ++ line ∷ []) ks) (sym was)
    (new_push s cores lines hs line h new one))

new_sites : (s : Scenario) (cores : ℕ) (lines : List HostLine) (hs : List Staffed) → AreNew s cores lines hs
    → sites_in hs (scripts_at s lines) ≡ map (site_of s) lines
new_sites s cores [] [] new = refl
new_sites s cores [] (h ∷ hs) new = absurd new
new_sites s cores (line ∷ lines) [] new = absurd new
new_sites s cores (line ∷ lines) (h ∷ hs) new =
    ap (λ (site : Site (List Script)). site ∷ sites_in hs (scripts_at s lines)) (new.0).site
    ∙ ap (λ (rest : World). site_of s line ∷ rest) (new_sites s cores lines hs new.1)

new_playable : (s : Scenario) (cores : ℕ) (lines : List HostLine) (hs : List Staffed) → AreNew s cores lines hs
    → ArePlayable 0 hs (scripts_at s lines)
new_playable s cores [] [] new = tt
new_playable s cores [] (h ∷ hs) new = absurd new
new_playable s cores (line ∷ lines) [] new = absurd new
new_playable s cores (line ∷ lines) (h ∷ hs) new = ((new.0).playable, new_playable s cores lines hs new.1)

new_of : (s : Scenario) (cores : ℕ) (lines : List HostLine) (hs : List Staffed) → AreNew s cores lines hs
    → AreOf cores hs
new_of s cores [] [] new = tt
new_of s cores [] (h ∷ hs) new = absurd new
new_of s cores (line ∷ lines) [] new = absurd new
new_of s cores (line ∷ lines) (h ∷ hs) new = ((new.0).one, new_of s cores lines hs new.1)

-- the world before the first tick
pub is_start : (s : Scenario) (cores : ℕ) (w : SharedWorld) → AreNew s cores s.hosts w.hosts.items
    → w.scripts.items ≡ scripts_at s s.hosts → IsWorldOf s 0 (at_start s) w.traffic → IsStart s cores w
is_start s cores w new scripts traffic =
    let world : world_of w ≡ at_start s =
    ap (sites_in w.hosts.items) scripts ∙ new_sites s cores s.hosts w.hosts.items new in
    record {
      world = world;
      ready = record {
        playable = subst (ArePlayable 0 w.hosts.items) (sym scripts)
            (new_playable s cores s.hosts w.hosts.items new);
        hosts = new_of s cores s.hosts w.hosts.items new;
        world = subst (λ (sites : World). IsWorldOf s 0 sites w.traffic) (sym world) traffic;
        few = subst AreFew (sym world) (start_few s s.hosts);
      };
    }
