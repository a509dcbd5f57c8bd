-- A host before its first tick, with its scripts at their first steps: for the law `scripts_begin_playable`.
use Rattle.std.proofs.Common.{◌≡◌, ℕ, ◌<◌, ◌+◌, ◌==◌, ◌||◌, Bool, true, false, cond, List, [], ◌∷◌, ◌++◌, bytes_eq}
use Rattle.std.proofs.Common.{◌≤◌, length, arith, refl, sym, ap, subst, ◌∙◌, inl}
use Rattle.std.specs.Prelude.{IfSome}
use Rattle.std.specs.List.{list_any}
use Rattle.host_rounds.specs.Hosts.{Host, Live}
use Rattle.host_rounds.specs.Lists.{Each}
use Rattle.scenario_ranges.specs.Ranges.{IsInRange, IsHostInRange}
use Rattle.scenario_runs.specs.Applications.{Script}
use Rattle.scenario_runs.specs.Worlds.{scripts_on, kill_tick, site_of}
use Rattle.scenario_laws.specs.Names.{AreOwn}
use Rattle.scenario_text.specs.declared.scenario.AppLine.{AppLine}
use Rattle.scenario_text.specs.declared.scenario.HostLine.{HostLine}
use Rattle.scenario_text.specs.declared.scenario.KillLine.{KillLine}
use Rattle.scenario_text.specs.declared.scenario.Scenario.{Scenario}
use Rattle.slow_worker.specs.Clocks.{last_tick}
use Rattle.slow_worker.specs.declared.clock.Clock.{Clock}
use Rattle.slow_worker.specs.declared.clock.Clock.TheVariants.{New}
use Rattle.scenario_host.specs.Sound.{IsFit, IsSound}
use Rattle.scenario_host.specs.Tries.{IsAtStep}
use Rattle.scenario_host.proofs.Starting.{starts_sound}
use Rattle.core_host.specs.Sound.{IsStaffSound, IsClear, IsUnasked}
use Rattle.core_host.specs.Staffing.{new_host}
use Rattle.core_host.specs.Views.{Staffed, seen_by}
use Rattle.core_host.proofs.Tries.{passes_somewhere}
use Rattle.shared_scripts.specs.Playing.{IsPlayable, RunsOn, Owns}
use Rattle.shared_scripts.specs.Turns.{numbers_in}
use Rattle.shared_scripts.proofs.Rising.{each_more, same_number}

-- ----- names
-- no name stands for anything
none_named : (kills : List KillLine) (host : List ℕ) (n : ℕ) (apps : List AppLine)
    → Each (λ (x : Script). x.names ≡ []) (scripts_on kills host n apps)
none_named kills host n [] = tt
none_named kills host n (app ∷ apps) = by (bytes_eq app.host host) (none_named kills host (n + 1) apps) where
  by : (b : Bool) → Each (λ (x : Script). x.names ≡ []) (scripts_on kills host (n + 1) apps)
      → Each (λ (x : Script). x.names ≡ [])
      ((cond b ((record {
        number = n;
        kill = kill_tick kills app;
        left = app.steps;
        done = 0;
        begun = false;
        names = [];
      }) ∷ []) []) ++ scripts_on kills host (n + 1) apps)
  by true rest = (refl, rest)
  by false rest = rest

owns_none : (flows : List Live) (x : Script) → x.names ≡ [] → Owns flows x
owns_none flows x none = subst (AreOwn flows x.number) (sym none) (record { held = tt; apart = tt })

-- ----- applications
or_true : (b : Bool) → (b || true) ≡ true
or_true true = refl
or_true false = refl

any_among : (n : ℕ) (front ns : List ℕ) → list_any (λ (m : ℕ). m == n) (front ++ n ∷ ns) ≡ true
any_among n [] ns = ap (λ (b : Bool). b || list_any (λ (m : ℕ). m == n) ns) (same_number n n refl)
any_among n (m ∷ front) ns = ap (λ (b : Bool). (m == n) || b) (any_among n front ns) ∙ or_true (m == n)

append_number : (front : List ℕ) (n : ℕ) (ns : List ℕ) → (front ++ n ∷ []) ++ ns ≡ front ++ n ∷ ns
append_number [] n ns = refl
append_number (m ∷ front) n ns = ap (λ l. m ∷ l) (append_number front n ns)

all_run : (t : ℕ) (h : Staffed) (front : List ℕ) (xs : List Script) → h.names ≡ front ++ numbers_in xs
    → Each (RunsOn t h) xs
all_run t h front [] names = tt
all_run t h front (x ∷ xs) names = (
  inl (passes_somewhere (λ (m : ℕ). m == x.number) h.names
      (ap (list_any (λ (m : ℕ). m == x.number)) names ∙ any_among x.number front (numbers_in xs))),
  all_run t h (front ++ x.number ∷ []) xs (names ∙ sym (append_number front x.number (numbers_in xs))),
)

-- ----- the scripts
-- they are sound on each host of their name, as on one whose parameters are in their ranges
some_host : (hosts : List HostLine) → 1 ≤ length hosts → Each IsHostInRange hosts → (h : HostLine) × IsHostInRange h
some_host [] some each = absurd (omega (arith, some))
some_host (h ∷ hs) some each = (h, each.0)

sound_scripts : (s : Scenario) (line : HostLine) → IsInRange s
    → (host : Host) × IsSound (record { host = host; scripts = (site_of s line).scripts })
sound_scripts s line ranges =
    let some = some_host s.hosts ranges.count.0 ranges.hosts in
    let named : HostLine = record line { params = some.0.params } in
    ((site_of s named).host, starts_sound s named ranges (record { params = some.1.params; listens = some.1.listens }))

-- ----- the host
pub begins : (s : Scenario) (line : HostLine) (t : ℕ) (h : Staffed) → IsInRange s → line.params.fixed ≡ false
    → IsStaffSound h → seen_by h ≡ new_host line.params → h.names ≡ numbers_in (site_of s line).scripts
    → Each IsClear h.lanes → Each IsUnasked h.lanes → h.host.slow.time ≡ New → h.host.slow.check_sums ≡ true
    → IsPlayable t h (site_of s line).scripts
begins s line t h ranges listens sound seen names clear unasked time checks =
    let starts = (sound_scripts s line ranges).1 in
    record {
      between = record { sound = sound; clear = clear; unasked = unasked };
      risen = subst (λ (c : Clock). IfSome (last_tick c) (λ last. last < t)) (sym time) tt;
      checks = checks;
      listens = ap (λ (g : Host). g.params.fixed) seen ∙ listens;
      numbers = starts.numbers;
      steps = each_more (IsFit _) IsAtStep (λ x fit. record { steps = fit.steps; part = fit.part })
          (site_of s line).scripts starts.scripts;
      own = each_more (λ (x : Script). x.names ≡ []) (Owns (seen_by h).flows) (owns_none (seen_by h).flows)
          (site_of s line).scripts (none_named s.kills line.name 0 s.apps);
      runs = all_run t h [] (site_of s line).scripts names;
    }
