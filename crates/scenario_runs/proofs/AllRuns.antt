-- What holds of every run of a scenario, and that the serial one is among them.
use Rattle.std.proofs.Common.{◌≡◌, ℕ, zero, suc, ◌+◌, Bool, true, false, List, [], ◌∷◌, map, refl, sym, subst}
use Rattle.std.proofs.Common.{◌∙◌, true≢false}
use Rattle.tas_model.specs.declared.entry.HostParams.{HostParams}
use Rattle.host_rounds.specs.Logs.{HostRun, RunLog}
use Rattle.host_rounds.specs.Lists.{Each}
use Rattle.host_rounds.specs.Scripts.{Site}
use Rattle.host_rounds.specs.Rounds.{Round}
use Rattle.host_rounds.specs.Histories.{HasHistory, IsSound}
use Rattle.host_rounds.proofs.AllLegal.{round_kept}
use Rattle.host_rounds.proofs.SerialRounds.{serial_round}
use Rattle.host_rounds.proofs.AllOpened.{IsRight, round_right}
use Rattle.host_rounds.proofs.Runs.{flows_sound}
use Rattle.scenario_text.specs.declared.scenario.Scenario.{Scenario}
use Rattle.scenario_text.specs.declared.scenario.HostLine.{HostLine}
use Rattle.scenario_runs.specs.Applications.{Script}
use Rattle.scenario_runs.specs.Worlds.{World, site_of, at_start, starts_of, scripts_of, due_at, is_at_rest}
use Rattle.scenario_runs.specs.Runs.{AreRounds, IsTick, serial_sites, serial_world, End, RunsFrom, serial_from}
use Rattle.scenario_runs.specs.Runs.{hosts_of, Run, serial_run}
use Rattle.scenario_runs.specs.Histories.{AreInRange, AreSound}
use Rattle.scenario_runs.proofs.ByMoves.{scenarios_by_moves}

-- ----- the serial run
abbrev pub AreLegal : World → Type 0
AreLegal world = Each (λ (site : Site (List Script)). Each HasHistory site.host.flows) world

serial_rounds : (s : Scenario) (whole : World) (t h : ℕ) (world : World) → AreLegal world
    → AreRounds s whole t h world (serial_sites s whole t h world)
serial_rounds s whole t h [] legal = tt
serial_rounds s whole t h (site ∷ sites) legal = (
  serial_round (scripts_of s site.host.params) t (due_at s whole t h site.scripts) site
      (scenarios_by_moves s site.host.params) legal.0,
  serial_rounds s whole t (h + 1) sites legal.1,
)

pub serial_is_tick : (s : Scenario) (t : ℕ) (world : World) → AreLegal world → IsTick s t world (serial_world s t world)
unfolding serial_world
serial_is_tick s t world legal = serial_rounds s world t 0 world legal

pub rounds_legal : (s : Scenario) (whole : World) (t h : ℕ) (before after : World) → AreRounds s whole t h before after
    → AreLegal before → AreLegal after
rounds_legal s whole t h [] [] rounds legal = tt
rounds_legal s whole t h [] (a ∷ az) rounds legal = absurd rounds
rounds_legal s whole t h (b ∷ bs) [] rounds legal = absurd rounds
rounds_legal s whole t h (b ∷ bs) (a ∷ az) rounds legal = (
  round_kept (scripts_of s b.host.params) t (due_at s whole t h b.scripts) b a
      (scenarios_by_moves s b.host.params) rounds.0 legal.0,
  rounds_legal s whole t (h + 1) bs az rounds.1 legal.1,
)

serial_runs : (s : Scenario) (most t : ℕ) (world : World) → AreLegal world
    → RunsFrom s most t world (serial_from s most t world)
unfolding serial_from
serial_runs s zero t world legal = refl
serial_runs s (suc most) t world legal =
    let next : World = serial_world s t world in
    let tick : IsTick s t world next = serial_is_tick s t world legal in
    by_rest next (is_at_rest s t next) refl tick
    (serial_runs s most (t + 1) next (rounds_legal s world t 0 world next tick legal))
  where
    by_rest : (next : World) (b : Bool) → is_at_rest s t next ≡ b → IsTick s t world next
        → RunsFrom s most (t + 1) next (serial_from s most (t + 1) next)
        → (n : World) × IsTick s t world n × (is_at_rest s t n ≡ true
        → ◌≡◌ {A = End}
        (elim b [
          | true ↦ record {
            world = next;
            ticks = t + 1;
            stalled = false;
          }
          | false ↦ serial_from s most (t + 1) next
        ])
        (record { world = n; ticks = t + 1; stalled = false }))
        × (is_at_rest s t n ≡ false
        → RunsFrom s most (t + 1) n
        (elim b [
          | true ↦ record {
            world = next;
            ticks = t + 1;
            stalled = false;
          }
          | false ↦ serial_from s most (t + 1) next
        ]))
    by_rest next true h tick rest = (next, tick, λ g. refl, λ g. absurd (true≢false (sym h ∙ g)))
    by_rest next false h tick rest = (next, tick, λ g. absurd (true≢false (sym g ∙ h)), λ g. rest)

pub start_legal : (s : Scenario) (hosts : List HostLine) → AreLegal (map (site_of s) hosts)
start_legal s [] = tt
start_legal s (h ∷ hs) = (tt, start_legal s hs)

pub serial_is_run : (s : Scenario) → Run s (serial_run s)
serial_is_run s = (
  serial_from s s.limit 0 (at_start s),
  serial_runs s s.limit 0 (at_start s) (start_legal s s.hosts),
  refl,
)

-- ----- every run
-- each host is right, with the parameters of its line
abbrev AllRight : List HostLine → World → Type 0
AllRight [] [] = Unit {0}
AllRight [] (site ∷ sites) = ⊥
AllRight (h ∷ hs) [] = ⊥
AllRight (h ∷ hs) (site ∷ sites) = IsRight (starts_of h.params) h.params site.host × AllRight hs sites

start_right : (s : Scenario) (hosts : List HostLine) → AllRight hosts (map (site_of s) hosts)
start_right s [] = tt
start_right s (h ∷ hs) = (record { params = refl; legal = tt; opened = tt }, start_right s hs)

site_right : (s : Scenario) (whole : World) (t h : ℕ) (p : HostParams) (b a : Site (List Script))
    → Round (scripts_of s b.host.params) t (due_at s whole t h b.scripts) b a
    → IsRight (starts_of p) p b.host → IsRight (starts_of p) p a.host
site_right s whole t h p b a round right =
    let same : Round (scripts_of s p) t (due_at s whole t h b.scripts) b a =
    subst (λ (q : HostParams). Round (scripts_of s q) t (due_at s whole t h b.scripts) b a) right.params round in
    round_right (scripts_of s p) p t (due_at s whole t h b.scripts) b a (scenarios_by_moves s p) same right

rounds_right : (s : Scenario) (whole : World) (t h : ℕ) (hosts : List HostLine) (before after : World)
    → AreRounds s whole t h before after → AllRight hosts before → AllRight hosts after
rounds_right s whole t h [] [] [] rounds right = tt
rounds_right s whole t h [] [] (a ∷ az) rounds right = absurd rounds
rounds_right s whole t h [] (b ∷ bs) after rounds right = absurd right
rounds_right s whole t h (l ∷ ls) [] after rounds right = absurd right
rounds_right s whole t h (l ∷ ls) (b ∷ bs) [] rounds right = absurd rounds
rounds_right s whole t h (l ∷ ls) (b ∷ bs) (a ∷ az) rounds right =
    (site_right s whole t h l.params b a rounds.0 right.0, rounds_right s whole t (h + 1) ls bs az rounds.1 right.1)

runs_right : (s : Scenario) (most t : ℕ) (world : World) (end : End) → RunsFrom s most t world end
    → AllRight s.hosts world → AllRight s.hosts end.world
runs_right s zero t world end same right = subst (λ (e : End). AllRight s.hosts e.world) (sym same) right
runs_right s (suc most) t world end run right =
    let next : World = run.0 in
    let after : AllRight s.hosts next = rounds_right s world t 0 s.hosts world next run.1 right in
    by_rest (is_at_rest s t next) refl run.2 run.3 after (λ rest. runs_right s most (t + 1) next end rest after)
  where
    by_rest : {next : World} (b : Bool) → is_at_rest s t next ≡ b
        → (is_at_rest s t next ≡ true → end ≡ record { world = next; ticks = t + 1; stalled = false })
        → (is_at_rest s t next ≡ false → RunsFrom s most (t + 1) next end) → AllRight s.hosts next
        → (RunsFrom s most (t + 1) next end → AllRight s.hosts end.world) → AllRight s.hosts end.world
    by_rest true h stops goes after more = subst (λ (e : End). AllRight s.hosts e.world) (sym (stops h)) after
    by_rest false h stops goes after more = more (goes h)

hosts_sound : (hosts : List HostLine) (world : World) → AreInRange hosts → AllRight hosts world
    → Each (λ (h : HostRun). Each IsSound h.flows) (hosts_of hosts world)
hosts_sound [] world fits right = tt
hosts_sound (h ∷ hs) [] fits right = tt
hosts_sound (h ∷ hs) (site ∷ sites) fits right = (
  flows_sound
      (starts_of h.params) h.params [] site.host.flows fits.0 (λ tuple k n. tt) right.0.opened right.0.legal,
  hosts_sound hs sites fits.1 right.1,
)

pub runs_sound : (s : Scenario) (log : RunLog) → AreInRange s.hosts → Run s log → AreSound log.hosts
runs_sound s log fits run =
    subst (λ (r : RunLog). Each (λ (h : HostRun). Each IsSound h.flows) r.hosts) (sym run.2)
    (hosts_sound s.hosts run.0.world fits (runs_right s s.limit 0 (at_start s) run.0 run.1 (start_right s s.hosts)))
