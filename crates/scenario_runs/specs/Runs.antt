-- The runs of a scenario: which logs are those of one, and the one in serial order.
use Rattle.std.specs.Prelude.{◌≡◌, ℕ, zero, suc, ◌+◌, not, Bool, true, false, List, [], ◌∷◌, ⊤}
use Rattle.host_rounds.specs.Logs.{HostRun, RunLog}
use Rattle.host_rounds.specs.Hosts.{run_of}
use Rattle.host_rounds.specs.Rounds.{Round}
use Rattle.host_rounds.specs.SerialOrder.{serial_tick}
use Rattle.scenario_text.specs.declared.scenario.Scenario.{Scenario}
use Rattle.scenario_text.specs.declared.scenario.HostLine.{HostLine}
use Rattle.scenario_runs.specs.Worlds.{World, at_start, scripts_of, due_at, all_ended, is_at_rest}

-- ----- one tick
-- A right tick of each host, the first of which has this number: a frame of this tick comes in a later one, so that
-- within a tick each host is by itself.
abbrev pub AreRounds : Scenario → (whole : World) → (tick host : ℕ) → (before after : World) → Type 0
AreRounds s whole t h [] [] = ⊤
AreRounds s whole t h (b ∷ bs) (a ∷ az) =
    Round (scripts_of s b.host.params) t (due_at s whole t h b.scripts) b a × AreRounds s whole t (h + 1) bs az
AreRounds s whole t h _ _ = ⊥

abbrev pub IsTick : Scenario → (tick : ℕ) → (before after : World) → Type 0
IsTick s t before after = AreRounds s before t 0 before after

-- the same in serial order
abbrev pub serial_sites : Scenario → (whole : World) → (tick host : ℕ) → World → World
serial_sites s whole t h [] = []
serial_sites s whole t h (site ∷ sites) =
    serial_tick (scripts_of s site.host.params) t site (due_at s whole t h site.scripts)
    ∷ serial_sites s whole t (h + 1) sites

unfoldable pub serial_world : Scenario → (tick : ℕ) → World → World
serial_world s t world = serial_sites s world t 0 world

-- ----- runs
-- How a run ended: the last world, how many ticks there were, and whether a script has not ended after the last one
-- that the limit allows.
pub record End : Type 0 where
  pub world : World
  pub ticks : ℕ
  pub stalled : Bool

-- The ticks from t on, so many at most: the last one is the first after which all is at rest, or the limit's.
abbrev pub RunsFrom : Scenario → (most t : ℕ) → World → End → Type 0
RunsFrom s zero t world end = end ≡ record { world = world; ticks = t; stalled = not (all_ended world) }
RunsFrom s (suc most) t world end =
    (next : World)
    × IsTick s t world next
    × (is_at_rest s t next ≡ true → end ≡ record { world = next; ticks = t + 1; stalled = false })
    × (is_at_rest s t next ≡ false → RunsFrom s most (t + 1) next end)

unfoldable pub serial_from : Scenario → (most t : ℕ) → World → End
serial_from s zero t world = record { world = world; ticks = t; stalled = not (all_ended world) }
serial_from s (suc most) t world =
    let next : World = serial_world s t world in
    elim (is_at_rest s t next) [
      | true ↦ record { world = next; ticks = t + 1; stalled = false }
      | false ↦ serial_from s most (t + 1) next
    ]

-- ----- logs
abbrev pub hosts_of : List HostLine → World → List HostRun
hosts_of [] world = []
hosts_of (h ∷ hs) [] = []
hosts_of (h ∷ hs) (site ∷ sites) = run_of h.name site.host ∷ hosts_of hs sites

abbrev pub scenario_log : Scenario → End → RunLog
scenario_log s end =
    record {
      replay = false;
      hosts = hosts_of s.hosts end.world;
      ticks = end.ticks;
      stalled = end.stalled;
      records = 0;
      frames = 0;
      passed = 0;
      refused = 0;
    }

-- The log is one of a run of the scenario.
abbrev pub Run : Scenario → RunLog → Type 0
Run s log = (end : End) × RunsFrom s s.limit 0 (at_start s) end × (log ≡ scenario_log s end)

-- The log of the run in serial order.
abbrev pub serial_run : Scenario → RunLog
serial_run s = scenario_log s (serial_from s s.limit 0 (at_start s))
