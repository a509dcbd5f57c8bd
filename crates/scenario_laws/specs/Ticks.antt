-- The ticks of a run of a scenario, host by host.
use Rattle.std.specs.Prelude.{◌≡◌, ℕ, zero, suc, ◌+◌, false, List, [], ◌∷◌, ⊤}
use Rattle.host_rounds.specs.Logs.{RunLog}
use Rattle.host_rounds.specs.Hosts.{Host}
use Rattle.host_rounds.specs.Deliveries.{Arrival}
use Rattle.scenario_text.specs.declared.scenario.Scenario.{Scenario}
use Rattle.scenario_runs.specs.Applications.{Script}
use Rattle.scenario_runs.specs.Worlds.{World, at_start, due_at, is_at_rest}
use Rattle.scenario_runs.specs.Runs.{End, RunsFrom, Run}

-- One tick of one host: its number, the frames that come to the host in it, and the host and the scripts of its
-- applications before it and after it.
pub record HostTick : Type 0 where
  pub tick : ℕ
  pub frames : List Arrival
  pub before : Host
  pub after : Host
  pub scripts_before : List Script
  pub scripts_after : List Script

-- The fact holds of a tick of each of these hosts, the first of which has this number; and none comes or goes.
abbrev pub OfEachHost : Scenario → (HostTick → Type 0) → (whole : World) → (tick host : ℕ) → (before after : World)
    → Type 0
OfEachHost s Fact whole t h [] [] = ⊤
OfEachHost s Fact whole t h (b ∷ bs) (a ∷ az) =
    Fact (record {
      tick = t;
      frames = (due_at s whole t h b.scripts).frames;
      before = b.host;
      after = a.host;
      scripts_before = b.scripts;
      scripts_after = a.scripts;
    })
    × OfEachHost s Fact whole t (h + 1) bs az
OfEachHost s Fact whole t h _ _ = ⊥

-- It holds of each tick from t on: of this one, and where all is not at rest after it, of those that follow.
abbrev pub FromTick : (s : Scenario) → (HostTick → Type 0) → (most t : ℕ) → (world : World) → (end : End)
    → RunsFrom s most t world end → Type 0
FromTick s Fact zero t world end run = ⊤
FromTick s Fact (suc most) t world end run =
    OfEachHost s Fact world t 0 world run.0
    × ((goes_on : is_at_rest s t run.0 ≡ false) → FromTick s Fact most (t + 1) run.0 end (run.3 goes_on))

-- The fact holds of each host in each tick of this run.
abbrev pub InEachTick : (s : Scenario) → (log : RunLog) → Run s log → (HostTick → Type 0) → Type 0
InEachTick s log run Fact = FromTick s Fact s.limit 0 (at_start s) run.0 run.1
