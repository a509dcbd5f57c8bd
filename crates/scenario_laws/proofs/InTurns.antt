-- In each tick of a run each application has one turn.
use Rattle.std.proofs.Common.{ℕ, zero, suc, ◌+◌, ◌≤◌, Bool, true, false, List, [], ◌∷◌, ◌++◌, map, subst, sym}
use Rattle.std.proofs.Common.{if◌then◌else◌, arith, bytes_eq}
use Rattle.tas_model.specs.declared.entry.HostParams.{HostParams}
use Rattle.host_rounds.specs.Logs.{RunLog}
use Rattle.host_rounds.specs.Upkeep.{all_swept}
use Rattle.host_rounds.specs.Scripts.{Site}
use Rattle.host_rounds.specs.Rounds.{Deed, on_host}
use Rattle.host_rounds.specs.Deliveries.{Arrival}
use Rattle.scenario_text.specs.declared.scenario.Scenario.{Scenario}
use Rattle.scenario_text.specs.declared.scenario.HostLine.{HostLine}
use Rattle.scenario_text.specs.declared.scenario.AppLine.{AppLine}
use Rattle.scenario_text.specs.declared.scenario.KillLine.{KillLine}
use Rattle.scenario_runs.specs.Applications.{Script}
use Rattle.scenario_runs.specs.Worlds.{World, at_start, site_of, scripts_on, kill_tick, starts_of, address_in, due_at}
use Rattle.scenario_runs.specs.Runs.{AreRounds, End, RunsFrom, Run}
use Rattle.scenario_laws.specs.Ticks.{HostTick, OfEachHost, FromTick, InEachTick}
use Rattle.scenario_laws.specs.Turns.{OfEachScript, reached, HadTurn, HadTurns, GoesOn}
use Rattle.scenario_laws.proofs.Goes.{turn_goes}
use Rattle.scenario_laws.proofs.AllTurned.{NumbersRise, of_each, round_turned}

-- ----- numbers of scripts
-- on each host they rise
abbrev pub AllRise : World → Type 0
AllRise [] = Unit {0}
AllRise (site ∷ sites) = NumbersRise 0 site.scripts × AllRise sites

rise_lower : (low : ℕ) (xs : List Script) → NumbersRise (low + 1) xs → NumbersRise low xs
rise_lower low [] rise = tt
rise_lower low (x ∷ xs) rise = let here : low + 1 ≤ x.number = rise.0 in (omega arith, rise.1)

scripts_rise : (kills : List KillLine) (host : List ℕ) (n : ℕ) (apps : List AppLine)
    → NumbersRise n (scripts_on kills host n apps)
scripts_rise kills host n [] = tt
scripts_rise kills host n (app ∷ apps) =
    by_host (bytes_eq app.host host) (scripts_rise kills host (n + 1) apps)
  where
    by_host : (b : Bool) → NumbersRise (n + 1) (scripts_on kills host (n + 1) apps)
        → NumbersRise n ((if b
        then (record {
          number = n;
          kill = kill_tick kills app;
          left = app.steps;
          done = 0;
          begun = false;
          names = [];
        }) ∷ []
        else [])
        ++ scripts_on kills host (n + 1) apps)
    by_host true rest = (omega arith, rest)
    by_host false rest = rise_lower n (scripts_on kills host (n + 1) apps) rest

pub start_rises : (s : Scenario) (lines : List HostLine) → AllRise (map (site_of s) lines)
start_rises s [] = tt
start_rises s (l ∷ ls) = (scripts_rise s.kills l.name 0 s.apps, start_rises s ls)

-- ----- one tick of all hosts
abbrev pub tick_of : (tick : ℕ) → List Arrival → (before after : Site (List Script)) → HostTick
tick_of t frames b a =
    record {
      tick = t;
      frames = frames;
      before = b.host;
      after = a.host;
      scripts_before = b.scripts;
      scripts_after = a.scripts;
    }

-- it holds of a tick of a host in which each of its applications had one turn
abbrev pub OfEachTurned : Scenario → (HostTick → Type 0) → Type 0
OfEachTurned s Fact =
    (t : ℕ) (frames : List Arrival) (b a : Site (List Script)) → HadTurns s (tick_of t frames b a)
    → Fact (tick_of t frames b a)

hosts_turned : (s : Scenario) (Fact : HostTick → Type 0) (whole : World) (t h : ℕ) (before after : World)
    → OfEachTurned s Fact → AreRounds s whole t h before after → AllRise before
    → OfEachHost s Fact whole t h before after × AllRise after
hosts_turned s Fact whole t h [] [] each rounds rise = (tt, tt)
hosts_turned s Fact whole t h [] (a ∷ az) each rounds rise = absurd rounds
hosts_turned s Fact whole t h (b ∷ bs) [] each rounds rise = absurd rounds
hosts_turned s Fact whole t h (b ∷ bs) (a ∷ az) each rounds rise =
    let frames : List Arrival = (due_at s whole t h b.scripts).frames in
    let here : OfEachScript (HadTurn s b.host.params t (on_host all_swept b) rounds.0.order) b.scripts a.scripts
    × NumbersRise 0 a.scripts =
    round_turned s b.host.params t frames b a rise.0 rounds.0 in
    let rest : OfEachHost s Fact whole t (h + 1) bs az × AllRise az =
    hosts_turned s Fact whole t (h + 1) bs az each rounds.1 rise.1 in
    ((each t frames b a (rounds.0, here.0), rest.0), (here.1, rest.1))

-- ----- all ticks
from_turned : (s : Scenario) (Fact : HostTick → Type 0) (most t : ℕ) (world : World) (end : End)
    (run : RunsFrom s most t world end) → OfEachTurned s Fact → AllRise world → FromTick s Fact most t world end run
from_turned s Fact zero t world end run each rise = tt
from_turned s Fact (suc most) t world end run each rise =
    let here : OfEachHost s Fact world t 0 world run.0 × AllRise run.0 =
    hosts_turned s Fact world t 0 world run.0 each run.1 rise in (
      here.0,
      λ goes_on. from_turned s Fact most (t + 1) run.0 end (run.3 goes_on) each here.1,
    )

pub ticks_turned : (s : Scenario) (log : RunLog) (run : Run s log) (Fact : HostTick → Type 0) → OfEachTurned s Fact
    → InEachTick s log run Fact
ticks_turned s log run Fact each =
    from_turned s Fact s.limit 0 (at_start s) run.0 run.1 each (start_rises s s.hosts)

-- ----- the law
pub ticks_asked : (s : Scenario) (log : RunLog) (run : Run s log) → InEachTick s log run (HadTurns s)
ticks_asked s log run = ticks_turned s log run (HadTurns s) (λ t frames b a had. had)

turn_steps : (s : Scenario) (p : HostParams) (t : ℕ) (site : Site (List Script)) (deeds : List (Deed ℕ)) (b a : Script)
    → HadTurn s p t site deeds b a → GoesOn t b a
turn_steps s p t site deeds b a had =
    subst (GoesOn t b) (sym had.script) (turn_goes (starts_of p) (address_in s.hosts) t (record {
      host = (reached s p t site had.one.earlier).host;
      script = b;
    }))

pub all_step : (s : Scenario) (p : HostParams) (t : ℕ) (site : Site (List Script)) (deeds : List (Deed ℕ))
    (bs az : List Script) → OfEachScript (HadTurn s p t site deeds) bs az → OfEachScript (GoesOn t) bs az
all_step s p t site deeds bs az had =
    of_each (HadTurn s p t site deeds) (GoesOn t) (λ b a one. turn_steps s p t site deeds b a one) bs az had

pub ticks_step : (s : Scenario) (log : RunLog) (run : Run s log)
    → InEachTick s log run (λ x. OfEachScript (GoesOn x.tick) x.scripts_before x.scripts_after)
ticks_step s log run =
    ticks_turned s log run (λ x. OfEachScript (GoesOn x.tick) x.scripts_before x.scripts_after)
    (λ t frames b a had. all_step s b.host.params t (on_host all_swept b) had.0.order b.scripts a.scripts had.1)
