-- What holds of one tick of a host that stands holds of each tick of each host in a run, and what stands between two
-- ticks stands at the end.
use Rattle.std.proofs.Common.{◌≡◌, ℕ, zero, suc, ◌+◌, Bool, true, false, List, [], ◌∷◌, map, refl, sym, subst}
use Rattle.tas_model.specs.declared.entry.FrameId.{FrameId}
use Rattle.tas_model.specs.declared.entry.HostParams.{HostParams}
use Rattle.tas_model.specs.LegalHistory.{Legal}
use Rattle.host_rounds.specs.Lists.{Each}
use Rattle.host_rounds.specs.Logs.{Flow, HostRun, RunLog}
use Rattle.host_rounds.specs.Hosts.{Live, flows_of, run_of}
use Rattle.host_rounds.specs.Scripts.{Site}
use Rattle.host_rounds.specs.Rounds.{Due, Round, IsQuiet}
use Rattle.host_rounds.specs.Places.{uses, coming}
use Rattle.host_rounds.specs.Passing.{AreTimed, Went}
use Rattle.host_rounds.specs.Standing.{AreApart, AreFiled}
use Rattle.host_rounds.specs.Histories.{HasHistory, HasSentAll}
use Rattle.host_rounds.proofs.OnePlace.{round_adds}
use Rattle.host_rounds.proofs.AllTimed.{round_timed}
use Rattle.host_rounds.proofs.AllStanding.{round_filed}
use Rattle.host_rounds.proofs.Runs.{flows_quiet}
use Rattle.scenario_text.specs.declared.scenario.Scenario.{Scenario}
use Rattle.scenario_text.specs.declared.scenario.HostLine.{HostLine}
use Rattle.scenario_runs.specs.Applications.{Script}
use Rattle.scenario_runs.specs.Worlds.{World, site_of, at_start, scripts_of, due_at, is_at_rest}
use Rattle.scenario_runs.specs.Runs.{AreRounds, End, RunsFrom, hosts_of, Run}
use Rattle.scenario_runs.proofs.ByMoves.{scenarios_by_moves}
use Rattle.scenario_laws.specs.Ticks.{HostTick, OfEachHost, FromTick, InEachTick}
use Rattle.scenario_laws.specs.Ends.{OfEachLine, IsNamed, HasOpened, AllBefore, IsBefore}
use Rattle.scenario_laws.specs.Controls.{IsControlled}
use Rattle.scenario_laws.proofs.AllControlled.{flows_controlled}
use Rattle.scenario_laws.proofs.OneTick.{FlowBefore, Stands, tick_went, tick_stands}

-- ----- one tick of all hosts
-- each host stands before the tick, with the parameters of its line
abbrev pub AllStand : (tick : ℕ) → List HostLine → World → Type 0
AllStand t [] [] = Unit {0}
AllStand t [] (site ∷ sites) = ⊥
AllStand t (l ∷ ls) [] = ⊥
AllStand t (l ∷ ls) (site ∷ sites) = Stands l.params t site.host × AllStand t ls sites

-- it holds of a tick of each host that stands before it
abbrev pub OfEachRound : Scenario → (HostTick → Type 0) → Type 0
OfEachRound s Fact =
    (p : HostParams) (t : ℕ) (due : Due ℕ) (b a : Site (List Script)) → Round (scripts_of s p) t due b a
    → Stands p t b.host → Fact (record {
      tick = t;
      frames = due.frames;
      before = b.host;
      after = a.host;
      scripts_before = b.scripts;
      scripts_after = a.scripts;
    })

-- a host's scripts are those of its line
pub of_line : (s : Scenario) (whole : World) (t h : ℕ) (p : HostParams) (b a : Site (List Script))
    → Round (scripts_of s b.host.params) t (due_at s whole t h b.scripts) b a → Stands p t b.host
    → Round (scripts_of s p) t (due_at s whole t h b.scripts) b a
of_line s whole t h p b a round stands =
    subst (λ (q : HostParams). Round (scripts_of s q) t (due_at s whole t h b.scripts) b a) stands.right.params round

rounds_hold : (s : Scenario) (Fact : HostTick → Type 0) (whole : World) (t h : ℕ) (lines : List HostLine)
    (before after : World) → OfEachRound s Fact → AreRounds s whole t h before after → AllStand t lines before
    → OfEachHost s Fact whole t h before after
rounds_hold s Fact whole t h [] [] [] each rounds stand = tt
rounds_hold s Fact whole t h [] [] (a ∷ az) each rounds stand = absurd rounds
rounds_hold s Fact whole t h [] (b ∷ bs) after each rounds stand = absurd stand
rounds_hold s Fact whole t h (l ∷ ls) [] after each rounds stand = absurd stand
rounds_hold s Fact whole t h (l ∷ ls) (b ∷ bs) [] each rounds stand = absurd rounds
rounds_hold s Fact whole t h (l ∷ ls) (b ∷ bs) (a ∷ az) each rounds stand = (
  each l.params t (due_at s whole t h b.scripts) b a (of_line s whole t h l.params b a rounds.0 stand.0) stand.0,
  rounds_hold s Fact whole t (h + 1) ls bs az each rounds.1 stand.1,
)

pub rounds_stand : (s : Scenario) (whole : World) (t h : ℕ) (lines : List HostLine) (before after : World)
    → AreRounds s whole t h before after → AllStand t lines before → AllStand (t + 1) lines after
rounds_stand s whole t h [] [] [] rounds stand = tt
rounds_stand s whole t h [] [] (a ∷ az) rounds stand = absurd rounds
rounds_stand s whole t h [] (b ∷ bs) after rounds stand = absurd stand
rounds_stand s whole t h (l ∷ ls) [] after rounds stand = absurd stand
rounds_stand s whole t h (l ∷ ls) (b ∷ bs) [] rounds stand = absurd rounds
rounds_stand s whole t h (l ∷ ls) (b ∷ bs) (a ∷ az) rounds stand = (
  tick_stands s l.params t (due_at s whole t h b.scripts) b a (of_line s whole t h l.params b a rounds.0 stand.0)
      stand.0,
  rounds_stand s whole t (h + 1) ls bs az rounds.1 stand.1,
)

-- ----- all ticks
ticks_hold : (s : Scenario) (Fact : HostTick → Type 0) (most t : ℕ) (world : World) (end : End)
    (run : RunsFrom s most t world end) → OfEachRound s Fact → AllStand t s.hosts world
    → FromTick s Fact most t world end run
ticks_hold s Fact zero t world end run each stand = tt
ticks_hold s Fact (suc most) t world end run each stand = (
  rounds_hold s Fact world t 0 s.hosts world run.0 each run.1 stand,
  λ goes_on. ticks_hold s Fact most (t + 1) run.0 end (run.3 goes_on) each
      (rounds_stand s world t 0 s.hosts world run.0 run.1 stand),
)

pub ticks_stand : (s : Scenario) (most t : ℕ) (world : World) (end : End) → RunsFrom s most t world end
    → AllStand t s.hosts world → AllStand end.ticks s.hosts end.world
ticks_stand s zero t world end same stand = subst (λ (e : End). AllStand e.ticks s.hosts e.world) (sym same) stand
ticks_stand s (suc most) t world end run stand =
    let next : World = run.0 in
    let after : AllStand (t + 1) s.hosts next = rounds_stand s world t 0 s.hosts world next run.1 stand in
    by_rest (is_at_rest s t next) refl run.2 run.3 after (λ rest. ticks_stand s most (t + 1) next end rest after)
  where
    by_rest : {next : World} (b : Bool) → is_at_rest s t next ≡ b
        → (is_at_rest s t next ≡ true → end ≡ record { world = next; ticks = t + 1; stalled = false })
        → (is_at_rest s t next ≡ false → RunsFrom s most (t + 1) next end) → AllStand (t + 1) s.hosts next
        → (RunsFrom s most (t + 1) next end → AllStand end.ticks s.hosts end.world)
        → AllStand end.ticks s.hosts end.world
    by_rest true h stops goes after more =
        subst (λ (e : End). AllStand e.ticks s.hosts e.world) (sym (stops h)) after
    by_rest false h stops goes after more = more (goes h)

pub start_stands : (s : Scenario) (lines : List HostLine) → AllStand 0 lines (map (site_of s) lines)
start_stands s [] = tt
start_stands s (l ∷ ls) = (
  record {
    right = record { params = refl; legal = tt; opened = tt };
    flows = tt;
    lines = tt;
    apart = tt;
    quiet = tt;
    controlled = tt;
  },
  start_stands s ls,
)

pub run_holds : (s : Scenario) (log : RunLog) (run : Run s log) (Fact : HostTick → Type 0) → OfEachRound s Fact
    → InEachTick s log run Fact
run_holds s log run Fact each =
    ticks_hold s Fact s.limit 0 (at_start s) run.0 run.1 each (start_stands s s.hosts)

-- ----- the laws of each tick
pub ticks_place : (s : Scenario) (log : RunLog) (run : Run s log) (frame : FrameId)
    → InEachTick s log run (λ x. uses frame x.after ≡ uses frame x.before + coming frame x.frames)
ticks_place s log run frame =
    run_holds s log run (λ x. uses frame x.after ≡ uses frame x.before + coming frame x.frames)
    (λ p t due b a round stands.
    round_adds (scripts_of s p) t due b a frame (scenarios_by_moves s p) round stands.right.legal)

pub ticks_timed : (s : Scenario) (log : RunLog) (run : Run s log)
    → InEachTick s log run (λ x. AreTimed x.before.flows x.after.flows)
ticks_timed s log run =
    run_holds s log run (λ x. AreTimed x.before.flows x.after.flows) (λ p t due b a round stands.
    round_timed (scripts_of s p) t due b a (scenarios_by_moves s p) stands.right.legal round)

pub ticks_went : (s : Scenario) (log : RunLog) (run : Run s log)
    → InEachTick s log run (λ x. Went x.tick x.before x.after)
ticks_went s log run =
    run_holds s log run (λ x. Went x.tick x.before x.after)
    (λ p t due b a round stands. tick_went s p t due b a round stands)

pub ticks_filed : (s : Scenario) (log : RunLog) (run : Run s log)
    → InEachTick s log run (λ x. AreFiled x.before.flows x.after.flows)
ticks_filed s log run =
    run_holds s log run (λ x. AreFiled x.before.flows x.after.flows) (λ p t due b a round stands.
    round_filed (scripts_of s p) t due b a (scenarios_by_moves s p) stands.right.legal round)

pub ticks_apart : (s : Scenario) (log : RunLog) (run : Run s log) → InEachTick s log run (λ x. AreApart x.after.flows)
ticks_apart s log run =
    run_holds s log run (λ x. AreApart x.after.flows)
    (λ p t due b a round stands. (tick_stands s p t due b a round stands).apart)

pub ticks_quiet : (s : Scenario) (log : RunLog) (run : Run s log)
    → InEachTick s log run (λ x. Each IsQuiet x.after.flows)
ticks_quiet s log run =
    run_holds s log run (λ x. Each IsQuiet x.after.flows) (λ p t due b a round stands. round.quiet)

pub ticks_controlled : (s : Scenario) (log : RunLog) (run : Run s log)
    → InEachTick s log run (λ x. Each (λ (l : Live). IsControlled l.flow) x.after.flows)
ticks_controlled s log run =
    run_holds s log run (λ x. Each (λ (l : Live). IsControlled l.flow) x.after.flows)
    (λ p t due b a round stands. (tick_stands s p t due b a round stands).controlled)

-- ----- the laws of the log
-- what holds of each host that stands holds of each host of the log
abbrev OfEachEnd : (HostLine → HostRun → Type 0) → (tick : ℕ) → Type 0
OfEachEnd Fact t =
    (l : HostLine) (site : Site (List Script)) → Stands l.params t site.host → Fact l (run_of l.name site.host)

hosts_hold : (Fact : HostLine → HostRun → Type 0) (t : ℕ) (lines : List HostLine) (world : World) → OfEachEnd Fact t
    → AllStand t lines world → OfEachLine Fact lines (hosts_of lines world)
hosts_hold Fact t [] [] each stand = tt
hosts_hold Fact t [] (site ∷ sites) each stand = absurd stand
hosts_hold Fact t (l ∷ ls) [] each stand = absurd stand
hosts_hold Fact t (l ∷ ls) (site ∷ sites) each stand =
    (each l site stand.0, hosts_hold Fact t ls sites each stand.1)

log_holds : (s : Scenario) (log : RunLog) (Fact : (tick : ℕ) → HostLine → HostRun → Type 0)
    → ((t : ℕ) → OfEachEnd (Fact t) t) → Run s log → OfEachLine (Fact log.ticks) s.hosts log.hosts
log_holds s log Fact each run =
    subst (λ (r : RunLog). OfEachLine (Fact r.ticks) s.hosts r.hosts) (sym run.2)
    (hosts_hold (Fact run.0.ticks) run.0.ticks s.hosts run.0.world (each run.0.ticks)
    (ticks_stand s s.limit 0 (at_start s) run.0 run.1 (start_stands s s.hosts)))

each_host : (P : HostRun → Type 0) (lines : List HostLine) (hosts : List HostRun) → OfEachLine (λ l h. P h) lines hosts
    → Each P hosts
each_host P [] [] each = tt
each_host P [] (h ∷ hs) each = absurd each
each_host P (l ∷ ls) [] each = tt
each_host P (l ∷ ls) (h ∷ hs) each = (each.0, each_host P ls hs each.1)

pub hosts_named : (s : Scenario) (log : RunLog) → Run s log → OfEachLine IsNamed s.hosts log.hosts
hosts_named s log run = log_holds s log (λ t. IsNamed) (λ t l site stands. (refl, named l site stands)) run where
  named : {t : ℕ} (l : HostLine) (site : Site (List Script)) → Stands l.params t site.host
      → site.host.params.addr ≡ l.params.addr
  named l site stands = cc (stands.right.params)

pub hosts_opened : (s : Scenario) (log : RunLog) → Run s log → OfEachLine HasOpened s.hosts log.hosts
hosts_opened s log run = log_holds s log (λ t. HasOpened) (λ t l site stands. stands.right.opened) run

flows_ended : (t : ℕ) (ls : List Live) → Each (FlowBefore t) ls
    → Each (λ (f : Flow). AllBefore t f.entries) (flows_of ls)
flows_ended t [] each = tt
flows_ended t (l ∷ ls) each = (each.0, flows_ended t ls each.1)

pub hosts_before : (s : Scenario) (log : RunLog) → Run s log → Each (IsBefore log.ticks) log.hosts
hosts_before s log run =
    each_host (IsBefore log.ticks) s.hosts log.hosts
    (log_holds s log (λ t l h. IsBefore t h)
    (λ t l site stands. (flows_ended t site.host.flows stands.flows, stands.lines)) run)

pub hosts_quiet : (s : Scenario) (log : RunLog) → Run s log
    → Each (λ (h : HostRun). Each HasSentAll h.flows) log.hosts
hosts_quiet s log run =
    each_host (λ (h : HostRun). Each HasSentAll h.flows) s.hosts log.hosts
    (log_holds s log (λ t l h. Each HasSentAll h.flows)
    (λ t l site stands. flows_quiet site.host.flows stands.quiet) run)

pub hosts_controlled : (s : Scenario) (log : RunLog) → Run s log
    → Each (λ (h : HostRun). Each IsControlled h.flows) log.hosts
hosts_controlled s log run =
    each_host (λ (h : HostRun). Each IsControlled h.flows) s.hosts log.hosts
    (log_holds s log (λ t l h. Each IsControlled h.flows)
    (λ t l site stands. flows_controlled site.host.flows stands.controlled) run)

flows_legal : (ls : List Live) → Each HasHistory ls → Each (λ (f : Flow). Legal f.params f.entries) (flows_of ls)
flows_legal [] each = tt
flows_legal (l ∷ ls) each = (each.0, flows_legal ls each.1)

pub hosts_legal : (s : Scenario) (log : RunLog) → Run s log
    → Each (λ (h : HostRun). Each (λ (f : Flow). Legal f.params f.entries) h.flows) log.hosts
hosts_legal s log run =
    each_host (λ (h : HostRun). Each (λ (f : Flow). Legal f.params f.entries) h.flows) s.hosts log.hosts
    (log_holds s log (λ t l h. Each (λ (f : Flow). Legal f.params f.entries) h.flows)
    (λ t l site stands. flows_legal site.host.flows stands.right.legal) run)
