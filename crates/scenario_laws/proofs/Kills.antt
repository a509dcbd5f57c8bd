-- A kill aborts the flows that it concerns when its turn comes, and each flow has one such Abort at most.
use Rattle.std.proofs.Common.{◌≡◌, ℕ, suc, ◌+◌, ◌≤◌, Bool, true, false, List, [], ◌∷◌, ◌++◌, map, fold}
use Rattle.std.proofs.Common.{length, slice_get, Some, if◌then◌else◌, bytes_eq, refl, sym, subst, ap}
use Rattle.std.proofs.Common.{◌∙◌, arith}
use Rattle.tas_model.specs.declared.entry.HostParams.{HostParams}
use Rattle.tas_model.specs.LegalHistory.{last_tick}
use Rattle.host_rounds.specs.Lists.{Each}
use Rattle.host_rounds.specs.Logs.{HostRun, RunLog}
use Rattle.host_rounds.specs.Hosts.{Live, Host, flows_of}
use Rattle.host_rounds.specs.Rounds.{Ask, Deed, does}
use Rattle.scenario_text.specs.declared.scenario.Scenario.{Scenario}
use Rattle.scenario_text.specs.declared.scenario.HostLine.{HostLine}
use Rattle.scenario_text.specs.declared.scenario.AppLine.{AppLine}
use Rattle.scenario_text.specs.declared.scenario.KillLine.{KillLine}
use Rattle.scenario_runs.specs.Applications.{Script, is_concerned, aborted_where, killed, is_killed_at, turn_where}
use Rattle.scenario_runs.specs.Worlds.{starts_of, address_in, scripts_of, scripts_on, kill_tick, site_of}
use Rattle.scenario_runs.specs.Runs.{Run}
use Rattle.scenario_laws.specs.Ticks.{HostTick, InEachTick}
use Rattle.scenario_laws.specs.Turns.{reached, HadTurn, HadTurns, at_first}
use Rattle.scenario_laws.specs.Kills.{IsKilledOn, abort_ticks, AbortsByKill, IsAborted, AreAborted, HadKills}
use Rattle.scenario_laws.proofs.AllTurned.{NumbersRise, of_each, deed_rises}
use Rattle.scenario_laws.proofs.Deeds.{At, Keeps, OfEachFlow, AreByWorkers, deeds_keep, sweep_keeps}
use Rattle.scenario_laws.proofs.InTurns.{tick_of}
use Rattle.scenario_laws.proofs.AllKept.{Stays, leads_by, each_tick, each_host}
use Rattle.scenario_laws.proofs.FlowByFlow.{IsNew, IsListed, KnowsKill, SiteFlows, Owns}
use Rattle.scenario_laws.proofs.FlowByFlow.{flows_keep}
use Rattle.scenario_laws.proofs.Aborted.{Aborts, Never, Once, AbortsOnce, concerned_aborted, keeps_aborted, keeps_once}
use Rattle.scenario_laws.proofs.Aborted.{each_listed, Anyway}

-- ----- the flows that a kill concerns
-- those of the first flows that are marked are aborted in the tick
abbrev Marked : (tick : ℕ) → List Bool → List Live → Type 0
Marked t [] ms = Unit {0}
Marked t (c ∷ cs) [] = ⊥
Marked t (c ∷ cs) (m ∷ ms) = (c ≡ true → IsAborted t m) × Marked t cs ms

marked_listed : (t : ℕ) (cs : List Bool) → IsListed t (IsAborted t) (Marked t cs)
marked_listed t cs = record { each = carried cs; push = pushed cs } where
  carried : (cs : List Bool) (ls ms : List Live) → OfEachFlow (λ l m. IsAborted t l → IsAborted t m) ls ms
      → Marked t cs ls → Marked t cs ms
  carried [] ls ms all marked = tt
  carried (c ∷ cs) [] ms all marked = absurd marked
  carried (c ∷ cs) (l ∷ ls) [] all marked = absurd all
  carried (c ∷ cs) (l ∷ ls) (m ∷ ms) all marked =
      (λ h. all.0 (marked.0 h), carried cs ls ms all.1 marked.1)

  pushed : (cs : List Bool) (ls : List Live) (l : Live) → IsNew t l → Marked t cs ls → Marked t cs (ls ++ l ∷ [])
  pushed [] ls l new marked = tt
  pushed (c ∷ cs) [] l new marked = absurd marked
  pushed (c ∷ cs) (m ∷ ls) l new marked = (marked.0, pushed cs ls l new marked.1)

killed_marked : (K : (number at : ℕ) → Type 0) (t n : ℕ) (host : Host) (ls : List Live) → Each (AbortsOnce K t) ls
    → Marked t (map (is_concerned n host) ls) (map (λ (l : Live). aborted_where (is_concerned n host l) t l) ls)
killed_marked K t n host [] each = tt
killed_marked K t n host (l ∷ ls) each =
    (λ h. concerned_aborted K t n host l each.0 h, killed_marked K t n host ls each.1)

marked_aborted : (t n : ℕ) (host : Host) (ls ms : List Live) → Marked t (map (is_concerned n host) ls) ms
    → AreAborted n t host ls ms
marked_aborted t n host [] ms marked = tt
marked_aborted t n host (l ∷ ls) [] marked = marked
marked_aborted t n host (l ∷ ls) (m ∷ ms) marked = (marked.0, marked_aborted t n host ls ms marked.1)

-- ----- one tick
pub fold_append : {X Y : Type 0} (f : Y → X → Y) (y : Y) (xs zs : List X)
    → fold f y (xs ++ zs) ≡ fold f (fold f y xs) zs
fold_append f y [] zs = refl
fold_append f y (x ∷ xs) zs = fold_append f (f y x) xs zs

pub each_front : (P : Deed ℕ → Type 0) (xs ys : List (Deed ℕ)) → Each P (xs ++ ys) → Each P xs × Each P ys
each_front P [] ys each = (tt, each)
each_front P (x ∷ xs) ys each = let rest = each_front P xs ys each.1 in ((each.0, rest.0), rest.1)

pub rises : (s : Scenario) (p : HostParams) (t : ℕ) (site : At) (deeds : List (Deed ℕ)) → NumbersRise 0 site.scripts
    → NumbersRise 0 (fold (does (scripts_of s p) t) site deeds).scripts
rises s p t site [] rise = rise
rises s p t site (m ∷ deeds) rise =
    rises s p t (does (scripts_of s p) t site m) deeds (deed_rises s p t 0 site m rise)

abbrev OnceAll : (K : (number at : ℕ) → Type 0) → (tick : ℕ) → At → Type 0
OnceAll K t site = SiteFlows K (Each (AbortsOnce K t)) site

-- Its one turn is the kill: the flows that it concerns then are aborted at the end of the deeds.
turn_kills : (s : Scenario) (p : HostParams) (K : (number at : ℕ) → Type 0) (t : ℕ) (site : At)
    (deeds : List (Deed ℕ)) (b a : Script) → AreByWorkers deeds → NumbersRise 0 site.scripts → OnceAll K t site
    → (had : HadTurn s p t site deeds b a) → is_killed_at t b.kill ≡ true
    → AreAborted b.number t (reached s p t site had.one.earlier).host (reached s p t site had.one.earlier).host.flows
    (reached s p t site deeds).host.flows
turn_kills s p K t site deeds b a workers rise once had kill =
    marked_aborted t b.number found.host found.host.flows (reached s p t site deeds).host.flows
    (subst (λ (x : At). Marked t cs x.host.flows) (sym parts) (deeds_keep s p (SiteFlows Anyway (Marked t cs)) t next
    had.one.later (flows_keep s p Anyway (IsAborted t) (Marked t cs) t (keeps_aborted Anyway t t) (marked_listed t cs))
    by_later (deed_rises s p t 0 found (record { by = had.one.by; action = Ask b.number }) rise_found)
    marked_next).flows)
  where
    found : At
    found = reached s p t site had.one.earlier

    next : At
    next = does (scripts_of s p) t found (record { by = had.one.by; action = Ask b.number })

    cs : List Bool
    cs = map (is_concerned b.number found.host) found.host.flows

    split : AreByWorkers had.one.earlier × AreByWorkers ((record { by = had.one.by; action = Ask b.number })
        ∷ had.one.later)
    split = each_front _ had.one.earlier _ (subst AreByWorkers had.one.all workers)

    by_later : AreByWorkers had.one.later
    by_later = split.1.1

    rise_found : NumbersRise 0 found.scripts
    rise_found = rises s p t site had.one.earlier rise

    once_found : OnceAll K t found
    once_found =
        deeds_keep s p (OnceAll K t) t site had.one.earlier
        (flows_keep s p K (AbortsOnce K t) (Each (AbortsOnce K t)) t (keeps_once K t) (each_listed K t)) split.0 rise
        once

    parts : reached s p t site deeds ≡ fold (does (scripts_of s p) t) next had.one.later
    parts =
        ap (fold (does (scripts_of s p) t) site) had.one.all
        ∙ fold_append (does (scripts_of s p) t) site had.one.earlier _

    host_next : next.host ≡ (killed t (record { host = found.host; script = b })).host
    host_next =
        sym (ap (λ (x : At). x.host) (fold_append (does (scripts_of s p) t) site had.one.earlier
        (record { by = had.one.by; action = Ask b.number } ∷ [])))
        ∙ had.host
        ∙ ap (λ (c : Bool). (turn_where c (starts_of p) (address_in s.hosts) t (record {
          host = found.host;
          script = b;
        })).host) kill

    once_next : OnceAll K t next
    once_next =
        deeds_keep s p (OnceAll K t) t found (record { by = had.one.by; action = Ask b.number } ∷ [])
        (flows_keep s p K (AbortsOnce K t) (Each (AbortsOnce K t)) t (keeps_once K t) (each_listed K t))
        (split.1.0, tt) rise_found once_found

    knows_nothing : (bs : List Script) → Each (KnowsKill Anyway) bs
    knows_nothing [] = tt
    knows_nothing (x ∷ bs) = (λ at h. tt, knows_nothing bs)

    marked_next : SiteFlows Anyway (Marked t cs) next
    marked_next = record {
      scripts = knows_nothing next.scripts;
      owns = once_next.owns;
      flows = subst (λ (h : Host). Marked t cs h.flows) (sym host_next)
          (killed_marked K t b.number found.host found.host.flows once_found.flows);
    }

-- ----- every tick
abbrev OnceIn : Scenario → HostLine → ℕ → At → Type 0
OnceIn s l t site = OnceAll (IsKilledOn s l.name) t site

later : (K : (number at : ℕ) → Type 0) (t : ℕ) (ls : List Live) → Each (AbortsOnce K t) ls
    → Each (AbortsOnce K (t + 1)) ls
later K t [] each = tt
later K t (l ∷ ls) each =
    let low : last_tick 0 l.flow.entries ≤ t = each.0.low in (
      record {
        first = each.0.first;
        rest = each.0.rest;
        begun = each.0.begun;
        low = omega arith;
        kills = each.0.kills;
        aborts = each.0.aborts;
      },
      later K t ls each.1,
    )

-- each script of a host is that of an application of the scenario
abbrev AppsFrom : Scenario → (k : ℕ) → List AppLine → Type 0
AppsFrom s k apps = (i : ℕ) → slice_get s.apps (k + i) ≡ slice_get apps i

pub scripts_know : (s : Scenario) (host : List ℕ) (k : ℕ) (apps : List AppLine) → AppsFrom s k apps
    → Each (KnowsKill (IsKilledOn s host)) (scripts_on s.kills host k apps)
scripts_know s host k [] are = tt
scripts_know s host k (app ∷ apps) are =
    by_host (bytes_eq app.host host) refl (scripts_know s host (k + 1) apps (λ i. next i))
  where
    next : (i : ℕ) → slice_get s.apps (k + 1 + i) ≡ slice_get apps i
    next i = let same : k + 1 + i ≡ k + suc i = omega arith in ap (slice_get s.apps) same ∙ are (suc i)

    here : slice_get s.apps k ≡ Some app
    here = let same : k ≡ k + 0 = omega arith in ap (slice_get s.apps) same ∙ are 0

    by_host : (b : Bool) → bytes_eq app.host host ≡ b
        → Each (KnowsKill (IsKilledOn s host)) (scripts_on s.kills host (k + 1) apps)
        → Each (KnowsKill (IsKilledOn s host)) ((if b
        then (record {
          number = k;
          kill = kill_tick s.kills app;
          left = app.steps;
          done = 0;
          begun = false;
          names = [];
        }) ∷ []
        else [])
        ++ scripts_on s.kills host (k + 1) apps)
    by_host true e rest =
        (λ at kill. record { killed = record { app = app; line = here; kill = kill }; host = e }, rest)
    by_host false e rest = rest

pub none_named : (kills : List KillLine) (host : List ℕ) (k : ℕ) (apps : List AppLine)
    → Each (Owns []) (scripts_on kills host k apps)
none_named kills host k [] = tt
none_named kills host k (app ∷ apps) = by_host (bytes_eq app.host host) (none_named kills host (k + 1) apps) where
  by_host : (b : Bool) → Each (Owns []) (scripts_on kills host (k + 1) apps)
      → Each (Owns []) ((if b
      then (record {
        number = k;
        kill = kill_tick kills app;
        left = app.steps;
        done = 0;
        begun = false;
        names = [];
      }) ∷ []
      else [])
      ++ scripts_on kills host (k + 1) apps)
  by_host true rest = (record { held = tt; apart = tt }, rest)
  by_host false rest = rest

start_once : (s : Scenario) (lines : List HostLine) → Each (λ (l : HostLine). OnceIn s l 0 (site_of s l)) lines
start_once s [] = tt
start_once s (l ∷ ls) = (
  record {
    owns = none_named s.kills l.name 0 s.apps;
    scripts = scripts_know s l.name 0 s.apps (λ i. (let same : 0 + i ≡ i = omega arith in ap (slice_get s.apps) same));
    flows = tt;
  },
  start_once s ls,
)

once_keeps : (s : Scenario) (l : HostLine) (p : HostParams) (t : ℕ) → Keeps s p t (OnceIn s l t)
once_keeps s l p t =
    let K : (number at : ℕ) → Type 0 = IsKilledOn s l.name in
    flows_keep s p K (AbortsOnce K t) (Each (AbortsOnce K t)) t (keeps_once K t) (each_listed K t)

once_stays : (s : Scenario) → Stays s (OnceIn s)
once_stays s = record {
  start = start_once s s.hosts;
  leads = leads_by s (OnceIn s) (λ l p t. once_keeps s l p t) (λ l t b a goes before after. record {
    scripts = after.scripts;
    owns = after.owns;
    flows = later (IsKilledOn s l.name) t a.host.flows after.flows;
  });
}

-- ----- the laws
all_kills : (s : Scenario) (l : HostLine) (x : HostTick) (had : HadTurns s x) → NumbersRise 0 x.scripts_before
    → OnceIn s l x.tick (record { host = x.before; scripts = x.scripts_before }) → HadKills s x
all_kills s l x had rise once =
    let first : At = at_first x in
    let p : HostParams = x.before.params in
    let once_first : OnceAll (IsKilledOn s l.name) x.tick first =
    sweep_keeps s p (OnceAll (IsKilledOn s l.name) x.tick) x.tick
    (record { host = x.before; scripts = x.scripts_before }) (once_keeps s l p x.tick) once in (
      had.0,
      of_each (HadTurn s p x.tick first had.0.order) _ (λ b a one. (
        one,
        λ kill. subst
            (λ (site : At). AreAborted b.number x.tick (reached s p x.tick first one.one.earlier).host
            (reached s p x.tick first one.one.earlier).host.flows site.host.flows)
            had.0.made
            (turn_kills s p (IsKilledOn s l.name) x.tick first had.0.order b a had.0.workers rise once_first one kill),
      )) x.scripts_before x.scripts_after had.1,
    )

pub ticks_kill : (s : Scenario) (log : RunLog) (run : Run s log) → InEachTick s log run (HadKills s)
ticks_kill s log run =
    each_tick s log run (OnceIn s) (HadKills s) (once_stays s)
    (λ l t frames b a had rise once. all_kills s l (tick_of t frames b a) had rise once)

flows_once : (s : Scenario) (name : List ℕ) (t : ℕ) (ls : List Live) → Each (AbortsOnce (IsKilledOn s name) t) ls
    → Each (AbortsByKill s name) (flows_of ls)
flows_once s name t [] each = tt
flows_once s name t (l ∷ ls) each =
    (record { once = by_aborts each.0.aborts; kills = each.0.kills }, flows_once s name t ls each.1)
  where
    by_aborts : Aborts l → length (abort_ticks l.flow.entries) ≤ 1
    by_aborts (Never none) =
        let long : length (abort_ticks l.flow.entries) ≡ 0 = ap (λ (ticks : List ℕ). length ticks) none in omega arith
    by_aborts (Once at aborted) =
        let long : length (abort_ticks l.flow.entries) ≡ 1 =
        ap (λ (ticks : List ℕ). length ticks) aborted.aborts in
        omega arith

pub hosts_once : (s : Scenario) (log : RunLog) → Run s log
    → Each (λ (h : HostRun). Each (AbortsByKill s h.name) h.flows) log.hosts
hosts_once s log run =
    each_host s log (OnceIn s) (λ ticks h. Each (AbortsByKill s h.name) h.flows) run (once_stays s)
    (λ t l site once. flows_once s l.name t site.host.flows once.flows)
