-- An application makes no call in the tick of its kill or later.
use Rattle.std.proofs.Common.{◌≡◌, ℕ, zero, suc, ◌+◌, ◌≤◌, ◌<◌, ◌==◌, Bool, true, false, List, [], ◌∷◌, ◌++◌, drop, max}
use Rattle.std.proofs.Common.{slice_get, Option, Some, IfSome, if◌then◌else◌, bytes_eq, refl, sym, subst, ap, ◌∙◌}
use Rattle.std.proofs.Common.{◌≢◌, true≢false, arith, tests}
use Rattle.tas_model.specs.declared.entry.HostParams.{HostParams}
use Rattle.tas_model.specs.declared.entry.Entry.{Entry}
use Rattle.tas_model.specs.declared.entry.Caller.{Caller}
use Rattle.tas_model.specs.declared.entry.Caller.TheVariants.{Slow, Core, App}
use Rattle.tas_model.specs.declared.entry.Call.{Call}
use Rattle.tas_model.specs.declared.entry.Call.TheVariants as calls
use Rattle.tas_model.specs.LegalHistory.{last_tick}
use Rattle.host_rounds.specs.Lists.{Each}
use Rattle.host_rounds.specs.Logs.{Flow, HostRun, RunLog}
use Rattle.host_rounds.specs.Hosts.{Live, Host, Holder, Application, GivenUp, Starts, with_call, flows_of}
use Rattle.host_rounds.specs.Passing.{IsUpTo}
use Rattle.host_rounds.specs.Rounds.{IsWorker}
use Rattle.host_rounds.proofs.AllLegal.{each_map, each_first, each_at, each_push}
use Rattle.scenario_text.specs.declared.scenario.Step.{Step}
use Rattle.scenario_text.specs.declared.scenario.Scenario.{Scenario}
use Rattle.scenario_text.specs.declared.scenario.HostLine.{HostLine}
use Rattle.scenario_text.specs.declared.scenario.AppLine.{AppLine}
use Rattle.scenario_text.specs.declared.scenario.KillLine.{KillLine}
use Rattle.scenario_runs.specs.Applications.{Script, Turn, is_concerned, let_go, aborted_where, is_killed_at, goes_on}
use Rattle.scenario_runs.specs.Applications.{turn_where}
use Rattle.scenario_runs.specs.Worlds.{starts_of, address_in, scripts_on, kill_tick, site_of}
use Rattle.scenario_runs.specs.Runs.{Run}
use Rattle.scenario_laws.specs.Kills.{IsKilled, CalledBefore}
use Rattle.scenario_laws.specs.Turns.{OfEachScript, turn_on, GoesOn}
use Rattle.scenario_laws.proofs.Goes.{turn_goes}
use Rattle.scenario_laws.proofs.Acts.{Act, Rests, Calls, Accepts, Connects, GivesUp, Notes, Listens, leaves, step_acts}
use Rattle.scenario_laws.proofs.Deeds.{At, IsWorkerEntry, Worked, OfEachFlow, call_low, Keeps}
use Rattle.scenario_laws.proofs.AllKept.{Stays, leads_by, each_host}
use Rattle.scenario_laws.proofs.Deeds.{found_has}

-- ----- one flow
-- no call of the application in the tick `at` or later; and no entry of a later tick than t
record IsSilent (n at t : ℕ) (l : Live) : Type 0 where
  called : CalledBefore n at l.flow.entries
  low : IsUpTo t l

before_append : (n at : ℕ) (h more : List Entry) → CalledBefore n at h → CalledBefore n at more
    → CalledBefore n at (h ++ more)
before_append n at [] more a b = b
before_append n at (x ∷ h) more a b = (a.0, before_append n at h more a.1 b)

not_worker : (n : ℕ) (by : Caller) → IsWorker by → by ≡ App n → ⊥
not_worker n Slow worker same = absurd (cc (same))
not_worker n (Core k) worker same = absurd (cc (same))
not_worker n (App k) worker same = worker

workers_before : (n at : ℕ) (more : List Entry) → Each IsWorkerEntry more → CalledBefore n at more
workers_before n at [] each = tt
workers_before n at (x ∷ more) each =
    (λ same. absurd (not_worker n x.caller each.0.by same), workers_before n at more each.1)

worked_silent : (n at t : ℕ) (l m : Live) → Worked t l m → IsSilent n at t l → IsSilent n at t m
worked_silent n at t l m worked silent = record {
  called = subst (CalledBefore n at) (sym worked.entries) (before_append n at l.flow.entries worked.more silent.called
      (workers_before n at worked.more worked.each));
  low = worked.low silent.low;
}

call_silent : (n at t : ℕ) (by : Caller) (call : Call) (offer : List ℕ) (l : Live) → (by ≡ App n → t < at)
    → IsSilent n at t l → IsSilent n at t (with_call l by t call offer)
call_silent n at t by call offer l may silent =
    let low : last_tick 0 l.flow.entries ≤ t = silent.low in
    let now : max t (last_tick 0 l.flow.entries) ≡ t = omega arith in
    record {
      called = before_append n at l.flow.entries _ silent.called
          (λ same. (let early : t < at = may same in omega arith), tt);
      low = call_low by t call offer l silent.low;
    }

held_silent : (n at t : ℕ) (holder : Holder) (l : Live) → IsSilent n at t l
    → IsSilent n at t (record l { holder = holder })
held_silent n at t holder l silent = record { called = silent.called; low = silent.low }

aborted_silent : (n at t : ℕ) (concerned : Bool) (l : Live) → IsSilent n at t l
    → IsSilent n at t (aborted_where concerned t l)
aborted_silent n at t true l silent =
    held_silent n at t (let_go l.holder) (with_call l Slow t calls.Abort [])
    (call_silent n at t Slow calls.Abort [] l (λ same. absurd (not_worker n Slow tt same)) silent)
aborted_silent n at t false l silent = silent

-- ----- a turn
abbrev AllSilent : (n at t : ℕ) → List Live → Type 0
AllSilent n at t ls = Each (IsSilent n at t) ls

same_number : (k n : ℕ) → App k ≡ App n → k ≡ n
same_number k n same = cc (same)

act_silent : (n at t k : ℕ) (starts : Starts) (host : Host) (act : Act) → (k ≡ n → t < at)
    → AllSilent n at t host.flows → AllSilent n at t (leaves starts t k host act).flows
act_silent n at t k starts host Rests may all = all
act_silent n at t k starts host (Calls flow call offer) may all =
    each_at (IsSilent n at t) flow _
    (λ l. call_silent n at t (App k) call offer l (λ same. may (same_number k n same))) host.flows all
act_silent n at t k starts host (Accepts flow) may all =
    each_at (IsSilent n at t) flow _ (held_silent n at t (Application k)) _
    (each_at (IsSilent n at t) flow _
    (λ l. call_silent n at t (App k) calls.Accept [] l (λ same. may (same_number k n same))) host.flows all)
act_silent n at t k starts host (Connects slot tuple) may all =
    each_push (IsSilent n at t) host.flows _ all (record {
      called = ((λ same. may (same_number k n same)), tt);
      low = omega arith;
    })
act_silent n at t k starts host (GivesUp flow call) may all =
    each_at (IsSilent n at t) flow _ (held_silent n at t GivenUp) _
    (each_at (IsSilent n at t) flow _
    (λ l. call_silent n at t (App k) call [] l (λ same. may (same_number k n same))) host.flows all)
act_silent n at t k starts host (Notes event) may all = all
act_silent n at t k starts host (Listens port) may all = all

-- a script of this number is killed then, and has no step left behind that
pub record Ends (n at t : ℕ) (b : Script) : Type 0 where
  pub kill : b.number ≡ n → b.kill ≡ Some at
  pub left : b.number ≡ n → at < t → b.left ≡ []

not_killed : (at t : ℕ) (o : Option ℕ) → o ≡ Some at → is_killed_at t o ≡ false → (at ≡ t → ⊥)
not_killed at t o same h now = absurd (true≢false (by_tick ∙ h)) where
  here : is_killed_at t (Some at) ≡ true
  here = grind (arith, tests, now)

  by_tick : true ≡ is_killed_at t o
  by_tick = sym (ap (is_killed_at t) same ∙ here)

turn_silent : (s : Scenario) (p : HostParams) (n at t : ℕ) (host : Host) (x : Script) → Ends n at t x
    → AllSilent n at t host.flows → AllSilent n at t (turn_on s p t host x).host.flows
turn_silent s p n at t host x ends all = by_kill (is_killed_at t x.kill) refl where
  here : Turn
  here = record { host = host; script = x }

  by_left : (left : List Step) → x.left ≡ left → is_killed_at t x.kill ≡ false
      → AllSilent n at t (goes_on (starts_of p) (address_in s.hosts) t left here).host.flows
  by_left [] same h = all
  by_left (step ∷ rest) same h =
      let acted = step_acts (starts_of p) (address_in s.hosts) t step here in
      subst (λ (h : Host). AllSilent n at t h.flows) (sym acted.left)
      (act_silent n at t x.number (starts_of p) host acted.act (λ mine. early mine) all)
    where
      no_step : (step ∷ rest) ≡ [] → ⊥
      no_step e = absurd (cc (e))

      early : x.number ≡ n → t < at
      early mine =
          let other : at ≢ t = not_killed at t x.kill (ends.kill mine) h in
          let not_before : (at < t → ⊥) = λ g. no_step (sym same ∙ ends.left mine g) in
          omega (arith, other, not_before)

  by_kill : (b : Bool) → is_killed_at t x.kill ≡ b
      → AllSilent n at t (turn_where b (starts_of p) (address_in s.hosts) t here).host.flows
  by_kill true h =
      each_map (IsSilent n at t) (λ (l : Live). aborted_where (is_concerned x.number host l) t l)
      (λ l silent. aborted_silent n at t (is_concerned x.number host l) l silent) host.flows all
  by_kill false h = by_left x.left refl h

pub none_left : (over : ℕ) (left : List Step) → left ≡ [] → drop over left ≡ []
none_left zero left h = h
none_left (suc over) [] h = refl
none_left (suc over) (step ∷ left) h = absurd (cc (h))

goes_ends : (n at t : ℕ) (b a : Script) → GoesOn t b a → Ends n at t b → Ends n at t a
goes_ends n at t b a goes ends = record {
  kill = λ mine. goes.kill ∙ ends.kill (sym goes.number ∙ mine);
  left = λ mine early. by_kill (is_killed_at t b.kill) refl (ends.left (sym goes.number ∙ mine) early);
} where
  by_kill : (c : Bool) → is_killed_at t b.kill ≡ c → b.left ≡ [] → a.left ≡ []
  by_kill true h none = goes.killed h
  by_kill false h none = let steps = goes.steps h in steps.2 ∙ none_left steps.0 b.left none

-- ----- a host and its scripts
record SiteSilent (n at t : ℕ) (site : At) : Type 0 where
  scripts : Each (Ends n at t) site.scripts
  flows : AllSilent n at t site.host.flows

all_worked : (n at t : ℕ) (ls ms : List Live) → OfEachFlow (Worked t) ls ms → AllSilent n at t ls
    → AllSilent n at t ms
all_worked n at t [] [] worked all = tt
all_worked n at t [] (m ∷ ms) worked all = absurd worked
all_worked n at t (l ∷ ls) [] worked all = absurd worked
all_worked n at t (l ∷ ls) (m ∷ ms) worked all =
    (worked_silent n at t l m worked.0 all.0, all_worked n at t ls ms worked.1 all.1)

silence_keeps : (s : Scenario) (p : HostParams) (n at t : ℕ) → Keeps s p t (SiteSilent n at t)
silence_keeps s p n at t = record {
  flows = λ site ms worked i. record {
    scripts = i.scripts;
    flows = all_worked n at t site.host.flows ms worked i.flows;
  };
  line = λ site event kind i. record { scripts = i.scripts; flows = i.flows };
  syn = λ site slot start frame tuple seg listening i. record {
    scripts = i.scripts;
    flows = each_push (IsSilent n at t) site.host.flows _ i.flows (record {
      called = ((λ same. absurd (not_worker n Slow tt same)), tt);
      low = omega arith;
    });
  };
  turn = λ site k x found rise i. (
      let ends : Ends n at t x =
      found_has (Ends n at t) (λ (b : Script). b.number == k) site.scripts x found i.scripts in
      let goes : GoesOn t x (turn_on s p t site.host x).script =
      turn_goes (starts_of p) (address_in s.hosts) t (record { host = site.host; script = x }) in
      record {
        scripts = each_first (Ends n at t) _ _ (λ b each. goes_ends n at t x _ goes ends) site.scripts i.scripts;
        flows = turn_silent s p n at t site.host x ends i.flows;
      });
}

-- ----- the next tick
later : (n at t : ℕ) (ls : List Live) → AllSilent n at t ls → AllSilent n at (t + 1) ls
later n at t [] all = tt
later n at t (l ∷ ls) all =
    let low : last_tick 0 l.flow.entries ≤ t = all.0.low in
    (record { called = all.0.called; low = omega arith }, later n at t ls all.1)

ended : (n at t : ℕ) (bs az : List Script) → OfEachScript (GoesOn t) bs az → Each (Ends n at t) bs
    → Each (Ends n at t) az → Each (Ends n at (t + 1)) az
ended n at t [] [] goes before after = tt
ended n at t [] (a ∷ az) goes before after = absurd goes
ended n at t (b ∷ bs) [] goes before after = absurd goes
ended n at t (b ∷ bs) (a ∷ az) goes before after = (
  record { kill = after.0.kill; left = λ mine early. by_now (at == t) refl mine early },
  ended n at t bs az goes.1 before.1 after.1,
) where
  by_now : (c : Bool) → (at == t) ≡ c → a.number ≡ n → at < t + 1 → a.left ≡ []
  by_now true e mine early =
      let killed : is_killed_at t b.kill ≡ true =
      ap (is_killed_at t) (before.0.kill (sym goes.0.number ∙ mine)) ∙ e in
      goes.0.killed killed
  by_now false e mine early =
      let past : at < t = grind (arith, tests, e, early) in after.0.left mine past

-- ----- the start
-- of the applications from the number k on, the one with the number n is killed in the tick `at`
abbrev KilledFrom : List KillLine → (n at k : ℕ) → List AppLine → Type 0
KilledFrom kills n at k apps =
    (i : ℕ) → k + i ≡ n → IfSome (slice_get apps i) (λ app. kill_tick kills app ≡ Some at)

pub scripts_end : (kills : List KillLine) (host : List ℕ) (n at k : ℕ) (apps : List AppLine)
    → KilledFrom kills n at k apps → Each (Ends n at 0) (scripts_on kills host k apps)
scripts_end kills host n at k [] is = tt
scripts_end kills host n at k (app ∷ apps) is =
    by_host (bytes_eq app.host host)
    (scripts_end kills host n at (k + 1) apps (λ i h. is (suc i) (omega arith)))
  where
    by_host : (b : Bool) → Each (Ends n at 0) (scripts_on kills host (k + 1) apps)
        → Each (Ends n at 0) ((if b
        then (record {
          number = k;
          kill = kill_tick kills app;
          left = app.steps;
          done = 0;
          begun = false;
          names = [];
        }) ∷ []
        else [])
        ++ scripts_on kills host (k + 1) apps)
    by_host true rest = (record { kill = λ mine. is 0 (omega arith); left = λ mine early. absurd (omega arith) }, rest)
    by_host false rest = rest

pub killed_from : (s : Scenario) (n at : ℕ) → IsKilled s n at → KilledFrom s.kills n at 0 s.apps
killed_from s n at killed i h =
    let same : i ≡ n = omega arith in
    subst (λ (o : Option AppLine). IfSome o (λ app. kill_tick s.kills app ≡ Some at))
    (sym (ap (slice_get s.apps) same ∙ killed.line)) killed.kill

start_silent : (s : Scenario) (n at : ℕ) (lines : List HostLine) → IsKilled s n at
    → Each (λ (l : HostLine). SiteSilent n at 0 (site_of s l)) lines
start_silent s n at [] killed = tt
start_silent s n at (l ∷ ls) killed = (
  record { scripts = scripts_end s.kills l.name n at 0 s.apps (killed_from s n at killed); flows = tt },
  start_silent s n at ls killed,
)

-- ----- a run
silence_stays : (s : Scenario) (n at : ℕ) → IsKilled s n at → Stays s (λ l t site. SiteSilent n at t site)
silence_stays s n at killed = record {
  start = start_silent s n at s.hosts killed;
  leads = leads_by s (λ l t site. SiteSilent n at t site) (λ l p t. silence_keeps s p n at t)
      (λ l t b a goes before after. record {
        scripts = ended n at t b.scripts a.scripts goes before.scripts after.scripts;
        flows = later n at t a.host.flows after.flows;
      });
}

flows_silent : (n at t : ℕ) (ls : List Live) → AllSilent n at t ls
    → Each (λ (f : Flow). CalledBefore n at f.entries) (flows_of ls)
flows_silent n at t [] all = tt
flows_silent n at t (l ∷ ls) all = (all.0.called, flows_silent n at t ls all.1)

pub killed_is_silent : (s : Scenario) (log : RunLog) (n at : ℕ) → IsKilled s n at → Run s log
    → Each (λ (h : HostRun). Each (λ (f : Flow). CalledBefore n at f.entries) h.flows) log.hosts
killed_is_silent s log n at killed run =
    each_host s log (λ l t site. SiteSilent n at t site)
    (λ ticks h. Each (λ (f : Flow). CalledBefore n at f.entries) h.flows) run (silence_stays s n at killed)
    (λ t l site i. flows_silent n at t site.host.flows i.flows)
