-- In every run an application makes calls on its own sockets alone.
use Rattle.std.proofs.Common.{◌≡◌, ℕ, ◌+◌, ◌≤◌, ◌==◌, ◌&&◌, not, Bool, true, false, List, [], ◌∷◌, ◌++◌, max, refl, sym}
use Rattle.std.proofs.Common.{slice_get, subst, ap, ◌∙◌, arith, tests}
use Rattle.tas_model.specs.declared.entry.Entry.{Entry}
use Rattle.tas_model.specs.declared.entry.Caller.{Caller}
use Rattle.tas_model.specs.declared.entry.Caller.TheVariants.{Slow, App}
use Rattle.tas_model.specs.declared.entry.Call.{Call}
use Rattle.tas_model.specs.declared.entry.Call.TheVariants as calls
use Rattle.tas_model.specs.LegalHistory.{last_tick}
use Rattle.host_rounds.specs.Lists.{Each}
use Rattle.host_rounds.specs.Logs.{Flow, HostRun, RunLog}
use Rattle.host_rounds.specs.Hosts.{Live, Host, Holder, Waiting, Application, GivenUp, is_over, with_call, flows_of}
use Rattle.host_rounds.specs.Passing.{IsUpTo}
use Rattle.host_rounds.specs.Rounds.{IsWorker}
use Rattle.host_rounds.proofs.AllLegal.{each_push}
use Rattle.scenario_text.specs.declared.scenario.Scenario.{Scenario}
use Rattle.scenario_text.specs.declared.scenario.HostLine.{HostLine}
use Rattle.scenario_runs.specs.Applications.{is_concerned, has_listener, let_go, aborted_where}
use Rattle.scenario_runs.specs.Worlds.{site_of}
use Rattle.scenario_runs.specs.Runs.{Run}
use Rattle.scenario_laws.specs.Kills.{IsKilled, IsKilledOn}
use Rattle.scenario_laws.specs.Sockets.{holder_after, holder_in, MayAbort, MayEnter, AreByHolder}
use Rattle.scenario_laws.proofs.Acts.{IsPlainCall, IsLastCall}
use Rattle.scenario_laws.proofs.Deeds.{At, IsWorkerCall, IsWorkerEntry, Worked, OfEachFlow, call_low}
use Rattle.scenario_laws.proofs.Sockets.{ready_waits}
use Rattle.scenario_laws.proofs.FlowByFlow.{IsNew, KeepsFlow, IsListed, SiteFlows, flows_keep}
use Rattle.scenario_laws.proofs.AllKept.{Stays, leads_by, each_host}
use Rattle.scenario_laws.proofs.Kills.{scripts_know, none_named}

-- ----- histories
pub in_append : (holder : Holder) (h more : List Entry)
    → holder_in holder (h ++ more) ≡ holder_in (holder_in holder h) more
in_append holder [] more = refl
in_append holder (x ∷ h) more = in_append (holder_after holder x.caller x.call) h more

by_append : (s : Scenario) (holder : Holder) (h more : List Entry) → AreByHolder s holder h
    → AreByHolder s (holder_in holder h) more → AreByHolder s holder (h ++ more)
by_append s holder [] more a b = b
by_append s holder (x ∷ h) more a b = (a.0, by_append s (holder_after holder x.caller x.call) h more a.1 b)

worker_after : (holder : Holder) (by : Caller) (call : Call) → IsWorkerCall call → holder_after holder by call ≡ holder
worker_after holder (App n) (calls.Connect iss) kind = absurd kind
worker_after holder (App n) calls.Accept kind = absurd kind
worker_after holder (App n) calls.Close kind = absurd kind
worker_after holder (App n) calls.Abort kind = absurd kind
worker_after holder Slow calls.Abort kind = absurd kind
worker_after holder by call kind = refl

worker_may : (s : Scenario) (holder : Holder) (t : ℕ) (by : Caller) (call : Call) → IsWorker by → IsWorkerCall call
    → MayEnter s holder t by call
worker_may s holder t (App n) call worker kind = absurd worker
worker_may s holder t Slow calls.Abort worker kind = absurd kind
worker_may s holder t by call worker kind = tt

workers_after : (holder : Holder) (more : List Entry) → Each IsWorkerEntry more → holder_in holder more ≡ holder
workers_after holder [] each = refl
workers_after holder (x ∷ more) each =
    ap (λ (h : Holder). holder_in h more) (worker_after holder x.caller x.call each.0.call)
    ∙ workers_after holder more each.1

workers_may : (s : Scenario) (holder : Holder) (more : List Entry) → Each IsWorkerEntry more
    → AreByHolder s holder more
workers_may s holder [] each = tt
workers_may s holder (x ∷ more) each = (
  worker_may s holder x.tick x.caller x.call each.0.by each.0.call,
  subst (λ (h : Holder). AreByHolder s h more) (sym (worker_after holder x.caller x.call each.0.call))
      (workers_may s holder more each.1),
)

-- ----- a flow
-- its holder is the one that its history shows, and each entry is by the one that then has the socket
pub record OwnFlow (s : Scenario) (t : ℕ) (l : Live) : Type 0 where
  pub holder : l.holder ≡ holder_in Waiting l.flow.entries
  pub calls : AreByHolder s Waiting l.flow.entries
  pub low : IsUpTo t l

worked_own : (s : Scenario) (t : ℕ) (l m : Live) → Worked t l m → OwnFlow s t l → OwnFlow s t m
worked_own s t l m worked own = record {
  holder =
      worked.holder
      ∙ own.holder
      ∙ sym (ap (holder_in Waiting) worked.entries
      ∙ in_append Waiting l.flow.entries worked.more
      ∙ workers_after (holder_in Waiting l.flow.entries) worked.more worked.each);
  calls = subst (AreByHolder s Waiting) (sym worked.entries) (by_append s Waiting l.flow.entries worked.more own.calls
      (workers_may s (holder_in Waiting l.flow.entries) worked.more worked.each));
  low = worked.low own.low;
}

-- one entry more, after which another may have the socket
entered : (s : Scenario) (t : ℕ) (by : Caller) (call : Call) (offer : List ℕ) (holder : Holder) (l : Live)
    → OwnFlow s t l → MayEnter s l.holder t by call → holder ≡ holder_after l.holder by call
    → OwnFlow s t (record (with_call l by t call offer) { holder = holder })
entered s t by call offer holder l own may same =
    let low : last_tick 0 l.flow.entries ≤ t = own.low in
    let now : max t (last_tick 0 l.flow.entries) ≡ t = omega arith in
    record {
      holder =
          same
          ∙ ap (λ (h : Holder). holder_after h by call) own.holder
          ∙ sym (in_append Waiting l.flow.entries _);
      calls = by_append s Waiting l.flow.entries _ own.calls (
        subst (λ (k : ℕ). MayEnter s (holder_in Waiting l.flow.entries) k by call) (sym now)
            (subst (λ (h : Holder). MayEnter s h t by call) own.holder may),
        tt,
      );
      low = call_low by t call offer l own.low;
    }

plain_may : (s : Scenario) (holder : Holder) (t n : ℕ) (call : Call) → IsPlainCall call → holder ≡ Application n
    → MayEnter s holder t (App n) call
plain_may s holder t n calls.Ready kind mine = mine
plain_may s holder t n (calls.Send offered) kind mine = mine
plain_may s holder t n (calls.Recv most) kind mine = mine
plain_may s holder t n calls.Shut kind mine = mine
plain_may s holder t n (calls.Connect iss) kind mine = absurd kind
plain_may s holder t n (calls.Passive frame iss seg) kind mine = absurd kind
plain_may s holder t n (calls.Rx frame seg) kind mine = absurd kind
plain_may s holder t n calls.Emit kind mine = absurd kind
plain_may s holder t n calls.Tick kind mine = absurd kind
plain_may s holder t n calls.Control kind mine = absurd kind
plain_may s holder t n calls.Accept kind mine = absurd kind
plain_may s holder t n calls.Close kind mine = absurd kind
plain_may s holder t n calls.Abort kind mine = absurd kind

plain_after : (holder : Holder) (n : ℕ) (call : Call) → IsPlainCall call → holder ≡ holder_after holder (App n) call
plain_after holder n (calls.Connect iss) kind = absurd kind
plain_after holder n calls.Accept kind = absurd kind
plain_after holder n calls.Close kind = absurd kind
plain_after holder n calls.Abort kind = absurd kind
plain_after holder n call kind = refl

last_own : (s : Scenario) (t n : ℕ) (call : Call) (l : Live) → IsLastCall call → l.holder ≡ Application n
    → OwnFlow s t l → OwnFlow s t (record (with_call l (App n) t call []) { holder = GivenUp })
last_own s t n calls.Close l kind mine own = entered s t (App n) calls.Close [] GivenUp l own mine refl
last_own s t n calls.Abort l kind mine own = entered s t (App n) calls.Abort [] GivenUp l own mine refl
last_own s t n (calls.Connect iss) l kind mine own = absurd kind
last_own s t n (calls.Passive frame iss seg) l kind mine own = absurd kind
last_own s t n (calls.Rx frame seg) l kind mine own = absurd kind
last_own s t n calls.Emit l kind mine own = absurd kind
last_own s t n calls.Tick l kind mine own = absurd kind
last_own s t n calls.Control l kind mine own = absurd kind
last_own s t n calls.Accept l kind mine own = absurd kind
last_own s t n calls.Ready l kind mine own = absurd kind
last_own s t n (calls.Send offered) l kind mine own = absurd kind
last_own s t n (calls.Recv most) l kind mine own = absurd kind
last_own s t n calls.Shut l kind mine own = absurd kind

-- a kill concerns the sockets of its own application
kill_may : (s : Scenario) (t n : ℕ) (host : Host) (l : Live) → IsKilled s n t → is_concerned n host l ≡ true
    → MayAbort s l.holder t
kill_may s t n host l killed concerned = by_holder l.holder concerned where
  by_holder : (holder : Holder) → elim holder [
    | Application other ↦ other == n
    | Waiting ↦ not (is_over l) && has_listener n l.flow.tuple.lport host
    | GivenUp ↦ false
  ] ≡ true → MayAbort s holder t
  by_holder (Application other) h =
      let same : other ≡ n = grind (arith, tests, h) in subst (λ (m : ℕ). IsKilled s m t) (sym same) killed
  by_holder Waiting h = tt
  by_holder GivenUp h = tt

killed_own : (s : Scenario) (t n : ℕ) (host : Host) (l : Live) → IsKilled s n t → OwnFlow s t l
    → OwnFlow s t (aborted_where (is_concerned n host l) t l)
killed_own s t n host l killed own = by_concerned (is_concerned n host l) refl where
  by_concerned : (b : Bool) → is_concerned n host l ≡ b → OwnFlow s t (aborted_where b t l)
  by_concerned false h = own
  by_concerned true h = entered s t Slow calls.Abort [] (let_go l.holder) l own (kill_may s t n host l killed h) refl

keeps_own : (s : Scenario) (name : List ℕ) (t : ℕ) → KeepsFlow (IsKilledOn s name) t (OwnFlow s t)
keeps_own s name t = record {
  worked = worked_own s t;
  plain = λ l n call offer kind mine own. entered s t (App n) call offer l.holder l own
      (plain_may s l.holder t n call kind mine) (plain_after l.holder n call kind);
  accept = λ l n port ready own. entered s t (App n) calls.Accept [] (Application n) l own (ready_waits port l ready)
      refl;
  last = λ l n call kind mine own. last_own s t n call l kind mine own;
  killed = λ l n host kill own. killed_own s t n host l kill.killed own;
}

own_listed : (s : Scenario) (t : ℕ) → IsListed t (OwnFlow s t) (Each (OwnFlow s t))
own_listed s t = record { each = carried; push = pushed } where
  carried : (ls ms : List Live) → OfEachFlow (λ l m. OwnFlow s t l → OwnFlow s t m) ls ms → Each (OwnFlow s t) ls
      → Each (OwnFlow s t) ms
  carried [] [] all each = tt
  carried [] (m ∷ ms) all each = absurd all
  carried (l ∷ ls) [] all each = absurd all
  carried (l ∷ ls) (m ∷ ms) all each = (all.0 each.0, carried ls ms all.1 each.1)

  up_to : (k : ℕ) → k ≡ t → k ≤ t
  up_to k h = omega arith

  pushed : (ls : List Live) (l : Live) → IsNew t l → Each (OwnFlow s t) ls → Each (OwnFlow s t) (ls ++ l ∷ [])
  pushed ls l new each = each_push (OwnFlow s t) ls l each (record {
    holder = new.holder ∙ sym (ap (holder_in Waiting) new.entries);
    calls = subst (AreByHolder s Waiting) (sym new.entries) (new.may s, tt);
    low = subst (λ (xs : List Entry). last_tick 0 xs ≤ t) (sym new.entries) (up_to new.first.tick new.tick);
  })

-- ----- a run
abbrev pub OwnIn : Scenario → HostLine → ℕ → At → Type 0
OwnIn s l t site = SiteFlows (IsKilledOn s l.name) (Each (OwnFlow s t)) site

later : (s : Scenario) (t : ℕ) (ls : List Live) → Each (OwnFlow s t) ls → Each (OwnFlow s (t + 1)) ls
later s t [] each = tt
later s t (l ∷ ls) each =
    let low : last_tick 0 l.flow.entries ≤ t = each.0.low in
    (record { holder = each.0.holder; calls = each.0.calls; low = omega arith }, later s t ls each.1)

start_own : (s : Scenario) (lines : List HostLine) → Each (λ (l : HostLine). OwnIn s l 0 (site_of s l)) lines
start_own s [] = tt
start_own s (l ∷ ls) = (
  record {
    scripts = scripts_know s l.name 0 s.apps (λ i. (let same : 0 + i ≡ i = omega arith in ap (slice_get s.apps) same));
    owns = none_named s.kills l.name 0 s.apps;
    flows = tt;
  },
  start_own s ls,
)

pub own_stays : (s : Scenario) → Stays s (OwnIn s)
own_stays s = record {
  start = start_own s s.hosts;
  leads = leads_by s (OwnIn s)
      (λ l p t. flows_keep s p (IsKilledOn s l.name) (OwnFlow s t) (Each (OwnFlow s t)) t (keeps_own s l.name t)
      (own_listed s t)) (λ l t b a goes before after. record {
        scripts = after.scripts;
        owns = after.owns;
        flows = later s t a.host.flows after.flows;
      });
}

flows_own : (s : Scenario) (t : ℕ) (ls : List Live) → Each (OwnFlow s t) ls
    → Each (λ (f : Flow). AreByHolder s Waiting f.entries) (flows_of ls)
flows_own s t [] each = tt
flows_own s t (l ∷ ls) each = (each.0.calls, flows_own s t ls each.1)

pub calls_by_holders : (s : Scenario) (log : RunLog) → Run s log
    → Each (λ (h : HostRun). Each (λ (f : Flow). AreByHolder s Waiting f.entries) h.flows) log.hosts
calls_by_holders s log run =
    each_host s log (OwnIn s) (λ ticks h. Each (λ (f : Flow). AreByHolder s Waiting f.entries) h.flows) run
    (own_stays s) (λ t l site own. flows_own s t site.host.flows own.flows)
