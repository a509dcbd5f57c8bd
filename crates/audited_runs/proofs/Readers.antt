-- Of each flow of a run one application reads, in one call a tick.
use Rattle.std.proofs.Common.{◌≡◌, ◌⊎◌, inl, inr, ℕ, ◌+◌, List, [], ◌∷◌, ◌++◌, Bool, true, false}
use Rattle.std.proofs.Common.{slice_get, refl, sym, subst, ap, arith}
use Rattle.tas_model.specs.declared.entry.Entry.{Entry}
use Rattle.tas_model.specs.declared.entry.Caller.{Caller}
use Rattle.tas_model.specs.declared.entry.Caller.TheVariants.{Slow, Core, App}
use Rattle.tas_model.specs.declared.entry.Call.{Call}
use Rattle.tas_model.specs.declared.entry.Call.TheVariants as calls
use Rattle.tas_model.specs.LegalHistory.{extended_by}
use Rattle.host_rounds.specs.Lists.{Each}
use Rattle.host_rounds.specs.Logs.{Flow, HostRun, RunLog}
use Rattle.host_rounds.specs.Hosts.{Live, Host, Holder, Waiting, Application, GivenUp, flows_of}
use Rattle.host_rounds.proofs.AllLegal.{each_push}
use Rattle.host_rounds.proofs.Lists.{each_append}
use Rattle.scenario_text.specs.declared.scenario.Scenario.{Scenario}
use Rattle.scenario_text.specs.declared.scenario.HostLine.{HostLine}
use Rattle.scenario_runs.specs.Applications.{is_concerned, let_go, aborted_where}
use Rattle.scenario_runs.specs.Worlds.{site_of}
use Rattle.scenario_runs.specs.Runs.{Run}
use Rattle.scenario_laws.specs.Kills.{IsKilledOn}
use Rattle.scenario_laws.specs.Sockets.{holder_after, MayEnter, AreByHolder}
use Rattle.scenario_laws.proofs.Deeds.{At, IsWorkerCall, IsWorkerEntry, OfEachFlow}
use Rattle.scenario_laws.proofs.FlowByFlow.{IsNew, KeepsFlow, IsListed, SiteFlows, flows_keep}
use Rattle.scenario_laws.proofs.AllKept.{Stays, leads_by, each_host}
use Rattle.scenario_laws.proofs.Kills.{scripts_know, none_named}
use Rattle.audited_runs.proofs.Given.{IsNoRecv}

-- ----- one application
-- where an application makes the call, it is this one
abbrev pub IsOfApp : (app : ℕ) → Caller → Type 0
IsOfApp n (App m) = m ≡ n
IsOfApp n _ = Unit {0}

-- it has the socket, or gave it up
abbrev HadBy : (app : ℕ) → Holder → Type 0
HadBy n (Application m) = m ≡ n
HadBy n GivenUp = Unit {0}
HadBy n Waiting = ⊥

not_waiting : (n : ℕ) (holder : Holder) → HadBy n holder → holder ≡ Waiting → ⊥
not_waiting n holder had e = subst (HadBy n) e had

by_owner : (n m : ℕ) (holder : Holder) → HadBy n holder → holder ≡ Application m → m ≡ n
by_owner n m holder had e = subst (HadBy n) e had

let_go_had : (n : ℕ) (holder : Holder) → HadBy n holder → HadBy n (let_go holder)
let_go_had n (Application m) had = tt
let_go_had n GivenUp had = tt
let_go_had n Waiting had = absurd had

one_step : (s : Scenario) (n t : ℕ) (holder : Holder) (by : Caller) (call : Call) → HadBy n holder
    → MayEnter s holder t by call → IsOfApp n by × HadBy n (holder_after holder by call)
one_step s n t holder (App m) (calls.Connect iss) had may = absurd (not_waiting n holder had may)
one_step s n t holder (App m) calls.Accept had may = absurd (not_waiting n holder had may)
one_step s n t holder (App m) calls.Close had may = (by_owner n m holder had may, tt)
one_step s n t holder (App m) calls.Abort had may = (by_owner n m holder had may, tt)
one_step s n t holder (App m) call had may = (by_owner n m holder had may, had)
one_step s n t holder Slow calls.Abort had may = (tt, let_go_had n holder had)
one_step s n t holder Slow call had may = (tt, had)
one_step s n t holder (Core k) call had may = (tt, had)

abbrev pub AreOfApp : (app : ℕ) → List Entry → Type 0
AreOfApp n xs = Each (λ (x : Entry). IsOfApp n x.caller) xs

had_by_one : (s : Scenario) (n : ℕ) (holder : Holder) (xs : List Entry) → HadBy n holder → AreByHolder s holder xs
    → AreOfApp n xs
had_by_one s n holder [] had are = tt
had_by_one s n holder (x ∷ xs) had are =
    let step = one_step s n x.tick holder x.caller x.call had are.0 in
    (step.0, had_by_one s n (holder_after holder x.caller x.call) xs step.1 are.1)

-- the first that gets the socket
abbrev Got : Caller → Call → Type 0
Got by call =
    ((m : ℕ) × IsOfApp m by × (holder_after Waiting by call ≡ Application m))
    ⊎ (((n : ℕ) → IsOfApp n by) × (holder_after Waiting by call ≡ Waiting))

pub one_reader : (s : Scenario) (xs : List Entry) → AreByHolder s Waiting xs → (n : ℕ) × AreOfApp n xs
one_reader s [] are = (0, tt)
one_reader s (x ∷ xs) are =
    by_got (first s x.tick x.caller x.call are.0) (λ same. one_reader s xs (subst (λ (h : Holder). AreByHolder s h xs)
    same are.1))
  where
    not_yet : (m : ℕ) → Waiting ≡ Application m → ⊥
    not_yet m e = absurd (cc (e))

    first : (s : Scenario) (t : ℕ) (by : Caller) (call : Call) → MayEnter s Waiting t by call → Got by call
    first s t (App m) (calls.Connect iss) may = inl (m, refl, refl)
    first s t (App m) calls.Accept may = inl (m, refl, refl)
    first s t (App m) call may = absurd (not_yet m may)
    first s t Slow calls.Abort may = inr ((λ n. tt), refl)
    first s t Slow call may = inr ((λ n. tt), refl)
    first s t (Core k) call may = inr ((λ n. tt), refl)

    by_got : Got x.caller x.call → (holder_after Waiting x.caller x.call ≡ Waiting → (n : ℕ) × AreOfApp n xs)
        → (n : ℕ) × AreOfApp n (x ∷ xs)
    by_got (inl got) rest = (
      got.0,
      (
        got.1,
        had_by_one s got.0 (Application got.0) xs refl
            (subst (λ (h : Holder). AreByHolder s h xs) got.2 are.1),
      ),
    )
    by_got (inr none) rest = let more = rest none.1 in (more.0, (none.0 more.0, more.1))

-- ----- nobody else reads
abbrev pub ReadsByApp : Caller → Call → Type 0
ReadsByApp (App n) call = Unit {0}
ReadsByApp Slow call = IsNoRecv call
ReadsByApp (Core k) call = IsNoRecv call

-- the entries behind the first
abbrev pub later : List Entry → List Entry
later [] = []
later (x ∷ xs) = xs

abbrev pub AreReadByApps : List Entry → Type 0
AreReadByApps xs = Each (λ (x : Entry). ReadsByApp x.caller x.call) xs

later_append : (xs ys : List Entry) → AreReadByApps (later xs) → AreReadByApps ys → AreReadByApps (later (xs ++ ys))
later_append [] [] a b = tt
later_append [] (y ∷ ys) a b = b.1
later_append (x ∷ xs) ys a b = each_append (λ (y : Entry). ReadsByApp y.caller y.call) xs ys a b

worker_reads_none : (by : Caller) (call : Call) → IsWorkerCall call → ReadsByApp by call
worker_reads_none (App n) call kind = tt
worker_reads_none Slow (calls.Recv most) kind = absurd kind
worker_reads_none Slow call kind = tt
worker_reads_none (Core k) (calls.Recv most) kind = absurd kind
worker_reads_none (Core k) call kind = tt

workers_read_none : (more : List Entry) → Each IsWorkerEntry more → AreReadByApps more
workers_read_none [] each = tt
workers_read_none (x ∷ xs) each =
    (worker_reads_none x.caller x.call each.0.call, workers_read_none xs each.1)

abbrev Reads : Live → Type 0
Reads l = AreReadByApps (later l.flow.entries)

called_reads : (l : Live) (by : Caller) (t : ℕ) (call : Call) (offer : List ℕ) → ReadsByApp by call → Reads l
    → AreReadByApps (later (extended_by l.flow.params l.flow.entries by t call offer))
called_reads l by t call offer reads so_far = later_append l.flow.entries _ so_far (reads, tt)

killed_reads : (t n : ℕ) (host : Host) (l : Live) → Reads l → Reads (aborted_where (is_concerned n host l) t l)
killed_reads t n host l so_far = by_concerned (is_concerned n host l) where
  by_concerned : (b : Bool) → Reads (aborted_where b t l)
  by_concerned false = so_far
  by_concerned true = called_reads l Slow t calls.Abort [] tt so_far

keeps_reads : (s : Scenario) (name : List ℕ) (t : ℕ) → KeepsFlow (IsKilledOn s name) t Reads
keeps_reads s name t = record {
  worked = λ l m worked so_far. subst (λ (xs : List Entry). AreReadByApps (later xs)) (sym worked.entries)
      (later_append l.flow.entries worked.more so_far (workers_read_none worked.more worked.each));
  plain = λ l n call offer kind mine so_far. called_reads l (App n) t call offer tt so_far;
  accept = λ l n port ready so_far. called_reads l (App n) t calls.Accept [] tt so_far;
  last = λ l n call kind mine so_far. called_reads l (App n) t call [] tt so_far;
  killed = λ l n host kill so_far. killed_reads t n host l so_far;
}

reads_listed : (t : ℕ) → IsListed t Reads (Each Reads)
reads_listed t = record { each = carried; push = pushed } where
  carried : (ls ms : List Live) → OfEachFlow (λ l m. Reads l → Reads m) ls ms → Each Reads ls → Each Reads ms
  carried [] [] all each = tt
  carried [] (m ∷ ms) all each = absurd all
  carried (l ∷ ls) [] all each = absurd all
  carried (l ∷ ls) (m ∷ ms) all each = (all.0 each.0, carried ls ms all.1 each.1)

  pushed : (ls : List Live) (l : Live) → IsNew t l → Each Reads ls → Each Reads (ls ++ l ∷ [])
  pushed ls l new each = each_push Reads ls l each
      (subst (λ (xs : List Entry). AreReadByApps (later xs)) (sym new.entries) tt)

abbrev ReadsIn : Scenario → HostLine → ℕ → At → Type 0
ReadsIn s l t site = SiteFlows (IsKilledOn s l.name) (Each Reads) site

start_reads : (s : Scenario) (lines : List HostLine) → Each (λ (l : HostLine). ReadsIn s l 0 (site_of s l)) lines
start_reads s [] = tt
start_reads s (l ∷ ls) = (
  record {
    scripts = scripts_know s l.name 0 s.apps (λ i. (let same : 0 + i ≡ i = omega arith in ap (slice_get s.apps) same));
    owns = none_named s.kills l.name 0 s.apps;
    flows = tt;
  },
  start_reads s ls,
)

reads_stay : (s : Scenario) → Stays s (ReadsIn s)
reads_stay s = record {
  start = start_reads s s.hosts;
  leads = leads_by s (ReadsIn s)
      (λ l p t. flows_keep s p (IsKilledOn s l.name) Reads (Each Reads) t (keeps_reads s l.name t) (reads_listed t))
      (λ l t b a goes before after. after);
}

flows_read : (ls : List Live) → Each Reads ls
    → Each (λ (f : Flow). AreReadByApps (later f.entries)) (flows_of ls)
flows_read [] each = tt
flows_read (l ∷ ls) each = (each.0, flows_read ls each.1)

pub apps_read : (s : Scenario) (log : RunLog) → Run s log
    → Each (λ (h : HostRun). Each (λ (f : Flow). AreReadByApps (later f.entries)) h.flows) log.hosts
apps_read s log run =
    each_host s log (ReadsIn s) (λ ticks h. Each (λ (f : Flow). AreReadByApps (later f.entries)) h.flows) run
    (reads_stay s) (λ t l site reads. flows_read site.host.flows reads.flows)
