-- What is known of each flow and each line of a run's log.
use Rattle.std.proofs.Common.{◌≡◌, ℕ, zero, suc, ◌+◌, ◌≤◌, ◌<◌, ◌^◌, ◌-◌, true, List, [], ◌∷◌, ◌++◌}
use Rattle.std.proofs.Common.{length, map}
use Rattle.std.proofs.Common.{Some, refl, subst, ap, arith, length-append}
use Rattle.std.specs.Prelude.{slice_get}
use Rattle.std.proofs.lemmas.Bool.{eq-eqb}
use Rattle.tas_model.specs.declared.entry.Call.{Call}
use Rattle.tas_model.specs.declared.entry.Call.TheVariants as calls
use Rattle.tas_model.specs.declared.entry.Entry.{Entry}
use Rattle.tas_model.specs.declared.entry.FourTuple.{FourTuple}
use Rattle.tas_model.specs.declared.entry.HostParams.{HostParams}
use Rattle.tas_model.specs.LegalHistory.{Legal}
use Rattle.host_rounds.specs.Lists.{Each}
use Rattle.host_rounds.specs.Logs.{Flow, HostRun}
use Rattle.host_rounds.specs.Histories.{IsSound}
use Rattle.host_rounds.specs.Hosts.{Live, Starts, flows_of}
use Rattle.host_rounds.specs.Openings.{Opening, AreOpened, openings_of}
use Rattle.tas_runs.specs.Report as report
use Rattle.scenario_text.specs.declared.scenario.HostLine.{HostLine}
use Rattle.scenario_runs.specs.Histories.{AreSound}
use Rattle.scenario_runs.specs.Worlds.{World}
use Rattle.scenario_runs.specs.Runs.{hosts_of}
use Rattle.scenario_laws.specs.Ends.{OfEachLine, HasOpened}
use Rattle.trace_audit.specs.Right.{has_addr, IsFromPeer}
use Rattle.audited_runs.specs.Told.{BeginsFromPeer, IsTold, AreTold}
use Rattle.audited_runs.proofs.Telling.{CallTold, LiveTold, LineTold}
use Rattle.audited_runs.proofs.Link.{AllTold}
use Rattle.audited_runs.proofs.Running.{addrs_in, params_in}

-- ----- flows and lines of a log
module _ (addrs : List ℕ) (p : HostParams) where
  pub record FlowTold (f : Flow) : Type 0 where
    pub params : f.params ≡ p
    pub own : f.tuple.laddr ≡ p.addr
    pub calls : Each (λ (x : Entry). CallTold addrs f.tuple x.call) f.entries

  pub record RunTold (h : HostRun) : Type 0 where
    pub addr : h.addr ≡ p.addr
    pub flows : Each FlowTold h.flows
    pub lines : Each (LineTold addrs p) h.log

  flows_too : (ls : List Live) → Each (LiveTold addrs p) ls → Each FlowTold (flows_of ls)
  flows_too [] told = tt
  flows_too (l ∷ ls) told =
      (record { params = told.0.params; own = told.0.own; calls = told.0.calls }, flows_too ls told.1)

-- Line by line, the hosts of the log have what is told.
abbrev pub LogTold : (addrs : List ℕ) → List HostLine → List HostRun → Type 0
LogTold addrs [] [] = Unit {0}
LogTold addrs (l ∷ ls) (h ∷ hs) = ((h.name ≡ l.name) × RunTold addrs l.params h) × LogTold addrs ls hs
LogTold addrs _ _ = ⊥

pub log_told : (addrs : List ℕ) (lines : List HostLine) (world : World) → AllTold addrs (params_in lines) world
    → LogTold addrs lines (hosts_of lines world)
log_told addrs [] [] told = tt
log_told addrs [] (site ∷ sites) told = absurd told
log_told addrs (l ∷ ls) [] told = absurd told
log_told addrs (l ∷ ls) (site ∷ sites) told = (
  (
    refl,
    record {
      addr = ap (λ (q : HostParams). q.addr) told.0.params;
      flows = flows_too addrs l.params site.host.flows told.0.flows;
      lines = told.0.lines;
    },
  ),
  log_told addrs ls sites told.1,
)

-- the names are those of the scenario
pub same_names : (addrs : List ℕ) (lines : List HostLine) (hosts : List HostRun) → LogTold addrs lines hosts
    → report.names_of hosts ≡ map (λ (l : HostLine). l.name) lines
same_names addrs [] [] told = refl
same_names addrs [] (h ∷ hs) told = absurd told
same_names addrs (l ∷ ls) [] told = absurd told
same_names addrs (l ∷ ls) (h ∷ hs) told = two h.name l.name _ _ told.0.0 (same_names addrs ls hs told.1) where
  two : (x y : List ℕ) (xs ys : List (List ℕ)) → x ≡ y → xs ≡ ys → ◌≡◌ {A = List (List ℕ)} (x ∷ xs) (y ∷ ys)
  two x y xs ys a b = rw (a, b) refl

-- ----- what an auditor wants
found_addr : (ps : List HostParams) (i addr : ℕ) → slice_get (addrs_in ps) i ≡ Some addr
    → has_addr (slice_get ps i) addr ≡ true
found_addr [] i addr e = absurd (cc (e))
found_addr (p ∷ ps) zero addr e = eq-eqb p.addr addr (cc (e))
found_addr (p ∷ ps) (suc i) addr e = found_addr ps i addr e

from_peer : (ps : List HostParams) (tuple : FourTuple) (call : Call) → CallTold (addrs_in ps) tuple call
    → IsFromPeer ps tuple call
from_peer ps tuple (calls.Passive frame iss seg) told = found_addr ps frame.host tuple.raddr told.host
from_peer ps tuple _ told = tt

begins_so : (ps : List HostParams) (tuple : FourTuple) (h : List Entry)
    → Each (λ (x : Entry). CallTold (addrs_in ps) tuple x.call) h → BeginsFromPeer ps tuple h
begins_so ps tuple [] told = tt
begins_so ps tuple (x ∷ xs) told = from_peer ps tuple x.call told.0

flows_told : (ps : List HostParams) (p : HostParams) (fs : List Flow) → Each (FlowTold (addrs_in ps) p) fs
    → Each IsSound fs → Each (IsTold ps p) fs
flows_told ps p [] told sound = tt
flows_told ps p (f ∷ fs) told sound = (
  record {
    params = told.0.params;
    own = told.0.own;
    legal = subst (λ (q : HostParams). Legal q f.entries) told.0.params sound.0.legal;
    peer = begins_so ps f.tuple f.entries told.0.calls;
  },
  flows_told ps p fs told.1 sound.1,
)

pub all_told : (ps : List HostParams) (lines : List HostLine) (hosts : List HostRun) → LogTold (addrs_in ps) lines hosts
    → AreSound hosts → AreTold ps (params_in lines) hosts
all_told ps [] [] told sound = tt
all_told ps [] (h ∷ hs) told sound = absurd told
all_told ps (l ∷ ls) [] told sound = absurd told
all_told ps (l ∷ ls) (h ∷ hs) told sound = (
  record { addr = told.0.1.addr; flows = flows_told ps l.params h.flows told.0.1.flows sound.0 },
  all_told ps ls hs told.1 sound.1,
)

-- ----- how many flows a host has
few_opened : (starts : Starts) (p : HostParams) (before os : List Opening) → length before ≤ 2 ^ 32 - 1
    → AreOpened starts p before os → length before + length os ≤ 2 ^ 32 - 1
few_opened starts p before [] few opened = omega (arith, few)
few_opened starts p before (o ∷ os) few opened =
    let one : length (before ++ o ∷ []) ≡ length before + 1 = length-append before (o ∷ []) in
    let less : length before < 2 ^ 32 - 1 = opened.0.few in
    let rest : length (before ++ o ∷ []) + length os ≤ 2 ^ 32 - 1 =
    few_opened starts p (before ++ o ∷ []) os (omega (arith, one, less)) opened.1 in omega (arith, one, rest)

same_count : (fs : List Flow) → length (openings_of fs) ≡ length fs
same_count [] = refl
same_count (f ∷ fs) = ap suc (same_count fs)

-- Each host has fewer than 2^32 flows.
abbrev pub AreFew : List HostRun → Type 0
AreFew hosts = Each (λ (h : HostRun). length h.flows < 2 ^ 32) hosts

pub few_flows : (lines : List HostLine) (hosts : List HostRun) → OfEachLine HasOpened lines hosts → AreFew hosts
few_flows [] [] opened = tt
few_flows [] (h ∷ hs) opened = absurd opened
few_flows (l ∷ ls) [] opened = absurd opened
few_flows (l ∷ ls) (h ∷ hs) opened =
    let count : length (openings_of h.flows) ≡ length h.flows = same_count h.flows in
    let most : 0 + length (openings_of h.flows) ≤ 2 ^ 32 - 1 = few_opened _ l.params [] (openings_of h.flows)
    (omega arith) opened.0 in (omega (arith, count, most), few_flows ls hs opened.1)
