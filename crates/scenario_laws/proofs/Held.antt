-- Of each flow that an application had before the tick of its kill the log shows one Abort by the slow path, of this
-- tick.
use Rattle.std.proofs.Common.{◌≡◌, ℕ, ◌+◌, ◌≤◌, ◌<◌, Bool, true, false, List, [], ◌∷◌, ◌++◌, length, nat_lt}
use Rattle.std.proofs.Common.{Some, refl, sym, subst, ap, ◌∙◌, arith, tests, length-append}
use Rattle.tas_model.specs.declared.entry.HostParams.{HostParams}
use Rattle.tas_model.specs.declared.entry.Entry.{Entry}
use Rattle.tas_model.specs.declared.entry.Caller.{Caller}
use Rattle.tas_model.specs.declared.entry.Caller.TheVariants.{Slow, Core, App}
use Rattle.tas_model.specs.declared.entry.Call.{Call}
use Rattle.tas_model.specs.declared.entry.Call.TheVariants as calls
use Rattle.tas_model.specs.LegalHistory.{last_tick, Legal, LegalAfter}
use Rattle.host_rounds.specs.Lists.{Each}
use Rattle.host_rounds.specs.Logs.{Flow, HostRun, RunLog}
use Rattle.host_rounds.specs.Hosts.{Live, Holder, Waiting, Application, flows_of}
use Rattle.scenario_text.specs.declared.scenario.Scenario.{Scenario}
use Rattle.scenario_runs.specs.Worlds.{kill_tick}
use Rattle.scenario_runs.specs.Runs.{Run}
use Rattle.scenario_laws.specs.Kills.{IsKilled, CalledBefore, is_abort_by_slow, abort_ticks, AbortsByKill}
use Rattle.scenario_laws.specs.Sockets.{holder_after, holder_in, MayAbort, MayEnter, AreByHolder, entries_before}
use Rattle.scenario_laws.proofs.Aborted.{aborts_append}
use Rattle.scenario_laws.proofs.AllTicks.{hosts_legal}
use Rattle.scenario_laws.proofs.AllKept.{both_stay, each_host, each_two}
use Rattle.scenario_laws.proofs.Sockets.{not_waiting}
use Rattle.scenario_laws.proofs.Silent.{killed_is_silent}
use Rattle.scenario_laws.proofs.Kills.{hosts_once}
use Rattle.scenario_laws.proofs.Own.{in_append, OwnFlow, OwnIn, own_stays, calls_by_holders}
use Rattle.scenario_laws.proofs.Gone.{IsNotOf, GoneAfter, gone_stays, all_past}

-- ----- ticks rise
abbrev Rising : (low : ℕ) → List Entry → Type 0
Rising low [] = Unit {0}
Rising low (x ∷ xs) = (low ≤ x.tick) × Rising x.tick xs

last_push : (t : ℕ) (h : List Entry) (x : Entry) → last_tick t (h ++ x ∷ []) ≡ x.tick
last_push t [] x = refl
last_push t (y ∷ h) x = last_push y.tick h x

after_rises : (p : HostParams) (earlier xs : List Entry) → LegalAfter p earlier xs → Rising (last_tick 0 earlier) xs
after_rises p earlier [] legal = tt
after_rises p earlier (x ∷ xs) legal = (
  legal.0.tick,
  subst (λ (t : ℕ). Rising t xs) (last_push 0 earlier x) (after_rises p (earlier ++ x ∷ []) xs legal.1),
)

legal_rises : (p : HostParams) (h : List Entry) → Legal p h → Rising 0 h
legal_rises p [] legal = tt
legal_rises p (x ∷ xs) legal = (omega arith, after_rises p (x ∷ []) xs legal.1)

-- ----- before a tick, and from it on
entries_from : (tick : ℕ) → List Entry → List Entry
entries_from t [] = []
entries_from t (x ∷ xs) = elim (nat_lt x.tick t) [ true ↦ entries_from t xs | false ↦ x ∷ xs ]

abbrev AllFrom : (tick : ℕ) → List Entry → Type 0
AllFrom t xs = Each (λ (x : Entry). t ≤ x.tick) xs

parted : (t : ℕ) (h : List Entry) → h ≡ entries_before t h ++ entries_from t h
unfolding entries_from
parted t [] = refl
parted t (x ∷ xs) = by_test (nat_lt x.tick t) (parted t xs) where
  by_test : (b : Bool) → xs ≡ entries_before t xs ++ entries_from t xs
      → x ∷ xs ≡ elim b [ true ↦ x ∷ entries_before t xs | false ↦ [] ]
      ++ elim b [ true ↦ entries_from t xs | false ↦ x ∷ xs ]
  by_test true rest = ap (λ (ys : List Entry). x ∷ ys) rest
  by_test false rest = refl

all_late : (t low : ℕ) (xs : List Entry) → t ≤ low → Rising low xs → AllFrom t xs
all_late t low [] h rising = tt
all_late t low (x ∷ xs) h rising =
    let here : low ≤ x.tick = rising.0 in (omega arith, all_late t x.tick xs (omega arith) rising.1)

from_late : (t low : ℕ) (h : List Entry) → Rising low h → AllFrom t (entries_from t h)
unfolding entries_from
from_late t low [] rising = tt
from_late t low (x ∷ xs) rising = by_test (nat_lt x.tick t) refl (from_late t x.tick xs rising.1) where
  by_test : (b : Bool) → nat_lt x.tick t ≡ b → AllFrom t (entries_from t xs)
      → AllFrom t (elim b [ true ↦ entries_from t xs | false ↦ x ∷ xs ])
  by_test true e rest = rest
  by_test false e rest = let late : t ≤ x.tick = grind (arith, tests, e) in (late, all_late t x.tick xs late rising.1)

-- ----- from the tick of the kill on
data After (n at : ℕ) (holder : Holder) (xs : List Entry) : Type 0 where
  Kept : holder_in holder xs ≡ Application n → After n at holder xs
  Ended : (more : List ℕ) → abort_ticks xs ≡ at ∷ more → After n at holder xs

one_kill : (s : Scenario) (n k at : ℕ) → IsKilled s n k → IsKilled s n at → k ≡ at
one_kill s n k at a b =
    let same : a.app ≡ b.app = cc (sym a.line ∙ b.line) in
    let ticks : Some k ≡ Some at = sym a.kill ∙ ap (kill_tick s.kills) same ∙ b.kill in
    cc (ticks)

same_app : (m n : ℕ) → Application m ≡ Application n → App m ≡ App n
same_app m n h = let same : m ≡ n = cc (h) in ap App same

-- the same of entries whose first is by this caller, with this call in this tick
data AfterEntry (n at : ℕ) (holder : Holder) (t : ℕ) (by : Caller) (call : Call) (xs : List Entry) : Type 0 where
  KeptThen : holder_in (holder_after holder by call) xs ≡ Application n → AfterEntry n at holder t by call xs
  EndedThen : (more : List ℕ)
      → elim (is_abort_by_slow by call) [ true ↦ t ∷ abort_ticks xs | false ↦ abort_ticks xs ] ≡ at ∷ more
      → AfterEntry n at holder t by call xs

still : (n at : ℕ) (holder : Holder) (t : ℕ) (by : Caller) (call : Call) (xs : List Entry)
    → holder_after holder by call ≡ holder → is_abort_by_slow by call ≡ false → After n at holder xs
    → AfterEntry n at holder t by call xs
still n at holder t by call xs same none (Kept h) = KeptThen (ap (λ (next : Holder). holder_in next xs) same ∙ h)
still n at holder t by call xs same none (Ended more h) =
    EndedThen more (ap (λ (b : Bool). elim b [ true ↦ t ∷ abort_ticks xs | false ↦ abort_ticks xs ]) none ∙ h)

after_entry : (s : Scenario) (n at : ℕ) (holder : Holder) (t : ℕ) (by : Caller) (call : Call) (xs : List Entry)
    → IsKilled s n at → holder ≡ Application n → MayEnter s holder t by call → (by ≡ App n → ⊥)
    → ((next : Holder) → next ≡ Application n → AreByHolder s next xs → After n at next xs)
    → AreByHolder s (holder_after holder by call) xs → AfterEntry n at holder t by call xs
after_entry s n at holder t (App m) (calls.Connect iss) xs killed mine may other later are =
    absurd (not_waiting n (sym may ∙ mine))
after_entry s n at holder t (App m) calls.Accept xs killed mine may other later are =
    absurd (not_waiting n (sym may ∙ mine))
after_entry s n at holder t (App m) call xs killed mine may other later are =
    absurd (other (same_app m n (sym may ∙ mine)))
after_entry s n at holder t Slow calls.Abort xs killed mine may other later are =
    EndedThen (abort_ticks xs) (ap (λ (k : ℕ). k ∷ abort_ticks xs)
    (one_kill s n t at (subst (λ (h : Holder). MayAbort s h t) mine may) killed))
after_entry s n at holder t Slow call xs killed mine may other later are =
    still n at holder t Slow call xs refl refl (later holder mine are)
after_entry s n at holder t (Core k) call xs killed mine may other later are =
    still n at holder t (Core k) call xs refl refl (later holder mine are)

after_kill : (s : Scenario) (n at : ℕ) → IsKilled s n at → (xs : List Entry) (holder : Holder) → holder ≡ Application n
    → AreByHolder s holder xs → CalledBefore n at xs → AllFrom at xs → After n at holder xs
after_kill s n at killed [] holder mine are called late = Kept mine
after_kill s n at killed (x ∷ xs) holder mine are called late =
    joined (after_entry s n at holder x.tick x.caller x.call xs killed mine are.0 (λ same. too_late (called.0 same))
    (λ next its by. after_kill s n at killed xs next its by called.1 late.1) are.1)
  where
    too_late : x.tick < at → ⊥
    too_late h = let here : at ≤ x.tick = late.0 in omega arith

    joined : AfterEntry n at holder x.tick x.caller x.call xs → After n at holder (x ∷ xs)
    joined (KeptThen h) = Kept h
    joined (EndedThen more h) = Ended more h

-- ----- the whole history
split_holder : (s : Scenario) (holder : Holder) (h more : List Entry) → AreByHolder s holder (h ++ more)
    → AreByHolder s (holder_in holder h) more
split_holder s holder [] more are = are
split_holder s holder (x ∷ h) more are = split_holder s (holder_after holder x.caller x.call) h more are.1

split_called : (n at : ℕ) (h more : List Entry) → CalledBefore n at (h ++ more) → CalledBefore n at more
split_called n at [] more called = called
split_called n at (x ∷ h) more called = split_called n at h more called.1

only_one : (xs ys : List ℕ) (k : ℕ) → length (xs ++ k ∷ ys) ≤ 1 → xs ++ k ∷ ys ≡ k ∷ []
only_one [] [] k h = refl
only_one [] (y ∷ ys) k h = absurd (too_long h) where
  too_long : length (k ∷ y ∷ ys) ≤ 1 → ⊥
  too_long g = omega arith
only_one (x ∷ xs) ys k h = absurd (too_long h (length-append xs (k ∷ ys))) where
  too_long : length (x ∷ (xs ++ k ∷ ys)) ≤ 1 → length (xs ++ k ∷ ys) ≡ length xs + length (k ∷ ys) → ⊥
  too_long g same = omega arith

aborted_once : (s : Scenario) (n at : ℕ) (p : HostParams) (h : List Entry) → IsKilled s n at
    → AreByHolder s Waiting h → CalledBefore n at h → length (abort_ticks h) ≤ 1
    → (holder_in Waiting h ≡ Application n → ⊥) → Legal p h
    → holder_in Waiting (entries_before at h) ≡ Application n → abort_ticks h ≡ at ∷ []
aborted_once s n at p h killed are called once gone legal mine =
    by_after (after_kill s n at killed rest (holder_in Waiting front) mine
    (split_holder s Waiting front rest (subst (AreByHolder s Waiting) (parted at h) are))
    (split_called n at front rest (subst (CalledBefore n at) (parted at h) called))
    (from_late at 0 h (legal_rises p h legal)))
  where
    front : List Entry
    front = entries_before at h

    rest : List Entry
    rest = entries_from at h

    by_after : After n at (holder_in Waiting front) rest → abort_ticks h ≡ at ∷ []
    by_after (Kept e) = absurd (gone (ap (holder_in Waiting) (parted at h) ∙ in_append Waiting front rest ∙ e))
    by_after (Ended more e) =
        let all : abort_ticks h ≡ abort_ticks front ++ at ∷ more =
        ap abort_ticks (parted at h)
        ∙ aborts_append front rest
        ∙ ap (λ (ticks : List ℕ). abort_ticks front ++ ticks) e in
        all
        ∙ only_one (abort_ticks front) more at
        (subst (λ (ticks : List ℕ). length ticks ≤ 1) all once)

-- ----- logs
abbrev IsLeft : (n : ℕ) → Flow → Type 0
IsLeft n f = holder_in Waiting f.entries ≡ Application n → ⊥

flows_left : (s : Scenario) (n t : ℕ) (ls : List Live) → Each (OwnFlow s t) ls → Each (IsNotOf n) ls
    → Each (IsLeft n) (flows_of ls)
flows_left s n t [] own gone = tt
flows_left s n t (l ∷ ls) own gone =
    ((λ h. gone.0 (own.0.holder ∙ h)), flows_left s n t ls own.1 gone.1)

hosts_left : (s : Scenario) (log : RunLog) (n at : ℕ) → IsKilled s n at → Run s log
    → Each (λ (h : HostRun). at < log.ticks → Each (IsLeft n) h.flows) log.hosts
hosts_left s log n at killed run =
    each_host s log (λ l t site. OwnIn s l t site × GoneAfter n at t site)
    (λ ticks h. at < ticks → Each (IsLeft n) h.flows) run
    (both_stay s (OwnIn s) (λ l t site. GoneAfter n at t site) (own_stays s) (gone_stays s n at killed))
    (λ t l site both past. flows_left s n t site.host.flows both.0.flows
    (both.1.gone (all_past n at t site.scripts past)).flows)

given : {P : Type 0} (Q : HostRun → Type 0) → P → (hs : List HostRun) → Each (λ (h : HostRun). P → Q h) hs → Each Q hs
given Q p [] each = tt
given Q p (h ∷ hs) each = (each.0 p, given Q p hs each.1)

pub none_is_left : (s : Scenario) (log : RunLog) (n at : ℕ) → IsKilled s n at → at < log.ticks → Run s log
    → Each (λ (h : HostRun). Each (λ (f : Flow). holder_in Waiting f.entries ≡ Application n → ⊥) h.flows) log.hosts
none_is_left s log n at killed past run =
    given (λ (h : HostRun). Each (IsLeft n) h.flows) past log.hosts (hosts_left s log n at killed run)

-- a fact of each flow of each host
abbrev OfFlows : (HostRun → Flow → Type 0) → List HostRun → Type 0
OfFlows P hs = Each (λ (h : HostRun). Each (P h) h.flows) hs

flows_two : (P Q R : HostRun → Flow → Type 0) → ((h : HostRun) (f : Flow) → P h f → Q h f → R h f)
    → (hs : List HostRun) → OfFlows P hs → OfFlows Q hs → OfFlows R hs
flows_two P Q R both hs p q =
    each_two (λ (h : HostRun). Each (P h) h.flows) (λ (h : HostRun). Each (Q h) h.flows)
    (λ (h : HostRun). Each (R h) h.flows) (λ h x y. each_two (P h) (Q h) (R h) (both h) h.flows x y) hs p q

pub held_are_aborted : (s : Scenario) (log : RunLog) (n at : ℕ) → IsKilled s n at → at < log.ticks → Run s log
    → Each (λ (h : HostRun). Each (λ (f : Flow).
    holder_in Waiting (entries_before at f.entries) ≡ Application n → abort_ticks f.entries ≡ at ∷ []) h.flows)
    log.hosts
held_are_aborted s log n at killed past run =
    flows_two Third Fourth Last (λ h f x y mine. aborted_once s n at f.params f.entries killed x.0 x.1 x.2 y.0 y.1 mine)
    log.hosts
    (flows_two First (λ h f. AbortsByKill s h.name f) Third (λ h f x y. (x.0, x.1, y.once)) log.hosts
    (flows_two (λ h f. AreByHolder s Waiting f.entries) (λ h f. CalledBefore n at f.entries) First
    (λ h f x y. (x, y)) log.hosts (calls_by_holders s log run) (killed_is_silent s log n at killed run))
    (hosts_once s log run))
    (flows_two (λ h f. IsLeft n f) (λ h f. Legal f.params f.entries) Fourth (λ h f x y. (x, y)) log.hosts
    (none_is_left s log n at killed past run) (hosts_legal s log run))
  where
    First : HostRun → Flow → Type 0
    First h f = AreByHolder s Waiting f.entries × CalledBefore n at f.entries

    Third : HostRun → Flow → Type 0
    Third h f = AreByHolder s Waiting f.entries × CalledBefore n at f.entries × (length (abort_ticks f.entries) ≤ 1)

    Fourth : HostRun → Flow → Type 0
    Fourth h f = IsLeft n f × Legal f.params f.entries

    Last : HostRun → Flow → Type 0
    Last h f = holder_in Waiting (entries_before at f.entries) ≡ Application n → abort_ticks f.entries ≡ at ∷ []
