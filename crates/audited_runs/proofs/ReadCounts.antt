-- What the application of a flow reads in a run are fewer than 2^64 bytes: it asks once a tick.
use Rattle.std.proofs.Common.{◌≡◌, ℕ, zero, suc, ◌+◌, ◌*◌, ◌≤◌, ◌<◌, ◌^◌, ◌==◌, ◌&&◌, Bool, true, false, List, []}
use Rattle.std.proofs.Common.{◌∷◌, ◌++◌, length, nat_lt, refl, sym, subst, ap, arith, length-append}
use Rattle.std.proofs.lemmas.Bool.{eq-eqb}
use Rattle.std.proofs.lemmas.Bool.Decides.{nat_tests}
use Rattle.tas_model.specs.declared.entry.HostParams.{HostParams}
use Rattle.tas_model.specs.declared.entry.Entry.{Entry}
use Rattle.tas_model.specs.declared.entry.Caller.{Caller}
use Rattle.tas_model.specs.declared.entry.Caller.TheVariants.{Slow, Core, App}
use Rattle.tas_model.specs.declared.entry.Call.{Call}
use Rattle.tas_model.specs.declared.entry.Call.TheVariants as calls
use Rattle.tas_model.specs.declared.entry.Reply.{Reply}
use Rattle.tas_model.specs.LegalHistory.{Legal, LegalAfter}
use Rattle.tas_model.specs.Outputs.{given_bytes, bytes_read}
use Rattle.tas_model.specs.Segments.{one_if}
use Rattle.host_rounds.specs.Lists.{Each}
use Rattle.host_rounds.specs.Logs.{Flow, HostRun, RunLog}
use Rattle.host_rounds.specs.Hosts.{Waiting}
use Rattle.host_rounds.specs.Histories.{IsSound}
use Rattle.scenario_text.specs.declared.scenario.Scenario.{Scenario}
use Rattle.scenario_runs.specs.Histories.{AreInRange, AreSound}
use Rattle.scenario_runs.specs.Runs.{Run}
use Rattle.scenario_runs.proofs.AllRuns.{runs_sound}
use Rattle.scenario_laws.specs.Counts.{is_by_app, calls_in, calls_of, calls_at}
use Rattle.scenario_laws.specs.Sockets.{AreByHolder}
use Rattle.scenario_laws.proofs.Counted.{one_call_a_tick}
use Rattle.scenario_laws.proofs.Own.{calls_by_holders}
use Rattle.log_ranges.specs.Ranges.{CallFits, EntryFits, FlowFits, HostFits}
use Rattle.audited_runs.proofs.Given.{IsNoRecv, others_give_none, AsksAtMost, gives_few}
use Rattle.audited_runs.proofs.Readers.{IsOfApp, AreOfApp, one_reader, ReadsByApp, later, AreReadByApps, apps_read}

-- ----- entries of an application
abbrev by_app : (app : ℕ) → List Entry → ℕ
by_app n [] = 0
by_app n (x ∷ xs) = one_if (is_by_app n x.caller) + by_app n xs

-- those before this tick
abbrev before_tick : (app tick : ℕ) → List Entry → ℕ
before_tick n t [] = 0
before_tick n t (x ∷ xs) = one_if (is_by_app n x.caller && nat_lt x.tick t) + before_tick n t xs

none_before : (n : ℕ) (xs : List Entry) → before_tick n 0 xs ≡ 0
none_before n [] = refl
none_before n (x ∷ xs) = one (is_by_app n x.caller) x.tick _ (none_before n xs) where
  one : (b : Bool) (tick rest : ℕ) → rest ≡ 0 → one_if (b && nat_lt tick 0) + rest ≡ 0
  one true tick rest e = grind (arith, nat_tests, e)
  one false tick rest e = omega (arith, e)

tick_more : (n t : ℕ) (xs : List Entry) → before_tick n (t + 1) xs ≡ before_tick n t xs + calls_in n t xs
tick_more n t [] = refl
tick_more n t (x ∷ xs) = one (is_by_app n x.caller) x.tick _ _ _ (tick_more n t xs) where
  one : (b : Bool) (tick more so_far now : ℕ) → more ≡ so_far + now
      → one_if (b && nat_lt tick (t + 1)) + more
      ≡ (one_if (b && nat_lt tick t) + so_far) + (one_if (b && tick == t) + now)
  one true tick more so_far now e = grind (arith, nat_tests, e)
  one false tick more so_far now e = omega (arith, e)

few_before : (n : ℕ) (xs : List Entry) → ((t : ℕ) → calls_in n t xs ≤ 1) → (t : ℕ) → before_tick n t xs ≤ t
few_before n xs one zero = (let none : before_tick n 0 xs ≡ 0 = none_before n xs in omega (arith, none))
few_before n xs one (suc t) =
    let more : before_tick n (t + 1) xs ≡ before_tick n t xs + calls_in n t xs = tick_more n t xs in
    let so_far : before_tick n t xs ≤ t = few_before n xs one t in
    let now : calls_in n t xs ≤ 1 = one t in
    let next : suc t ≡ t + 1 = omega arith in
    let same : before_tick n (suc t) xs ≡ before_tick n (t + 1) xs = ap (λ (k : ℕ). before_tick n k xs) next in
    omega (arith, more, so_far, now, same)

all_before : (n t : ℕ) (xs : List Entry) → Each (λ (x : Entry). x.tick < t) xs → before_tick n t xs ≡ by_app n xs
all_before n t [] low = refl
all_before n t (x ∷ xs) low = one (is_by_app n x.caller) x.tick _ _ low.0 (all_before n t xs low.1) where
  one : (b : Bool) (tick some all : ℕ) → tick < t → some ≡ all
      → one_if (b && nat_lt tick t) + some ≡ one_if b + all
  one true tick some all low e = grind (arith, nat_tests, low, e)
  one false tick some all low e = omega (arith, e)

-- ----- bytes
-- the entry gives bytes to this application alone, and fewer than 2^32
abbrev GivesTo : (app : ℕ) → Entry → Type 0
GivesTo n x = length (given_bytes x.reply) ≤ 4294967295 * one_if (is_by_app n x.caller)

asks_few : (call : Call) → CallFits call → AsksAtMost 4294967295 call
asks_few (calls.Recv most) fits = omega (arith, fits)
asks_few (calls.Connect iss) fits = tt
asks_few (calls.Passive frame iss seg) fits = tt
asks_few (calls.Rx frame seg) fits = tt
asks_few (calls.Send offered) fits = tt
asks_few calls.Emit fits = tt
asks_few calls.Tick fits = tt
asks_few calls.Control fits = tt
asks_few calls.Accept fits = tt
asks_few calls.Ready fits = tt
asks_few calls.Shut fits = tt
asks_few calls.Close fits = tt
asks_few calls.Abort fits = tt

gives_to : (n : ℕ) (by : Caller) (call : Call) (bytes : List ℕ) → IsOfApp n by → ReadsByApp by call
    → (IsNoRecv call → bytes ≡ []) → length bytes ≤ 4294967295
    → length bytes ≤ 4294967295 * one_if (is_by_app n by)
gives_to n Slow call bytes of reads none few =
    let no_byte : length bytes ≡ 0 = ap length (none reads) in omega (arith, no_byte)
gives_to n (Core k) call bytes of reads none few =
    let no_byte : length bytes ≡ 0 = ap length (none reads) in omega (arith, no_byte)
gives_to n (App m) call bytes of reads none few =
    subst (λ (b : Bool). length bytes ≤ 4294967295 * one_if b) (sym (eq-eqb m n of)) (omega (arith, few))

later_give : (params : HostParams) (n : ℕ) (earlier xs : List Entry) → LegalAfter params earlier xs → AreOfApp n xs
    → AreReadByApps xs → Each EntryFits xs → Each (GivesTo n) xs
later_give params n earlier [] legal of reads fits = tt
later_give params n earlier (x ∷ xs) legal of reads fits = (
  gives_to n x.caller x.call (given_bytes x.reply) of.0 reads.0 (others_give_none params earlier x legal.0)
      (gives_few params earlier x 4294967295 legal.0 (asks_few x.call fits.0.call)),
  later_give params n (earlier ++ x ∷ []) xs legal.1 of.1 reads.1 fits.1,
)

all_give : (params : HostParams) (n : ℕ) (h : List Entry) → Legal params h → AreOfApp n h → AreReadByApps (later h)
    → Each EntryFits h → Each (GivesTo n) h
all_give params n [] legal of reads fits = tt
all_give params n (x ∷ xs) legal of reads fits =
    let no_byte : length (given_bytes x.reply) ≡ 0 = ap (λ (r : Reply). length (given_bytes r)) legal.0.reply in
    (omega (arith, no_byte), later_give params n (x ∷ []) xs legal.1 of.1 reads fits.1)

read_by_app : (n : ℕ) (xs : List Entry) → Each (GivesTo n) xs → length (bytes_read xs) ≤ 4294967295 * by_app n xs
read_by_app n [] gives = omega arith
read_by_app n (x ∷ xs) gives =
    let both : length (bytes_read (x ∷ xs)) ≡ length (given_bytes x.reply) + length (bytes_read xs) =
    length-append (given_bytes x.reply) (bytes_read xs) in
    let one : length (given_bytes x.reply) ≤ 4294967295 * one_if (is_by_app n x.caller) = gives.0 in
    let rest : length (bytes_read xs) ≤ 4294967295 * by_app n xs = read_by_app n xs gives.1 in
    sum _ _ _ (one_if (is_by_app n x.caller)) (by_app n xs) both one rest
  where
    sum : (all first more a b : ℕ) → all ≡ first + more → first ≤ 4294967295 * a → more ≤ 4294967295 * b
        → all ≤ 4294967295 * (a + b)
    sum all first more a b e f m = omega (arith, e, f, m)

ticks_low : (xs : List Entry) → Each EntryFits xs → Each (λ (x : Entry). x.tick < 2 ^ 32) xs
ticks_low [] fits = tt
ticks_low (x ∷ xs) fits = (fits.0.tick, ticks_low xs fits.1)

-- ----- flows, hosts, and a run
abbrev IsOnce : List Entry → Type 0
IsOnce xs = (n t : ℕ) → calls_in n t xs ≤ 1

flow_few : (s : Scenario) (f : Flow) → Legal f.params f.entries → AreByHolder s Waiting f.entries
    → AreReadByApps (later f.entries) → IsOnce f.entries → Each EntryFits f.entries
    → length (bytes_read f.entries) < 2 ^ 64
flow_few s f legal holders reads once fits =
    let reader = one_reader s f.entries holders in
    let n : ℕ = reader.0 in
    let few : before_tick n (2 ^ 32) f.entries ≤ 2 ^ 32 = few_before n f.entries (once n) (2 ^ 32) in
    let all : before_tick n (2 ^ 32) f.entries ≡ by_app n f.entries =
    all_before n (2 ^ 32) f.entries (ticks_low f.entries fits) in
    let read : length (bytes_read f.entries) ≤ 4294967295 * by_app n f.entries =
    read_by_app n f.entries (all_give f.params n f.entries legal reader.1 reads fits) in
    omega (arith, few, all, read)

-- Each flow's application read fewer than 2^64 bytes.
abbrev pub FewRead : HostRun → Type 0
FewRead h = Each (λ (f : Flow). length (bytes_read f.entries) < 2 ^ 64) h.flows

flows_few : (s : Scenario) (fs : List Flow) → Each IsSound fs
    → Each (λ (f : Flow). AreByHolder s Waiting f.entries) fs
    → Each (λ (f : Flow). AreReadByApps (later f.entries)) fs → ((n t : ℕ) → calls_of n t fs ≤ 1)
    → Each FlowFits fs → Each (λ (f : Flow). length (bytes_read f.entries) < 2 ^ 64) fs
flows_few s [] sound holders reads once fits = tt
flows_few s (f ∷ fs) sound holders reads once fits = (
  flow_few s f sound.0.legal holders.0 reads.0
      (λ n t. (let both : calls_in n t f.entries + calls_of n t fs ≤ 1 = once n t in omega (arith, both)))
      fits.0.entries,
  flows_few s fs sound.1 holders.1 reads.1
      (λ n t. (let both : calls_in n t f.entries + calls_of n t fs ≤ 1 = once n t in omega (arith, both))) fits.1,
)

hosts_few : (s : Scenario) (hs : List HostRun) → AreSound hs
    → Each (λ (h : HostRun). Each (λ (f : Flow). AreByHolder s Waiting f.entries) h.flows) hs
    → Each (λ (h : HostRun). Each (λ (f : Flow). AreReadByApps (later f.entries)) h.flows) hs
    → ((n t : ℕ) → Each (λ (h : HostRun). calls_at n t h ≤ 1) hs) → Each HostFits hs → Each FewRead hs
hosts_few s [] sound holders reads once fits = tt
hosts_few s (h ∷ hs) sound holders reads once fits = (
  flows_few s h.flows sound.0 holders.0 reads.0
      (λ n t. (let both : calls_at n t h ≤ 1 = (once n t).0 in omega (arith, both))) fits.0.flows,
  hosts_few s hs sound.1 holders.1 reads.1 (λ n t. (once n t).1) fits.1,
)

pub few_read : (s : Scenario) (log : RunLog) → AreInRange s.hosts → Run s log → Each HostFits log.hosts
    → Each FewRead log.hosts
few_read s log range run fits =
    hosts_few s log.hosts (runs_sound s log range run) (calls_by_holders s log run) (apps_read s log run)
    (λ n t. one_call_a_tick s log n t run) fits
