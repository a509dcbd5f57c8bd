-- An application makes at most one call in a tick.
use Rattle.std.proofs.Common.{◌≡◌, ℕ, zero, suc, ◌+◌, ◌≤◌, ◌<◌, ◌==◌, ◌&&◌, Bool, true, false, List, [], ◌∷◌, ◌++◌}
use Rattle.std.proofs.Common.{map, fold, max, Option, Some, None, refl, sym, subst, ap, ◌∙◌, arith}
use Rattle.std.proofs.Common.{tests}
use Rattle.std.specs.List.{find}
use Rattle.tas_model.specs.declared.entry.HostParams.{HostParams}
use Rattle.tas_model.specs.declared.entry.FourTuple.{FourTuple}
use Rattle.tas_model.specs.declared.entry.Entry.{Entry}
use Rattle.tas_model.specs.declared.entry.Caller.{Caller}
use Rattle.tas_model.specs.declared.entry.Caller.TheVariants.{Slow, Core, App}
use Rattle.tas_model.specs.declared.entry.Call.{Call}
use Rattle.tas_model.specs.declared.entry.Call.TheVariants as calls
use Rattle.tas_model.specs.Segments.{one_if}
use Rattle.tas_model.specs.LegalHistory.{last_tick}
use Rattle.host_rounds.specs.declared.opening.Start.{Start}
use Rattle.host_rounds.specs.declared.log.LogLine.{LogLine}
use Rattle.host_rounds.specs.declared.log.LogEvent.{LogEvent}
use Rattle.host_rounds.specs.declared.log.LogEvent.TheVariants as events
use Rattle.host_rounds.specs.Lists.{Each, change_at}
use Rattle.host_rounds.specs.Logs.{HostRun, RunLog}
use Rattle.host_rounds.specs.Hosts.{Live, Host, Holder, Waiting, Application, GivenUp, Starts, with_call, flows_of}
use Rattle.host_rounds.specs.Hosts.{new_flow, opened_in, first_entry, next_start}
use Rattle.host_rounds.specs.Upkeep.{all_swept, swept, timed, emits}
use Rattle.host_rounds.specs.Deliveries.{Arrival}
use Rattle.host_rounds.specs.Passing.{IsUpTo}
use Rattle.host_rounds.specs.Rounds.{Timer, Frame, Ask, Emission, Action, Deed, IsWorker, does, done_by, on_host}
use Rattle.host_rounds.specs.Rounds.{OfScript, is_by, actions_of, Round}
use Rattle.host_rounds.proofs.AllLegal.{each_map, each_at, each_push}
use Rattle.scenario_text.specs.declared.scenario.Step.{Step}
use Rattle.scenario_text.specs.declared.scenario.Scenario.{Scenario}
use Rattle.scenario_text.specs.declared.scenario.HostLine.{HostLine}
use Rattle.scenario_runs.specs.Applications.{Script, Turn, is_concerned, aborted_where, is_killed_at, goes_on}
use Rattle.scenario_runs.specs.Applications.{turn_where}
use Rattle.scenario_runs.specs.Worlds.{starts_of, address_in, asked_of, scripts_of, site_of}
use Rattle.scenario_runs.specs.Runs.{Run}
use Rattle.scenario_laws.specs.Counts.{is_by_app, calls_in, calls_of, is_told, told_in, calls_at}
use Rattle.scenario_laws.specs.Turns.{turn_on}
use Rattle.scenario_laws.proofs.Acts.{Act, Rests, Calls, Accepts, Connects, GivesUp, Notes, Listens, leaves, step_acts}
use Rattle.scenario_laws.proofs.Acts.{NotesOwn, IsLineOf}
use Rattle.scenario_laws.proofs.AllTurned.{NumbersRise, turns_in, turns_filter, timers_pass, frames_pass}
use Rattle.scenario_laws.proofs.AllTurned.{later_none, asks_of, found_number}
use Rattle.scenario_laws.proofs.Deeds.{At, IsWorkerEntry, call_low, WorkKeeps, packet_keeps}
use Rattle.scenario_laws.proofs.Deeds.{AreByWorkers, AllWorked, at_worked, map_worked, timed_worked, emits_worked}
use Rattle.scenario_laws.proofs.Deeds.{swept_worked, IsFrameLine, opened_for}
use Rattle.scenario_laws.proofs.AllKept.{Leads, each_host}

-- ----- counts
abbrev calls_live : (n u : ℕ) → List Live → ℕ
calls_live n u [] = 0
calls_live n u (l ∷ ls) = calls_in n u l.flow.entries + calls_live n u ls

abbrev count : (n u : ℕ) → Host → ℕ
count n u host = calls_live n u host.flows + told_in n u host.log

flows_count : (n u : ℕ) (ls : List Live) → calls_of n u (flows_of ls) ≡ calls_live n u ls
flows_count n u [] = refl
flows_count n u (l ∷ ls) = ap (λ (k : ℕ). calls_in n u l.flow.entries + k) (flows_count n u ls)

calls_append : (n u : ℕ) (xs ys : List Entry) → calls_in n u (xs ++ ys) ≡ calls_in n u xs + calls_in n u ys
calls_append n u [] ys = omega arith
calls_append n u (x ∷ xs) ys =
    let rest : calls_in n u (xs ++ ys) ≡ calls_in n u xs + calls_in n u ys = calls_append n u xs ys in omega arith

live_push : (n u : ℕ) (ls : List Live) (l : Live)
    → calls_live n u (ls ++ l ∷ []) ≡ calls_live n u ls + calls_in n u l.flow.entries
live_push n u [] l = omega arith
live_push n u (m ∷ ls) l =
    let rest : calls_live n u (ls ++ l ∷ []) ≡ calls_live n u ls + calls_in n u l.flow.entries = live_push n u ls l in
    omega arith

opened_count : (n u : ℕ) (host : Host) (slot : ℕ) (tuple : FourTuple) (scale : Option ℕ) (holder : Holder) (x : Entry)
    → calls_live n u (opened_in host slot tuple scale holder x).flows
    ≡ calls_live n u host.flows + one_if (is_by_app n x.caller && x.tick == u)
opened_count n u host slot tuple scale holder x =
    live_push n u host.flows (new_flow host slot tuple scale holder x) ∙ (omega arith)

told_push : (n u : ℕ) (ls : List LogLine) (l : LogLine)
    → told_in n u (ls ++ l ∷ []) ≡ told_in n u ls + one_if (is_told n l.event && l.tick == u)
told_push n u [] l = omega arith
told_push n u (m ∷ ls) l =
    let rest : told_in n u (ls ++ l ∷ []) ≡ told_in n u ls + one_if (is_told n l.event && l.tick == u) =
    told_push n u ls l in omega arith

-- ----- what workers add
not_app : (n : ℕ) (by : Caller) → IsWorker by → is_by_app n by ≡ false
not_app n Slow worker = refl
not_app n (Core k) worker = refl
not_app n (App k) worker = absurd worker

worker_none : (n u : ℕ) (by : Caller) (t : ℕ) → IsWorker by → one_if (is_by_app n by && t == u) ≡ 0
worker_none n u by t worker = ap (λ (b : Bool). one_if (b && t == u)) (not_app n by worker)

workers_none : (n u : ℕ) (xs : List Entry) → Each IsWorkerEntry xs → calls_in n u xs ≡ 0
workers_none n u [] each = refl
workers_none n u (x ∷ xs) each =
    let here : one_if (is_by_app n x.caller && x.tick == u) ≡ 0 = worker_none n u x.caller x.tick each.0.by in
    let rest : calls_in n u xs ≡ 0 = workers_none n u xs each.1 in omega arith

worked_same : (n u t : ℕ) (ls ms : List Live) → AllWorked t ls ms → calls_live n u ms ≡ calls_live n u ls
worked_same n u t [] [] all = refl
worked_same n u t [] (m ∷ ms) all = absurd all
worked_same n u t (l ∷ ls) [] all = absurd all
worked_same n u t (l ∷ ls) (m ∷ ms) all =
    let more : List Entry = all.0.more in
    let a : calls_in n u m.flow.entries ≡ calls_in n u l.flow.entries + calls_in n u more =
    ap (calls_in n u) all.0.entries ∙ calls_append n u l.flow.entries more in
    let b : calls_in n u more ≡ 0 = workers_none n u more all.0.each in
    let c : calls_live n u ms ≡ calls_live n u ls = worked_same n u t ls ms all.1 in omega arith

worked_low : (t : ℕ) (ls ms : List Live) → AllWorked t ls ms → Each (IsUpTo t) ls → Each (IsUpTo t) ms
worked_low t [] [] all low = tt
worked_low t [] (m ∷ ms) all low = absurd all
worked_low t (l ∷ ls) [] all low = absurd all
worked_low t (l ∷ ls) (m ∷ ms) all low = (all.0.low low.0, worked_low t ls ms all.1 low.1)

-- no entry is of a later tick, and the count is so far below the bound
record Counts (n u t bound : ℕ) (host : Host) : Type 0 where
  low : Each (IsUpTo t) host.flows
  most : count n u host ≤ bound

frame_line : (n : ℕ) (event : LogEvent) → IsFrameLine event → is_told n event ≡ false
frame_line n (events.Stray frame tuple seg answer) kind = refl
frame_line n (events.Dropped frame backlog) kind = refl
frame_line n (events.Refused frame rule) kind = refl
frame_line n (events.Listen app port ok) kind = absurd kind
frame_line n (events.AcceptNotYet app port) kind = absurd kind
frame_line n (events.ConnectRefused app raddr rport no_port) kind = absurd kind

work_counts : (n u t most : ℕ) → WorkKeeps t (λ site. Counts n u t most site.host)
work_counts n u t most = record {
  flows = λ site ms worked i.
      let same : calls_live n u ms ≡ calls_live n u site.host.flows = worked_same n u t site.host.flows ms worked in
      let before : calls_live n u site.host.flows + told_in n u site.host.log ≤ most = i.most in
      record { low = worked_low t site.host.flows ms worked i.low; most = omega arith };
  line = λ site event kind i.
      let added : told_in n u (site.host.log ++ (record { tick = t; event = event }) ∷ [])
      ≡ told_in n u site.host.log + one_if (is_told n event && t == u) =
      told_push n u site.host.log (record { tick = t; event = event }) in
      let none : one_if (is_told n event && t == u) ≡ 0 =
      ap (λ (b : Bool). one_if (b && t == u)) (frame_line n event kind) in
      let before : calls_live n u site.host.flows + told_in n u site.host.log ≤ most = i.most in
      record { low = i.low; most = omega arith };
  syn = λ site slot start frame tuple seg listening i.
      let same : calls_live n u (opened_for slot start t site.host frame tuple seg).flows
      ≡ calls_live n u site.host.flows + 0 =
      opened_count n u site.host slot tuple start.scale Waiting
      (first_entry Slow t (calls.Passive frame start.number seg)) in
      let before : calls_live n u site.host.flows + told_in n u site.host.log ≤ most = i.most in
      record { low = each_push (IsUpTo t) site.host.flows _ i.low (omega arith); most = omega arith };
}

-- ----- what a turn adds
-- one where it is a turn of the application and the tick is that one
abbrev added : (n u t k : ℕ) → ℕ
added n u t k = one_if (k == n && t == u)

call_adds : (n u t k : ℕ) (call : Call) (offer : List ℕ) (l : Live) → IsUpTo t l
    → calls_in n u (with_call l (App k) t call offer).flow.entries ≡ calls_in n u l.flow.entries + added n u t k
call_adds n u t k call offer l low =
    let last : last_tick 0 l.flow.entries ≤ t = low in
    let now : max t (last_tick 0 l.flow.entries) ≡ t = omega arith in
    let one : one_if (k == n && max t (last_tick 0 l.flow.entries) == u) ≡ one_if (k == n && t == u) =
    ap (λ (v : ℕ). one_if (k == n && v == u)) now in
    calls_append n u l.flow.entries _ ∙ (omega arith)

at_adds : (n u t k flow : ℕ) (call : Call) (offer : List ℕ) (ls : List Live) → Each (IsUpTo t) ls
    → calls_live n u (change_at flow (λ (l : Live). with_call l (App k) t call offer) ls)
    ≤ calls_live n u ls + added n u t k
at_adds n u t k flow call offer [] low = omega arith
at_adds n u t k zero call offer (l ∷ ls) low =
    let here : calls_in n u (with_call l (App k) t call offer).flow.entries
    ≡ calls_in n u l.flow.entries + added n u t k = call_adds n u t k call offer l low.0 in omega arith
at_adds n u t k (suc flow) call offer (l ∷ ls) low =
    let rest : calls_live n u (change_at flow (λ (l : Live). with_call l (App k) t call offer) ls)
    ≤ calls_live n u ls + added n u t k = at_adds n u t k flow call offer ls low.1 in omega arith

held_same : (n u flow : ℕ) (holder : Holder) (ls : List Live)
    → calls_live n u (change_at flow (λ (l : Live). record l { holder = holder }) ls) ≡ calls_live n u ls
held_same n u flow holder [] = refl
held_same n u zero holder (l ∷ ls) = refl
held_same n u (suc flow) holder (l ∷ ls) =
    ap (λ (k : ℕ). calls_in n u l.flow.entries + k) (held_same n u flow holder ls)

line_adds : (n u t k : ℕ) (event : LogEvent) → IsLineOf k event → one_if (is_told n event && t == u) ≡ added n u t k
line_adds n u t k (events.Listen app port ok) own = ap (λ (a : ℕ). one_if (a == n && t == u)) own
line_adds n u t k (events.AcceptNotYet app port) own = ap (λ (a : ℕ). one_if (a == n && t == u)) own
line_adds n u t k (events.ConnectRefused app raddr rport no_port) own = ap (λ (a : ℕ). one_if (a == n && t == u)) own
line_adds n u t k (events.Stray frame tuple seg answer) own = absurd own
line_adds n u t k (events.Dropped frame backlog) own = absurd own
line_adds n u t k (events.Refused frame rule) own = absurd own

called_low : (t k flow : ℕ) (call : Call) (offer : List ℕ) (ls : List Live) → Each (IsUpTo t) ls
    → Each (IsUpTo t) (change_at flow (λ (l : Live). with_call l (App k) t call offer) ls)
called_low t k flow call offer ls low =
    each_at (IsUpTo t) flow _ (λ l one. call_low (App k) t call offer l one) ls low

act_counts : (n u t most k : ℕ) (starts : Starts) (host : Host) (act : Act) → NotesOwn k act
    → Counts n u t most host → Counts n u t (most + added n u t k) (leaves starts t k host act)
act_counts n u t most k starts host Rests own i =
    let before : count n u host ≤ most = i.most in record { low = i.low; most = omega arith }
act_counts n u t most k starts host (Calls flow call offer) own i =
    let before : count n u host ≤ most = i.most in
    let more = at_adds n u t k flow call offer host.flows i.low in
    record { low = called_low t k flow call offer host.flows i.low; most = omega arith }
act_counts n u t most k starts host (Accepts flow) own i =
    let before : count n u host ≤ most = i.most in
    let more = at_adds n u t k flow calls.Accept [] host.flows i.low in
    let same = held_same n u flow (Application k)
    (change_at flow (λ (l : Live). with_call l (App k) t calls.Accept []) host.flows) in
    record {
      low = each_at (IsUpTo t) flow _ (λ l one. one) _ (called_low t k flow calls.Accept [] host.flows i.low);
      most = omega arith;
    }
act_counts n u t most k starts host (Connects slot tuple) own i =
    let before : count n u host ≤ most = i.most in
    let start : Start = next_start starts host tuple in
    let x : Entry = first_entry (App k) t (calls.Connect start.number) in
    let more : calls_live n u (opened_in host slot tuple start.scale (Application k) x).flows
    ≡ calls_live n u host.flows + added n u t k = opened_count n u host slot tuple start.scale (Application k) x in
    record { low = each_push (IsUpTo t) host.flows _ i.low (omega arith); most = omega arith }
act_counts n u t most k starts host (GivesUp flow call) own i =
    let before : count n u host ≤ most = i.most in
    let more = at_adds n u t k flow call [] host.flows i.low in
    let same = held_same n u flow GivenUp
    (change_at flow (λ (l : Live). with_call l (App k) t call []) host.flows) in
    record {
      low = each_at (IsUpTo t) flow _ (λ l one. one) _ (called_low t k flow call [] host.flows i.low);
      most = omega arith;
    }
act_counts n u t most k starts host (Notes event) own i =
    let before : count n u host ≤ most = i.most in
    let one : one_if (is_told n event && t == u) ≡ added n u t k = line_adds n u t k event own in
    let more = told_push n u host.log (record { tick = t; event = event }) in
    record { low = i.low; most = omega arith }
act_counts n u t most k starts host (Listens port) own i =
    let before : count n u host ≤ most = i.most in
    let more = told_push n u host.log (record { tick = t; event = events.Listen k port true }) in
    record { low = i.low; most = omega arith }

aborted_worked : (n u t : ℕ) (concerned : Bool) (l : Live)
    → calls_in n u (aborted_where concerned t l).flow.entries ≡ calls_in n u l.flow.entries
aborted_worked n u t true l = calls_append n u l.flow.entries _ ∙ (omega arith)
aborted_worked n u t false l = refl

aborted_low : (t : ℕ) (concerned : Bool) (l : Live) → IsUpTo t l → IsUpTo t (aborted_where concerned t l)
aborted_low t true l low = call_low Slow t calls.Abort [] l low
aborted_low t false l low = low

aborted_same : (n u t : ℕ) (concerned : Live → Bool) (ls : List Live)
    → calls_live n u (map (λ (l : Live). aborted_where (concerned l) t l) ls) ≡ calls_live n u ls
aborted_same n u t concerned [] = refl
aborted_same n u t concerned (l ∷ ls) =
    let here = aborted_worked n u t (concerned l) l in
    let rest = aborted_same n u t concerned ls in omega arith

turn_counts : (s : Scenario) (p : HostParams) (n u t most : ℕ) (host : Host) (x : Script) → Counts n u t most host
    → Counts n u t (most + added n u t x.number) (turn_on s p t host x).host
turn_counts s p n u t most host x i = by_kill (is_killed_at t x.kill) where
  here : Turn
  here = record { host = host; script = x }

  before : count n u host ≤ most
  before = i.most

  by_left : (left : List Step)
      → Counts n u t (most + added n u t x.number) (goes_on (starts_of p) (address_in s.hosts) t left here).host
  by_left [] = record { low = i.low; most = omega arith }
  by_left (step ∷ rest) =
      let acted = step_acts (starts_of p) (address_in s.hosts) t step here in
      subst (Counts n u t (most + added n u t x.number)) (sym acted.left)
      (act_counts n u t most x.number (starts_of p) host acted.act acted.own i)

  by_kill : (b : Bool)
      → Counts n u t (most + added n u t x.number) (turn_where b (starts_of p) (address_in s.hosts) t here).host
  by_kill true =
      let same = aborted_same n u t (is_concerned x.number host) host.flows in
      record {
        low = each_map (IsUpTo t) (λ (l : Live). aborted_where (is_concerned x.number host l) t l)
            (λ l low. aborted_low t (is_concerned x.number host l) l low) host.flows i.low;
        most = omega arith;
      }
  by_kill false = by_left x.left

-- ----- deeds
and_most : (a b : Bool) → one_if (a && b) ≤ one_if a
and_most true true = omega arith
and_most true false = omega arith
and_most false b = omega arith

-- what a deed adds at most
abbrev deed_adds : (s : Scenario) (p : HostParams) (n : ℕ) (now : Bool) → Action ℕ → ℕ
deed_adds s p n now action = one_if (is_by (scripts_of s p) (OfScript n) action && now)

abbrev deeds_add : (s : Scenario) (p : HostParams) (n : ℕ) (now : Bool) → List (Action ℕ) → ℕ
deeds_add s p n now [] = 0
deeds_add s p n now (a ∷ rest) = deed_adds s p n now a + deeds_add s p n now rest

weaker : (n u t a b : ℕ) (host : Host) → a ≤ b → Counts n u t a host → Counts n u t b host
weaker n u t a b host le i =
    let before : count n u host ≤ a = i.most in record { low = i.low; most = omega arith }

asked_counts : (s : Scenario) (p : HostParams) (n u t most k : ℕ) (site : At) → Counts n u t most site.host
    → (o : Option Script) → find (λ (b : Script). b.number == k) site.scripts ≡ o
    → Counts n u t (most + one_if (n == k && t == u)) (asked_of (starts_of p) (address_in s.hosts) t o site).host
asked_counts s p n u t most k site i None found = weaker n u t most _ site.host (omega arith) i
asked_counts s p n u t most k site i (Some x) found =
    let number : (x.number == k) ≡ true = found_number k site.scripts x found in
    let same : x.number ≡ k = grind (arith, tests, number) in
    let turned : (x.number == n) ≡ (n == k) = swapped in
    subst (λ (b : Bool). Counts n u t (most + one_if (b && t == u)) (turn_on s p t site.host x).host) turned
    (turn_counts s p n u t most site.host x i)
  where
    swapped : (x.number == n) ≡ (n == k)
    swapped =
        let number : (x.number == k) ≡ true = found_number k site.scripts x found in
        grind (arith, tests, number)

done_counts : (s : Scenario) (p : HostParams) (n u t most : ℕ) (site : At) (by : Caller) (action : Action ℕ)
    → IsWorker by → Counts n u t most site.host
    → Counts n u t (most + deed_adds s p n (t == u) action) (done_by (scripts_of s p) t site by action).host
done_counts s p n u t most site by (Timer k) worker i =
    weaker n u t most _ _ (omega arith) ((work_counts n u t most).flows site _
    (at_worked t k (timed by t) (λ l. timed_worked by t l worker) site.host.flows) i)
done_counts s p n u t most site by (Frame x) worker i =
    weaker n u t most _ _ (omega arith)
    (packet_keeps p (λ site. Counts n u t most site.host) by t site x.frame x.packet (work_counts n u t most) worker i)
done_counts s p n u t most site by (Ask k) worker i = asked_counts s p n u t most k site i _ refl
done_counts s p n u t most site by (Emission k) worker i =
    weaker n u t most _ _ (omega arith) ((work_counts n u t most).flows site _
    (at_worked t k (emits by t) (λ l. emits_worked by t l worker) site.host.flows) i)

all_count : (s : Scenario) (p : HostParams) (n u t most : ℕ) (site : At) (deeds : List (Deed ℕ)) → AreByWorkers deeds
    → Counts n u t most site.host
    → Counts n u t (most + deeds_add s p n (t == u) (actions_of deeds)) (fold (does (scripts_of s p) t) site deeds).host
all_count s p n u t most site [] workers i = weaker n u t most _ site.host (omega arith) i
all_count s p n u t most site (m ∷ deeds) workers i =
    let rest = all_count s p n u t (most + deed_adds s p n (t == u) m.action) (does (scripts_of s p) t site m) deeds
    workers.1 (done_counts s p n u t most site m.by m.action workers.0 i) in
    weaker n u t _ _ _ (omega arith) rest

-- all deeds add one at most, and none in another tick
none_added : (s : Scenario) (p : HostParams) (n : ℕ) (xs : List (Action ℕ)) → deeds_add s p n false xs ≡ 0
none_added s p n [] = refl
none_added s p n (a ∷ xs) = by_test (is_by (scripts_of s p) (OfScript n) a) (none_added s p n xs) where
  by_test : (b : Bool) → deeds_add s p n false xs ≡ 0 → one_if (b && false) + deeds_add s p n false xs ≡ 0
  by_test true rest = omega arith
  by_test false rest = omega arith

turns_added : (s : Scenario) (p : HostParams) (n : ℕ) (now : Bool) (xs : List (Action ℕ))
    → deeds_add s p n now xs ≤ turns_in s p xs n
turns_added s p n now [] = omega arith
turns_added s p n now (a ∷ xs) =
    let here : one_if (is_by (scripts_of s p) (OfScript n) a && now) ≤ one_if (is_by (scripts_of s p) (OfScript n) a) =
    and_most (is_by (scripts_of s p) (OfScript n) a) now in
    let rest : deeds_add s p n now xs ≤ turns_in s p xs n = turns_added s p n now xs in omega arith

once_asked : (s : Scenario) (p : HostParams) (n low : ℕ) (bs : List Script) → NumbersRise low bs
    → turns_in s p (asks_of bs) n ≤ 1
once_asked s p n low [] rise = omega arith
once_asked s p n low (b ∷ bs) rise = by_test (n == b.number) refl (once_asked s p n (b.number + 1) bs rise.1) where
  by_test : (c : Bool) → (n == b.number) ≡ c → turns_in s p (asks_of bs) n ≤ 1
      → one_if c + turns_in s p (asks_of bs) n ≤ 1
  by_test true e rest =
      let small : n < b.number + 1 = grind (arith, tests, e) in
      let none : turns_in s p (asks_of bs) n ≡ 0 = later_none s p n (b.number + 1) bs small rise.1 in omega arith
  by_test false e rest = omega arith

round_counts : (s : Scenario) (p : HostParams) (n u t most : ℕ) (frames : List Arrival) (b a : At)
    → NumbersRise 0 b.scripts
    → (round :
    Round (scripts_of s p) t (record { frames = frames; asks = map (λ (x : Script). x.number) b.scripts }) b a)
    → Counts n u t most b.host
    → Counts n u t (most + deeds_add s p n (t == u) (actions_of round.order)) a.host
round_counts s p n u t most frames b a rise round i =
    subst (λ (site : At). Counts n u t (most + deeds_add s p n (t == u) (actions_of round.order)) site.host) round.made
    (all_count s p n u t most (on_host all_swept b) round.order round.workers
    ((work_counts n u t most).flows b _ (map_worked t swept (swept_worked t) b.host.flows) i))

turns_once : (s : Scenario) (p : HostParams) (n t : ℕ) (frames : List Arrival) (b a : At) → NumbersRise 0 b.scripts
    → (round :
    Round (scripts_of s p) t (record { frames = frames; asks = map (λ (x : Script). x.number) b.scripts }) b a)
    → turns_in s p (actions_of round.order) n ≤ 1
turns_once s p n t frames b a rise round =
    subst (λ (k : ℕ). k ≤ 1) (sym turns_are) (once_asked s p n 0 b.scripts rise)
  where
    turns_are : turns_in s p (actions_of round.order) n ≡ turns_in s p (asks_of b.scripts) n
    turns_are =
        sym (turns_filter s p n (actions_of round.order))
        ∙ ap (λ (xs : List (Action ℕ)). turns_in s p xs n) (round.due_each (OfScript n))
        ∙ turns_filter s p n _
        ∙ timers_pass s p n 0 b.host.flows (map Frame frames ++ asks_of b.scripts)
        ∙ frames_pass s p n frames (asks_of b.scripts)

-- ----- a run
-- before the tick t: no entry of a later one, no call in the tick u where that is not over, and one at most
record Before (n u t : ℕ) (host : Host) : Type 0 where
  low : Each (IsUpTo t) host.flows
  none : t ≤ u → count n u host ≡ 0
  most : count n u host ≤ 1

later_low : (t : ℕ) (ls : List Live) → Each (IsUpTo t) ls → Each (IsUpTo (t + 1)) ls
later_low t [] low = tt
later_low t (l ∷ ls) low =
    let here : last_tick 0 l.flow.entries ≤ t = low.0 in (omega arith, later_low t ls low.1)

tick_counts : (s : Scenario) (n u : ℕ) → Leads s (λ l t site. Before n u t site.host)
tick_counts s n u l t frames b a had rise i = by_now (t == u) refl where
  p : HostParams
  p = b.host.params

  acts : List (Action ℕ)
  acts = actions_of had.0.order

  after : (most : ℕ) → count n u b.host ≤ most → Counts n u t (most + deeds_add s p n (t == u) acts) a.host
  after most h = round_counts s p n u t most frames b a rise had.0 (record { low = i.low; most = h })

  by_now : (c : Bool) → (t == u) ≡ c → Before n u (t + 1) a.host
  by_now true e =
      let same : t ≡ u = grind (arith, tests, e) in
      let start : count n u b.host ≡ 0 = i.none (omega arith) in
      let left : Counts n u t (0 + deeds_add s p n (t == u) acts) a.host = after 0 (omega arith) in
      let few : deeds_add s p n (t == u) acts ≤ turns_in s p acts n = turns_added s p n (t == u) acts in
      let one : turns_in s p acts n ≤ 1 = turns_once s p n t frames b a rise had.0 in
      let most : count n u a.host ≤ 0 + deeds_add s p n (t == u) acts = left.most in
      record { low = later_low t a.host.flows left.low; none = λ h. absurd (omega arith); most = omega arith }
  by_now false e =
      let nothing : deeds_add s p n (t == u) acts ≡ 0 =
      ap (λ (c : Bool). deeds_add s p n c acts) e ∙ none_added s p n acts in
      let left : Counts n u t (count n u b.host + deeds_add s p n (t == u) acts) a.host =
      after (count n u b.host) (omega arith) in
      let most : count n u a.host ≤ count n u b.host + deeds_add s p n (t == u) acts = left.most in
      let few : count n u b.host ≤ 1 = i.most in
      record {
        low = later_low t a.host.flows left.low;
        none = λ h. (let start : count n u b.host ≡ 0 = i.none (omega arith) in omega arith);
        most = omega arith;
      }

start_counts : (s : Scenario) (n u : ℕ) (lines : List HostLine)
    → Each (λ (l : HostLine). Before n u 0 (site_of s l).host) lines
start_counts s n u [] = tt
start_counts s n u (l ∷ ls) =
    (record { low = tt; none = λ h. refl; most = omega arith }, start_counts s n u ls)

pub one_call_a_tick : (s : Scenario) (log : RunLog) (n u : ℕ) → Run s log
    → Each (λ (h : HostRun). calls_at n u h ≤ 1) log.hosts
one_call_a_tick s log n u run =
    each_host s log (λ l t site. Before n u t site.host) (λ ticks h. calls_at n u h ≤ 1) run
    (record { start = start_counts s n u s.hosts; leads = tick_counts s n u })
    (λ t l site i.
    subst (λ (k : ℕ). k + told_in n u site.host.log ≤ 1) (sym (flows_count n u site.host.flows)) i.most)
