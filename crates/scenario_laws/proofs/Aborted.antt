-- A flow has one Abort by the slow path at most, by a kill; and a kill aborts each flow that it concerns.
use Rattle.std.proofs.Common.{◌≡◌, ℕ, ◌≤◌, ◌==◌, ◌&&◌, not, Bool, true, false, List, [], ◌∷◌, ◌++◌}
use Rattle.std.proofs.Common.{max, Option, Some, None, is_some, if◌then◌else◌, refl, sym, subst, ap}
use Rattle.std.proofs.Common.{◌∙◌, true≢false, arith, append-nil}
use Rattle.tas_model.specs.declared.entry.HostParams.{HostParams}
use Rattle.tas_model.specs.declared.entry.Entry.{Entry}
use Rattle.tas_model.specs.declared.entry.Reason.{Reason}
use Rattle.tas_model.specs.declared.entry.Reply.{Reply}
use Rattle.tas_model.specs.declared.entry.Caller.{Caller}
use Rattle.tas_model.specs.declared.entry.Caller.TheVariants.{Slow, Core, App}
use Rattle.tas_model.specs.declared.entry.Call.{Call}
use Rattle.tas_model.specs.declared.entry.Call.TheVariants as calls
use Rattle.tas_model.specs.Endpoint.{Endpoint, is_closed}
use Rattle.tas_model.specs.ApplicationCalls.{Column, Opening, Over, Running, column, column_by, abort_in}
use Rattle.tas_model.specs.LegalHistory.{last_tick, opened, replay, replay_on, step, state_or}
use Rattle.tas_model.proofs.Histories.{replay_on_push}
use Rattle.host_rounds.specs.Lists.{Each}
use Rattle.host_rounds.specs.Hosts.{Live, Host, Holder, Waiting, Application, GivenUp, endpoint, is_over, is_running}
use Rattle.host_rounds.specs.Hosts.{is_held, is_held_by, with_call, is_waiting_by, is_ready}
use Rattle.host_rounds.specs.Passing.{IsUpTo}
use Rattle.host_rounds.proofs.AllLegal.{each_push}
use Rattle.scenario_runs.specs.Applications.{is_concerned, let_go, aborted_where, has_listener}
use Rattle.scenario_laws.specs.Kills.{is_abort_by_slow, abort_ticks, IsAborted}
use Rattle.scenario_laws.proofs.Deeds.{IsWorkerCall, IsWorkerEntry, Worked, OfEachFlow, over_push, call_low}
use Rattle.scenario_laws.proofs.FlowByFlow.{IsNew, KeepsFlow, IsListed}

-- ----- histories
pub aborts_append : (h more : List Entry) → abort_ticks (h ++ more) ≡ abort_ticks h ++ abort_ticks more
aborts_append [] more = refl
aborts_append (x ∷ h) more = by_abort (is_abort_by_slow x.caller x.call) (aborts_append h more) where
  by_abort : (b : Bool) → abort_ticks (h ++ more) ≡ abort_ticks h ++ abort_ticks more
      → elim b [ true ↦ x.tick ∷ abort_ticks (h ++ more) | false ↦ abort_ticks (h ++ more) ]
      ≡ elim b [ true ↦ x.tick ∷ abort_ticks h | false ↦ abort_ticks h ] ++ abort_ticks more
  by_abort true rest = ap (λ (ticks : List ℕ). x.tick ∷ ticks) rest
  by_abort false rest = rest

not_abort : (x : Entry) (xs : List Entry) → is_abort_by_slow x.caller x.call ≡ false
    → abort_ticks (x ∷ xs) ≡ abort_ticks xs
not_abort x xs h = ap (λ (b : Bool). elim b [ true ↦ x.tick ∷ abort_ticks xs | false ↦ abort_ticks xs ]) h

no_more : (h more : List Entry) → abort_ticks more ≡ [] → abort_ticks (h ++ more) ≡ abort_ticks h
no_more h more none =
    aborts_append h more ∙ ap (λ (ticks : List ℕ). abort_ticks h ++ ticks) none ∙ append-nil (abort_ticks h)

worker_call : (by : Caller) (call : Call) → IsWorkerCall call → is_abort_by_slow by call ≡ false
worker_call by calls.Abort kind = absurd kind
worker_call Slow (calls.Connect iss) kind = absurd kind
worker_call Slow (calls.Passive frame iss seg) kind = absurd kind
worker_call Slow (calls.Rx frame seg) kind = refl
worker_call Slow call kind = refl
worker_call (Core k) call kind = refl
worker_call (App k) call kind = refl

workers_abort_none : (more : List Entry) → Each IsWorkerEntry more → abort_ticks more ≡ []
workers_abort_none [] each = refl
workers_abort_none (x ∷ more) each =
    not_abort x more (worker_call x.caller x.call each.0.call) ∙ workers_abort_none more each.1

app_call : (h : List Entry) (x : Entry) (n : ℕ) → x.caller ≡ App n → abort_ticks (h ++ x ∷ []) ≡ abort_ticks h
app_call h x n by =
    no_more h (x ∷ []) (not_abort x [] (ap (λ (c : Caller). is_abort_by_slow c x.call) by))

-- ----- an Abort closes
column_over : (o : Option Reason) (peer : Option ℕ) (una : ℕ) (why : Reason) → column_by o peer una ≡ Over why
    → is_some o ≡ true
column_over (Some reason) peer una why h = refl
column_over None None una why h = absurd (cc (h))
column_over None (Some first) una why h = absurd (by_una (una == 0) h) where
  by_una : (b : Bool) → (if b then Opening else Running) ≡ Over why → ⊥
  by_una true g = absurd (cc (g))
  by_una false g = absurd (cc (g))

abort_closes : (e : Endpoint) (t : ℕ) (reply : Reply) → is_closed (state_or e (step e t calls.Abort reply)) ≡ true
unfolding step
abort_closes e t reply = by_column (column e) refl where
  by_column : (c : Column) → column e ≡ c → is_closed (abort_in c e).state ≡ true
  by_column Opening h = refl
  by_column Running h = refl
  by_column (Over why) h = column_over e.reason e.peer e.tx.una why h

aborted_over : (p : HostParams) (h : List Entry) (x : Entry) (first : Entry) (rest : List Entry) → h ≡ first ∷ rest
    → x.call ≡ calls.Abort → is_closed (replay p (h ++ x ∷ [])) ≡ true
unfolding replay
aborted_over p h x first rest begun abort =
    let e : Endpoint = replay_on (opened p first.call) rest in
    subst (λ (xs : List Entry). is_closed (replay p (xs ++ x ∷ [])) ≡ true) (sym begun)
    (ap is_closed (replay_on_push (opened p first.call) rest x)
    ∙ ap (λ (c : Call). is_closed (state_or e (step e x.tick c x.reply))) abort
    ∙ abort_closes e x.tick x.reply)

over_column : (e : Endpoint) → is_closed e ≡ true → elim (column e) [ Running ↦ true | _ ↦ false ] ≡ false
over_column e h = by_reason e.reason h where
  by_reason : (o : Option Reason) → is_some o ≡ true
      → elim (column_by o e.peer e.tx.una) [ Running ↦ true | _ ↦ false ] ≡ false
  by_reason None g = absurd (true≢false (sym g))
  by_reason (Some why) g = refl

not_running : (l : Live) → is_over l ≡ true → is_running l ≡ false
not_running l h = over_column (endpoint l) h

-- ----- an aborted flow
-- it stays as it is, whatever is done with it
and_false : (a b c : Bool) → c ≡ false → (a && b && c) ≡ false
and_false true true c h = h
and_false true false c h = refl
and_false false b c h = refl

not_ready : (port : ℕ) (l : Live) → is_over l ≡ true → is_ready port l ≡ false
not_ready port l over =
    and_false (l.flow.tuple.lport == port) (is_waiting_by l.holder) (is_running l) (not_running l over)

not_concerned : (n : ℕ) (host : Host) (l : Live) → is_over l ≡ true → is_held l ≡ false
    → is_concerned n host l ≡ false
not_concerned n host l over held = by_holder l.holder held where
  by_holder : (holder : Holder) → is_held_by holder ≡ false → elim holder [
    | Application other ↦ other == n
    | Waiting ↦ not (is_over l) && has_listener n l.flow.tuple.lport host
    | GivenUp ↦ false
  ] ≡ false
  by_holder (Application other) h = absurd (true≢false h)
  by_holder Waiting h = ap (λ (b : Bool). not b && has_listener n l.flow.tuple.lport host) over
  by_holder GivenUp h = refl

abbrev pub Anyway : (number at : ℕ) → Type 0
Anyway n t = Unit {0}

-- some application is killed in the tick
abbrev pub Someone : (K : (number at : ℕ) → Type 0) → ℕ → Type 0
Someone K at = (number : ℕ) × K number at

worked_aborted : (at t : ℕ) (l m : Live) → Worked t l m → IsAborted at l → IsAborted at m
worked_aborted at t l m worked aborted = record {
  aborts =
      ap abort_ticks worked.entries
      ∙ no_more l.flow.entries worked.more (workers_abort_none worked.more worked.each)
      ∙ aborted.aborts;
  over = worked.over aborted.over;
  held = ap is_held_by worked.holder ∙ aborted.held;
}

called_aborted : (at t n : ℕ) (call : Call) (offer : List ℕ) (l : Live) → IsAborted at l
    → IsAborted at (with_call l (App n) t call offer)
called_aborted at t n call offer l aborted = record {
  aborts = app_call l.flow.entries _ n refl ∙ aborted.aborts;
  over = over_push l.flow.params l.flow.entries _ aborted.over;
  held = aborted.held;
}

pub keeps_aborted : (K : (number at : ℕ) → Type 0) (at t : ℕ) → KeepsFlow K t (IsAborted at)
keeps_aborted K at t = record {
  worked = worked_aborted at t;
  plain = λ l n call offer kind mine aborted. called_aborted at t n call offer l aborted;
  accept = λ l n port ready aborted. absurd (true≢false (sym ready ∙ not_ready port l aborted.over));
  last = λ l n call kind mine aborted. (
      let called : IsAborted at (with_call l (App n) t call []) = called_aborted at t n call [] l aborted in
      record { aborts = called.aborts; over = called.over; held = refl });
  killed = λ l n host kill aborted. subst (λ (b : Bool). IsAborted at (aborted_where b t l))
      (sym (not_concerned n host l aborted.over aborted.held)) aborted;
}

-- ----- any flow
pub data Aborts (l : Live) : Type 0 where
  Never : abort_ticks l.flow.entries ≡ [] → Aborts l
  Once : (at : ℕ) → IsAborted at l → Aborts l

-- The flow has begun and has no entry of a later tick; it has one Abort by the slow path at most, by a kill.
pub record AbortsOnce (K : (number at : ℕ) → Type 0) (t : ℕ) (l : Live) : Type 0 where
  pub first : Entry
  pub rest : List Entry
  pub begun : l.flow.entries ≡ first ∷ rest
  pub low : IsUpTo t l
  pub kills : Each (Someone K) (abort_ticks l.flow.entries)
  pub aborts : Aborts l

begun_more : (h more : List Entry) (first : Entry) (rest : List Entry) → h ≡ first ∷ rest
    → h ++ more ≡ first ∷ (rest ++ more)
begun_more h more first rest begun = ap (λ (xs : List Entry). xs ++ more) begun

worked_once : (K : (number at : ℕ) → Type 0) (t : ℕ) (l m : Live) → Worked t l m → AbortsOnce K t l → AbortsOnce K t m
worked_once K t l m worked once =
    let same : abort_ticks m.flow.entries ≡ abort_ticks l.flow.entries =
    ap abort_ticks worked.entries
    ∙ no_more l.flow.entries worked.more (workers_abort_none worked.more worked.each) in
    record {
      first = once.first;
      rest = once.rest ++ worked.more;
      begun = worked.entries ∙ begun_more l.flow.entries worked.more once.first once.rest once.begun;
      low = worked.low once.low;
      kills = subst (Each (Someone K)) (sym same) once.kills;
      aborts = by_aborts same once.aborts;
    }
  where
    by_aborts : abort_ticks m.flow.entries ≡ abort_ticks l.flow.entries → Aborts l → Aborts m
    by_aborts same (Never none) = Never (same ∙ none)
    by_aborts same (Once at aborted) = Once at (worked_aborted at t l m worked aborted)

-- a call of an application, and then another holder where the flow was not aborted, or none
called_once : (K : (number at : ℕ) → Type 0) (t n : ℕ) (call : Call) (offer : List ℕ) (holder : Holder) (l : Live)
    → ((at : ℕ) → IsAborted at l → IsAborted at (record (with_call l (App n) t call offer) { holder = holder }))
    → AbortsOnce K t l → AbortsOnce K t (record (with_call l (App n) t call offer) { holder = holder })
called_once K t n call offer holder l keeps once =
    let same : abort_ticks (with_call l (App n) t call offer).flow.entries ≡ abort_ticks l.flow.entries =
    app_call l.flow.entries _ n refl in
    record {
      first = once.first;
      rest = _;
      begun = begun_more l.flow.entries _ once.first once.rest once.begun;
      low = call_low (App n) t call offer l once.low;
      kills = subst (Each (Someone K)) (sym same) once.kills;
      aborts = by_aborts same once.aborts;
    }
  where
    by_aborts : abort_ticks (with_call l (App n) t call offer).flow.entries ≡ abort_ticks l.flow.entries → Aborts l
        → Aborts (record (with_call l (App n) t call offer) { holder = holder })
    by_aborts same (Never none) = Never (same ∙ none)
    by_aborts same (Once at aborted) = Once at (keeps at aborted)

let_go_held : (holder : Holder) → is_held_by (let_go holder) ≡ false
let_go_held Waiting = refl
let_go_held (Application app) = refl
let_go_held GivenUp = refl

-- what the Abort of a kill leaves of a flow that has none yet
abort_now : (t : ℕ) (l : Live) (first : Entry) (rest : List Entry) → l.flow.entries ≡ first ∷ rest → IsUpTo t l
    → abort_ticks l.flow.entries ≡ [] → IsAborted t (aborted_where true t l)
abort_now t l first rest begun low none =
    let before : last_tick 0 l.flow.entries ≤ t = low in
    let now : max t (last_tick 0 l.flow.entries) ≡ t = omega arith in
    record {
      aborts =
          aborts_append l.flow.entries _
          ∙ ap (λ (ticks : List ℕ). ticks ++ max t (last_tick 0 l.flow.entries) ∷ []) none
          ∙ ap (λ (k : ℕ). k ∷ []) now;
      over = aborted_over l.flow.params l.flow.entries _ first rest begun refl;
      held = let_go_held l.holder;
    }

-- Where it concerns the flow, the flow is aborted in this tick.
pub concerned_aborted : (K : (number at : ℕ) → Type 0) (t n : ℕ) (host : Host) (l : Live) → AbortsOnce K t l
    → is_concerned n host l ≡ true → IsAborted t (aborted_where (is_concerned n host l) t l)
concerned_aborted K t n host l once concerned =
    subst (λ (b : Bool). IsAborted t (aborted_where b t l)) (sym concerned) (by_aborts once.aborts)
  where
    by_aborts : Aborts l → IsAborted t (aborted_where true t l)
    by_aborts (Never none) = abort_now t l once.first once.rest once.begun once.low none
    by_aborts (Once at aborted) =
        absurd (true≢false (sym concerned ∙ not_concerned n host l aborted.over aborted.held))

killed_once : (K : (number at : ℕ) → Type 0) (t n : ℕ) (host : Host) (l : Live) → K n t → AbortsOnce K t l
    → AbortsOnce K t (aborted_where (is_concerned n host l) t l)
killed_once K t n host l kill once = by_concerned (is_concerned n host l) refl where
  m : Live
  m = aborted_where true t l

  by_concerned : (b : Bool) → is_concerned n host l ≡ b → AbortsOnce K t (aborted_where b t l)
  by_concerned false h = once
  by_concerned true h =
      let aborted : IsAborted t m =
      subst (λ (b : Bool). IsAborted t (aborted_where b t l)) h (concerned_aborted K t n host l once h) in
      record {
        first = once.first;
        rest = _;
        begun = begun_more l.flow.entries _ once.first once.rest once.begun;
        low = call_low Slow t calls.Abort [] l once.low;
        kills = subst (Each (Someone K)) (sym aborted.aborts) ((n, kill), tt);
        aborts = Once t aborted;
      }

pub keeps_once : (K : (number at : ℕ) → Type 0) (t : ℕ) → KeepsFlow K t (AbortsOnce K t)
keeps_once K t = record {
  worked = worked_once K t;
  plain = λ l n call offer kind mine once. called_once K t n call offer l.holder l
      (λ at aborted. called_aborted at t n call offer l aborted) once;
  accept = λ l n port ready once. called_once K t n calls.Accept [] (Application n) l
      (λ at aborted. absurd (true≢false (sym ready ∙ not_ready port l aborted.over))) once;
  last = λ l n call kind mine once. called_once K t n call [] GivenUp l
      (λ at aborted. (keeps_aborted Anyway at t).last l n call kind mine aborted) once;
  killed = λ l n host kill once. killed_once K t n host l kill once;
}

-- ----- lists of flows
pub each_listed : (K : (number at : ℕ) → Type 0) (t : ℕ) → IsListed t (AbortsOnce K t) (Each (AbortsOnce K t))
each_listed K t = record { each = carried; push = pushed } where
  carried : (ls ms : List Live) → OfEachFlow (λ l m. AbortsOnce K t l → AbortsOnce K t m) ls ms
      → Each (AbortsOnce K t) ls → Each (AbortsOnce K t) ms
  carried [] [] all each = tt
  carried [] (m ∷ ms) all each = absurd all
  carried (l ∷ ls) [] all each = absurd all
  carried (l ∷ ls) (m ∷ ms) all each = (all.0 each.0, carried ls ms all.1 each.1)

  pushed : (ls : List Live) (l : Live) → IsNew t l → Each (AbortsOnce K t) ls → Each (AbortsOnce K t) (ls ++ l ∷ [])
  pushed ls l new each =
      let none : abort_ticks l.flow.entries ≡ [] = ap abort_ticks new.entries ∙ not_abort new.first [] new.plain in
      each_push (AbortsOnce K t) ls l each (record {
        first = new.first;
        rest = [];
        begun = new.entries;
        low = subst (λ (xs : List Entry). last_tick 0 xs ≤ t) (sym new.entries) (up_to new.first.tick new.tick);
        kills = subst (Each (Someone K)) (sym none) tt;
        aborts = Never none;
      })
    where
      up_to : (k : ℕ) → k ≡ t → k ≤ t
      up_to k h = omega arith
