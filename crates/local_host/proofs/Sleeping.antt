-- What ticks do to a flow of which nothing comes in them: they are quiet, and leave it as it is but for the timer's age
-- and the bucket.
use Rattle.std.proofs.Common.{◌≡◌, ℕ, zero, suc, ◌+◌, ◌-◌, ◌^◌, ◌<◌, ◌≤◌, ◌==◌, ◌&&◌, not, Bool, true, false}
use Rattle.std.proofs.Common.{List, [], ◌∷◌, ◌++◌, max}
use Rattle.std.proofs.Common.{nat_lt, Option, Some, None, is_some, if◌then◌else◌}
use Rattle.std.proofs.Common.{refl, sym, ap, subst, ◌∙◌, true≢false, arith, append_assoc, append-nil}
use Rattle.std.proofs.lemmas.Bool.Decides.{nat_tests}
use Rattle.tas_model.specs.declared.entry.HostParams.{HostParams}
use Rattle.tas_model.specs.declared.entry.Entry.{Entry}
use Rattle.tas_model.specs.declared.entry.Phase.{Phase}
use Rattle.tas_model.specs.declared.entry.Phase.TheVariants as phases
use Rattle.tas_model.specs.declared.entry.Reason.{Reason}
use Rattle.tas_model.specs.declared.entry.Reply.{Reply}
use Rattle.tas_model.specs.declared.entry.Reply.TheVariants as replies
use Rattle.tas_model.specs.declared.entry.Caller.TheVariants.{Slow}
use Rattle.tas_model.specs.declared.entry.Call.TheVariants as calls
use Rattle.tas_model.specs.Endpoint.{Endpoint, phase, phase_by, is_fin_acked, is_closed}
use Rattle.tas_model.specs.Segments.{Outcome}
use Rattle.tas_model.specs.ApplicationCalls.{Column, Opening, Over, Running, column, column_by}
use Rattle.tas_model.specs.NextSegment.{going, going_in, going_opening, going_running, data_len, waiting}
use Rattle.tas_model.specs.Timers.{ticks, filled, ticked as timer, is_armed, patience}
use Rattle.tas_model.specs.LegalHistory.{Legal, replay, step, extended_by, last_tick, next_number, shown, state_or}
use Rattle.tas_model.specs.LegalHistory.{reply_or}
use Rattle.host_rounds.specs.Lists.{Each}
use Rattle.local_host.specs.Lacking.{IsQuietEntry}
use Rattle.tas_model.proofs.Grows.{legal_by}
use Rattle.tas_model.proofs.Histories.{replay_push}
use Rattle.flow_state.specs.Calls.{is_closed_phase}
use Rattle.flow_state.specs.Flow.{ticked_on}
use Rattle.host_rounds.specs.Logs.{Flow}
use Rattle.host_rounds.specs.Hosts.{Live, endpoint, is_over, with_call}
use Rattle.host_rounds.specs.Upkeep.{timed, controlled, is_control_tick}
use Rattle.slow_timeout.specs.Age.{early_ticks}
use Rattle.slow_timeout.proofs.Ticking.{ticked_in}
use Rattle.local_host.specs.declared.sleep.Sleep.{Sleep}
use Rattle.local_host.specs.Live.{called}
use Rattle.local_host.specs.Sleep.{is_still_by, is_still, MaySleep, IsRested, with_ticks, ticked_flow}
use Rattle.local_host.proofs.Timing.{ticked}

-- ----- nothing may go
and_last : (a b c : Bool) → (a && b && c && false) ≡ false
and_last true true true = refl
and_last true true false = refl
and_last true false c = refl
and_last false b c = refl

both_hold : (a b : Bool) → (a && b) ≡ true → (a ≡ true) × (b ≡ true)
both_hold true true h = (refl, refl)
both_hold true false h = absurd (true≢false (sym h))
both_hold false b h = absurd (true≢false (sym h))

not_true : (b : Bool) → not b ≡ true → b ≡ false
not_true true h = absurd (true≢false (sym h))
not_true false h = refl

none_opening : (e : Endpoint) → (e.tx.nxt == 0) ≡ false → going_opening e ≡ None
none_opening e h = rw h refl

none_running : (e : Endpoint) → waiting e.tx ≡ 0 → e.tx.shut ≡ false → going_running e ≡ None
none_running e left unshut =
    let none : nat_lt 0 (data_len e) ≡ false = grind (arith, nat_tests, left) in
    let empty : nat_lt 0 (waiting e.tx) ≡ false = rw left refl in
    rw (none, empty, unshut) (rw (and_last e.tx.probe (e.tx.window == 0) (e.tx.nxt == e.tx.una)) refl)

-- where nothing is left to send, nothing may go
pub none_of_still : (e : Endpoint) → is_still e ≡ true → going e ≡ None
unfolding going
none_of_still e still = by_column (column e) still where
  by_column : (c : Column) → is_still_by c e.tx.nxt (waiting e.tx) e.tx.shut ≡ true → going_in c e ≡ None
  by_column Opening h = none_opening e (not_true (e.tx.nxt == 0) h)
  by_column (Over why) h = absurd (true≢false (sym h))
  by_column Running h =
      let both = both_hold (waiting e.tx == 0) (not e.tx.shut) h in
      none_running e (grind (arith, nat_tests, both.0)) (not_true e.tx.shut both.1)

-- ----- one tick
-- a phase with such ticks
abbrev Ticks : Phase → Type 0
Ticks ph = (ph ≡ phases.TimeWait → ⊥) × (is_closed_phase ph ≡ false)

phase_ticks : (opening shut acked ended first : Bool) (nxt left : ℕ)
    → is_still_by (if opening then Opening else Running) nxt left shut ≡ true
    → Ticks (if opening then phases.SynReceived
    else if shut then (
    if ended then (if first then phases.LastAck else if acked then phases.TimeWait else phases.Closing)
    else if acked then phases.FinWait2 else phases.FinWait1)
    else if ended then phases.CloseWait else phases.Established)
phase_ticks true shut acked ended first nxt left h = ((λ is. absurd (cc (is))), refl)
phase_ticks false true acked ended first nxt left h =
    absurd (true≢false (sym (both_hold (left == 0) false h).1))
phase_ticks false false acked true first nxt left h = ((λ is. absurd (cc (is))), refl)
phase_ticks false false acked false first nxt left h = ((λ is. absurd (cc (is))), refl)

still_ticks : (reason : Option Reason) (peer : Option ℕ) (una : ℕ) (shut acked ended first : Bool) (nxt left : ℕ)
    → is_still_by (column_by reason peer una) nxt left shut ≡ true
    → Ticks (phase_by reason peer una shut acked ended first)
still_ticks (Some why) peer una shut acked ended first nxt left h = absurd (true≢false (sym h))
still_ticks None None una shut acked ended first nxt left h = ((λ is. absurd (cc (is))), refl)
still_ticks None (Some n) una shut acked ended first nxt left h =
    phase_ticks (una == 0) shut acked ended first nxt left h

not_closed : (reason : Option Reason) (peer : Option ℕ) (una nxt left : ℕ) (shut : Bool)
    → is_still_by (column_by reason peer una) nxt left shut ≡ true → reason ≡ None
not_closed None peer una nxt left shut h = refl
not_closed (Some why) peer una nxt left shut h = absurd (true≢false (sym h))

-- it is not closed
pub open_of_still : (e : Endpoint) → is_still e ≡ true → is_closed e ≡ false
open_of_still e h = rw (not_closed e.reason e.peer e.tx.una e.tx.nxt (waiting e.tx) e.tx.shut h) refl

-- what a quiet tick leaves, with this age of the timer
abbrev QuietAt : Endpoint → (age : ℕ) → Outcome
QuietAt e age = record {
  state = record e { tx = record (e.tx) { age = age }; rate = filled e.rate };
  reply = replies.Quiet;
}

timer_quiet : (e : Endpoint) → (is_armed e.tx ≡ true → e.tx.age + 1 < patience e)
    → (age : ℕ) × (age ≤ e.tx.age + 1) × (timer (record e { rate = filled e.rate }) ≡ QuietAt e age)
timer_quiet e early = by_armed (is_armed e.tx) refl where
  by_armed : (armed : Bool) → is_armed e.tx ≡ armed
      → (age : ℕ) × (age ≤ e.tx.age + 1) × (timer (record e { rate = filled e.rate }) ≡ QuietAt e age)
  by_armed false is = (0, omega arith, rw is refl)
  by_armed true is =
      let before : nat_lt (e.tx.age + 1) (patience e) ≡ true = grind (arith, nat_tests, early is) in
      (e.tx.age + 1, omega arith, rw (is, before) refl)

tick_quiet : (e : Endpoint) (t : ℕ) (reply : Reply) → is_still e ≡ true
    → (is_armed e.tx ≡ true → e.tx.age + 1 < patience e)
    → (age : ℕ) × (age ≤ e.tx.age + 1) × (step e t calls.Tick reply ≡ Some (QuietAt e age))
unfolding step ticks
tick_quiet e t reply still early =
    let in_phase = still_ticks e.reason e.peer e.tx.una e.tx.shut (is_fin_acked e.tx) e.rx.ended e.rx.ended_first
    e.tx.nxt (waiting e.tx) still in
    let timer = timer_quiet e early in (
      timer.0,
      timer.1,
      ticked_in (phase e) (record e { rate = filled e.rate }) t in_phase.0 in_phase.1
          ∙ ap (λ (o : Outcome). Some o) timer.2,
    )

-- ----- many ticks
-- What is left of an endpoint by so many ticks of which nothing comes.
pub record Slept (e : Endpoint) (n : ℕ) (s : Endpoint) : Type 0 where
  pub same : s ≡ record e { tx = record (e.tx) { age = s.tx.age }; rate = s.rate }
  pub age : s.tx.age ≤ e.tx.age + n

-- and of a history
pub record SleptOn (params : HostParams) (h : List Entry) (n : ℕ) (after : List Entry) : Type 0 where
  pub legal : Legal params after
  pub slept : Slept (replay params h) n (replay params after)
  pub ticks : List Entry
  pub entries : after ≡ h ++ ticks
  pub quiet : Each IsQuietEntry ticks

each_push : {X : Type 0} (P : X → Type 0) (xs : List X) (x : X) → Each P xs → P x → Each P (xs ++ x ∷ [])
each_push P [] x each here = (here, tt)
each_push P (y ∷ ys) x each here = (each.0, each_push P ys x each.1 here)

still_slept : (e s : Endpoint) (n : ℕ) → Slept e n s → is_still e ≡ true → is_still s ≡ true
still_slept e s n slept still = subst (λ (x : Endpoint). is_still x ≡ true) (sym slept.same) still

patience_slept : (e s : Endpoint) (n : ℕ) → Slept e n s → patience s ≡ patience e
patience_slept e s n slept = ap (λ (x : Endpoint). patience x) slept.same

armed_slept : (e s : Endpoint) (n : ℕ) → Slept e n s → is_armed s.tx ≡ is_armed e.tx
armed_slept e s n slept = ap (λ (x : Endpoint). is_armed x.tx) slept.same

one_more : (params : HostParams) (h before : List Entry) (t n : ℕ) → is_still (replay params h) ≡ true
    → (is_armed (replay params h).tx ≡ true → (replay params h).tx.age + suc n < patience (replay params h))
    → SleptOn params h n before
    → SleptOn params h (suc n) (extended_by params before Slow t calls.Tick [])
one_more params h before t n still early so =
    let e : Endpoint = replay params h in
    let s : Endpoint = replay params before in
    let tick : ℕ = max t (last_tick 0 before) in
    let still' : is_still s ≡ true = still_slept e s n so.slept still in
    let early' : is_armed s.tx ≡ true → s.tx.age + 1 < patience s =
    λ armed. omega (
      arith,
      early (sym (armed_slept e s n so.slept) ∙ armed),
      so.slept.age,
      patience_slept e s n so.slept,
    ) in
    let told = tick_quiet s tick (shown s []) still' early' in
    let made = tick_quiet s tick replies.Quiet still' early' in
    let x : Entry = record {
      caller = Slow;
      number = next_number Slow before;
      tick = tick;
      call = calls.Tick;
      reply = reply_or (step s tick calls.Tick (shown s [])) replies.Nothing;
    } in
    let reply : x.reply ≡ replies.Quiet = ap (λ (o : Option Outcome). reply_or o replies.Nothing) told.2 in
    let state : replay params (before ++ x ∷ []) ≡ (QuietAt s made.0).state =
    replay_push params before x so.legal
    ∙ (ap (λ (r : Reply). state_or s (step s tick calls.Tick r)) reply
    ∙ ap (λ (o : Option Outcome). state_or s o) made.2) in
    record {
      legal = legal_by params before Slow t calls.Tick [] so.legal tt (rw told.2 refl);
      slept = subst (Slept e (suc n)) (sym state)
          (record {
            same = ap (λ (y : Endpoint). record y { tx = record (y.tx) { age = made.0 }; rate = filled s.rate })
                so.slept.same;
            age = omega (arith, made.1, so.slept.age);
          });
      ticks = so.ticks ++ x ∷ [];
      entries = ap (λ (xs : List Entry). xs ++ x ∷ []) so.entries ∙ append_assoc h so.ticks (x ∷ []);
      quiet = each_push IsQuietEntry so.ticks x so.quiet (record { call = refl; reply = reply });
    }

-- where so many ticks may be slept through, the first of them leave all as it is
pub slept_on : (params : HostParams) (h : List Entry) (t most n : ℕ) → Legal params h
    → MaySleep (replay params h) most → n ≤ most → SleptOn params h n (ticked_on params h t n)
slept_on params h t most zero legal may few = record {
  legal = legal;
  slept = record { same = refl; age = omega arith };
  ticks = [];
  entries = sym (append-nil h);
  quiet = tt;
}
slept_on params h t most (suc n) legal may few =
    one_more params h (ticked_on params h t n) (t + n) n may.still
    (λ armed. omega (arith, may.early armed, few))
    (slept_on params h t most n legal may (omega (arith, few)))

-- ticks behind ticks
pub ticks_behind : (params : HostParams) (h : List Entry) (t n k : ℕ)
    → ticked_on params (ticked_on params h t n) (t + n) k ≡ ticked_on params h t (n + k)
ticks_behind params h t n zero =
    let none : n ≡ n + 0 = omega arith in
    ap (ticked_on params h t) none
ticks_behind params h t n (suc k) =
    let more : suc (n + k) ≡ n + suc k = omega arith in
    let at : (t + n) + k ≡ t + (n + k) = omega arith in
    ap (λ (es : List Entry). extended_by params es Slow ((t + n) + k) calls.Tick []) (ticks_behind params h t n k)
    ∙ (ap (λ (j : ℕ). extended_by params (ticked_on params h t (n + k)) Slow j calls.Tick []) at
    ∙ ap (ticked_on params h t) more)

pub still_on : (params : HostParams) (h after : List Entry) (n : ℕ) → is_still (replay params h) ≡ true
    → SleptOn params h n after → is_still (replay params after) ≡ true
still_on params h after n still so = still_slept (replay params h) (replay params after) n so.slept still

-- ----- how long
-- the timer doesn't run out in the ticks that are left of it
pub before_timeout : (e : Endpoint) (n : ℕ) → n ≡ early_ticks e → 0 < n → is_armed e.tx ≡ true
    → e.tx.age + n < patience e
before_timeout e n is some armed =
    let left : n ≡ patience e - (e.tx.age + 1) = is ∙ rw armed refl in
    omega (arith, left, some)

-- ----- a flow's record, and what it lacks
-- a flow that lacks no tick is as its record
pub none_missed : (s : Sleep) (f : Flow) → s.missed ≡ 0 → ticked_flow s f ≡ f
none_missed s f none = by_missed s.missed none where
  by_missed : (n : ℕ) → n ≡ 0 → with_ticks f s.next n ≡ f
  by_missed n is = rw is refl

pub awake_flow : (s : Sleep) (f : Flow) → s.missed + s.left ≡ 0 → ticked_flow s f ≡ f
awake_flow s f none = none_missed s f (omega (arith, none))

pub lags : (s : Sleep) (f : Flow) → Legal f.params f.entries → IsRested s f
    → SleptOn f.params f.entries s.missed (ticked_flow s f).entries
lags s f legal rested = by_missed s.missed (omega arith) (λ some. rested.rests (omega (arith, some))) where
  by_missed : (n : ℕ) → n ≤ s.missed + s.left
      → (0 < n → MaySleep (replay f.params f.entries) (s.missed + s.left))
      → SleptOn f.params f.entries n (ticked_on f.params f.entries s.next n)
  by_missed zero few may = record {
    legal = legal;
    slept = record { same = refl; age = omega arith };
    ticks = [];
    entries = sym (append-nil f.entries);
    quiet = tt;
  }
  by_missed (suc n) few may =
      slept_on f.params f.entries s.next (s.missed + s.left) (suc n) legal (may (omega arith)) few

-- one that sleeps has nothing to send, and is not closed
pub still_asleep : (s : Sleep) (f : Flow) → Legal f.params f.entries → IsRested s f → 0 < s.missed + s.left
    → is_still (replay f.params (ticked_flow s f).entries) ≡ true
still_asleep s f legal rested some =
    still_on f.params f.entries (ticked_flow s f).entries s.missed (rested.rests some).still (lags s f legal rested)

-- one tick more is slept through
pub one_passed : (old new : Sleep) (f : Flow) (t : ℕ) → new.next + old.missed ≡ t
    → (0 < old.missed → new.next ≡ old.next) → new.missed ≡ old.missed + 1
    → ticked_flow new f ≡ called (ticked_flow old f) Slow t calls.Tick []
one_passed old new f t tick first more =
    let missed : new.missed ≡ suc old.missed = omega (arith, more) in
    let before : ticked_on f.params f.entries new.next old.missed
    ≡ ticked_on f.params f.entries old.next old.missed = by_missed old.missed first in
    rw (missed, tick, before) refl
  where
    by_missed : (n : ℕ) → (0 < n → new.next ≡ old.next)
        → ticked_on f.params f.entries new.next n ≡ ticked_on f.params f.entries old.next n
    by_missed zero same = refl
    by_missed (suc n) same =
        ap (λ (k : ℕ). ticked_on f.params f.entries k (suc n)) (same (omega arith))

pub rested_on : (old new : Sleep) (f : Flow) → IsRested old f → 0 < old.left → new.next + new.missed ≤ 2 ^ 32
    → new.missed ≡ old.missed + 1 → new.left + 1 ≡ old.left → IsRested new f
rested_on old new f rested some far more less =
    let same : new.missed + new.left ≡ old.missed + old.left = omega (arith, more, less) in
    record {
      far = far;
      rests = λ h. subst (MaySleep (replay f.params f.entries)) (sym same) (rested.rests (omega (arith, some)));
    }

uncontrolled : (l : Live) (t : ℕ) → is_control_tick l.flow.params.fixed t ≡ false → controlled Slow t l ≡ l
uncontrolled l t free = rw free refl

-- the tick of a flow that is not closed, where no rate is controlled
pub timed_alone : (l : Live) (t : ℕ) → is_over l ≡ false → is_control_tick l.flow.params.fixed t ≡ false
    → with_call l Slow t calls.Tick [] ≡ timed Slow t l
timed_alone l t runs free =
    sym (uncontrolled (with_call l Slow t calls.Tick []) t free)
    ∙ ticked l (called l.flow Slow t calls.Tick []) t refl runs

-- what ticks leave as it was
pub column_slept : (e s : Endpoint) (n : ℕ) → Slept e n s → column s ≡ column e
column_slept e s n slept = ap (λ (x : Endpoint). column x) slept.same

pub iss_slept : (e s : Endpoint) (n : ℕ) → Slept e n s → s.iss ≡ e.iss
iss_slept e s n slept = ap (λ (x : Endpoint). x.iss) slept.same

pub out_slept : (e s : Endpoint) (n : ℕ) → Slept e n s → s.tx.out ≡ e.tx.out
out_slept e s n slept = ap (λ (x : Endpoint). x.tx.out) slept.same

-- a flow that sleeps is not over, and nothing of it may go
pub not_over : (l : Live) → is_still (endpoint l) ≡ true → is_over l ≡ false
not_over l still = open_of_still (endpoint l) still

pub none_goes : (l : Live) → is_still (endpoint l) ≡ true → is_some (going (endpoint l)) ≡ false
none_goes l still = ap is_some (none_of_still (endpoint l) still)
