-- The flows that are known after the time of a tick.
use Rattle.std.proofs.Common.{◌≡◌, ap, sym, ◌∙◌, refl, subst, ℕ, zero, suc}
use Rattle.std.proofs.Common.{Bool, true, false, List, [], ◌∷◌, ◌++◌, cond, eqb}
use Rattle.std.specs.Prelude.{Option, Some, None, slice_get, position, ◌&&◌, Result, Ok, Err, OnOk, OnErr}
use Rattle.std.proofs.Common.{inl}
use Rattle.std.proofs.lemmas.Bool.{eqb-true}
use Rattle.tas_model.specs.declared.entry.FlowId.{FlowId}
use Rattle.atomic_table.specs.Seated.{TableId}
use Rattle.flow_lock.specs.Orders.{same_flow}
use Rattle.flow_lock.specs.Passes.{Seen}
use Rattle.flow_clock.specs.Ledgers as clock
use Rattle.flow_clock.specs.Ledgers.{Ledger, ledger}
use Rattle.flow_state.specs.Flow.{Flow}
use Rattle.flow_lock.specs.declared.view.View.{View}
use Rattle.flow_index.specs.declared.change.Change.{Change}
use Rattle.core_worker.specs.declared.kicks.Kick.{Kick}
use Rattle.slow_handshake.specs.Openings.{Openings}
use Rattle.app_reaper.specs.Lists.{Roomy, is_on}
use Rattle.flow_clock.specs.Walks.{IsTickDone, IsTickStopped}
use Rattle.flow_index.specs.Changes.{Writing, AnswerAlike, Begins}
use Rattle.slow_worker.specs.Clocks.{served_in}
use Rattle.slow_worker.specs.Workers.{Worker, HasItsPin, AreKept}
use Rattle.slow_worker.specs.Turns.{pin_at, is_its, is_pinned, still_known, ledger_of, with_time}
use Rattle.slow_worker.specs.Turns.{IsTimePassed, IsTimeStopped}
use Rattle.slow_worker.specs.declared.clock.Clock.TheVariants.{Passing, Passed}
use Rattle.slow_worker.specs.declared.known.KnownFlow.{KnownFlow}

-- the same slot and generation is the same flow
same_id : (p id : FlowId) → same_flow p id ≡ true → p ≡ id
same_id p id e = by_tests (eqb p.slot id.slot) (eqb p.generation id.generation) refl refl e where
  by_tests : (a b : Bool) → eqb p.slot id.slot ≡ a → eqb p.generation id.generation ≡ b → (a && b) ≡ true → p ≡ id
  by_tests true true s g h =
      let slot : p.slot ≡ id.slot = eqb-true p.slot id.slot s in
      let generation : p.generation ≡ id.generation = eqb-true p.generation id.generation g in
      λ q. record { slot = slot q; generation = generation q }
  by_tests true false s g h = absurd (cc (h))
  by_tests false b s g h = absurd (cc (h))

pub pinned_there : (pins : List FlowId) (id : FlowId) → is_pinned pins id ≡ true → HasItsPin pins id
pinned_there pins id e = by_place (position (is_on id.slot) pins) e where
  by_pin : (k : ℕ) (o : Option FlowId) → slice_get pins k ≡ o → is_its id o ≡ true → HasItsPin pins id
  by_pin k None at h = absurd (cc (h))
  by_pin k (Some p) at h = (k, at ∙ ap Some (same_id p id h))

  by_place : (o : Option ℕ) → is_its id (pin_at pins o) ≡ true → HasItsPin pins id
  by_place None h = absurd (cc (h))
  by_place (Some k) h = by_pin k (slice_get pins k) refl h

flow_or : KnownFlow → Option KnownFlow → KnownFlow
flow_or d None = d
flow_or d (Some y) = y

-- each flow that is known still has its pin
pub known_still : (pins : List FlowId) (fs : List KnownFlow) (k : ℕ) (f : KnownFlow)
    → slice_get (still_known pins fs) k ≡ Some f → HasItsPin pins f.id
unfolding flow_or
known_still pins [] k f e = absurd (none_here f e) where
  none_here : (x : KnownFlow) → ◌≡◌ {A = Option KnownFlow} None (Some x) → ⊥
  none_here x q = absurd (cc)
known_still pins (x ∷ xs) k f e = by_test (is_pinned pins x.id) refl k e (known_still pins xs) where
  here : (n : ℕ) → slice_get (x ∷ still_known pins xs) n ≡ Some f → is_pinned pins x.id ≡ true
      → ((j : ℕ) (g : KnownFlow) → slice_get (still_known pins xs) j ≡ Some g → HasItsPin pins g.id)
      → HasItsPin pins f.id
  here zero q t rest =
      subst (λ (y : KnownFlow). HasItsPin pins y.id) (ap (flow_or f) q) (pinned_there pins x.id t)
  here (suc n) q t rest = rest n f q

  by_test : (b : Bool) → is_pinned pins x.id ≡ b → (n : ℕ)
      → slice_get (cond b (x ∷ still_known pins xs) (still_known pins xs)) n ≡ Some f
      → ((j : ℕ) (g : KnownFlow) → slice_get (still_known pins xs) j ≡ Some g → HasItsPin pins g.id)
      → HasItsPin pins f.id
  by_test true t n q rest = here n q t rest
  by_test false t n q rest = rest n f q

-- what the slow path has after the time of a tick
pub time_sound : (t u : TableId) (pass : Seen) (doomed pins : List FlowId) (flows flows' : List KnownFlow) → u ≡ t
    → clock.IsReady u pass → clock.AreKept u.slots pass doomed pins → flows' ≡ still_known pins flows
    → AreKept t pass doomed pins flows'
time_sound t u pass doomed pins flows flows' is ready owned kept =
    subst (λ (x : TableId). AreKept x pass doomed pins flows') is (record {
      ready = ready;
      owned = owned;
      known = λ k f q. known_still pins flows k f (sym (ap (λ l. slice_get l k) kept) ∙ q);
    })

-- the same where the pins were then found anew
pub indexed_sound : (t u : TableId) (pass : Seen) (doomed : List FlowId) (p q : Roomy FlowId)
    (flows flows' : List KnownFlow) → q ≡ p → u ≡ t → clock.IsReady u pass → clock.AreKept u.slots pass doomed p.list
    → flows' ≡ still_known q.list flows → AreKept t pass doomed q.list flows'
indexed_sound t u pass doomed p q flows flows' same is ready owned kept =
    time_sound t u pass doomed q.list flows flows' is ready
    (subst (λ (r : Roomy FlowId). clock.AreKept u.slots pass doomed r.list) (sym same) owned) kept

pub indexed_stop : (tick from served : ℕ) (a : Ledger) (v : View) (p q : Roomy FlowId) (doomed : List FlowId)
    (filed : List Flow) (changes : List Change) (kicks : List Kick) (path : Openings) → q ≡ p
    → IsTickStopped tick from served a (ledger v p.list doomed filed changes kicks path)
    → IsTickStopped tick from served a (ledger v q.list doomed filed changes kicks path)
indexed_stop tick from served a v p q doomed filed changes kicks path same =
    subst (λ (r : Roomy FlowId). IsTickStopped tick from served a (ledger v r.list doomed filed changes kicks path))
    (sym same)

pub indexed_done : (tick from : ℕ) (a : Ledger) (v : View) (p q : Roomy FlowId) (doomed : List FlowId)
    (filed : List Flow) (changes : List Change) (kicks : List Kick) (path : Openings) → q ≡ p
    → IsTickDone tick from a (ledger v p.list doomed filed changes kicks path)
    → IsTickDone tick from a (ledger v q.list doomed filed changes kicks path)
indexed_done tick from a v p q doomed filed changes kicks path same =
    subst (λ (r : Roomy FlowId). IsTickDone tick from a (ledger v r.list doomed filed changes kicks path)) (sym same)

-- memory was wanting at a flow, and it is kept which flows have had their time
pub halted : {A E : Type 0} (x : Result A E) (tick from served : ℕ) (u v w : Worker) → u ≡ v
    → from ≡ served_in tick u.time
    → IsTickStopped tick from served (ledger_of u u.index.pending) (ledger_of w w.index.pending)
    → w.time ≡ Passing tick served → w.index.published ≡ u.index.published → w.index.left ≡ u.index.left
    → w.flows ≡ still_known w.pins u.flows → w ≡ with_time w u → OnErr x (IsTimeStopped tick v w)
halted (Ok a) tick from served u v w is begun stopped time published readers flows rest = tt
halted (Err e) tick from served u v w is begun stopped time published readers flows rest =
    let here : IsTickStopped tick (served_in tick u.time) served (ledger_of u u.index.pending)
    (ledger_of w w.index.pending) =
    subst (λ n. IsTickStopped tick n served (ledger_of u u.index.pending) (ledger_of w w.index.pending)) begun stopped
    in
    subst (λ y. IsTimeStopped tick y w) is (record {
      stopped = inl (served, here, time);
      published = published;
      readers = readers;
      flows = flows;
      rest = rest;
    })

-- all had their time, and the changes of the index are published
pub passed_so : {A E : Type 0} (x : Result A E) (tick from : ℕ) (u v w : Worker) (mid : Writing) → u ≡ v
    → from ≡ served_in tick u.time
    → IsTickDone tick from (ledger_of u u.index.pending) (ledger_of w mid.pending)
    → mid.published ≡ u.index.published → mid.left ≡ u.index.left → Begins mid.published w.index.published
    → OnOk x (AnswerAlike w.index.published (mid.published ++ mid.pending)) → OnOk x (w.index.pending ≡ [])
    → w.index.left ≡ mid.left → w.flows ≡ still_known w.pins u.flows → w.time ≡ Passed tick → w ≡ with_time w u
    → OnOk x (IsTimePassed tick v w)
passed_so (Err e) tick from u v w mid is begun done same readers later shown none left flows time rest = tt
passed_so (Ok a) tick from u v w mid is begun done same readers later shown none left flows time rest =
    subst (λ y. IsTimePassed tick y w) is (record {
      changes = mid.pending;
      done = subst (λ n. IsTickDone tick n (ledger_of u u.index.pending) (ledger_of w mid.pending)) begun done;
      later = subst (λ l. Begins l w.index.published) same later;
      shown = subst (λ l. AnswerAlike w.index.published (l ++ mid.pending)) same shown;
      pending = none;
      readers = left ∙ readers;
      flows = flows;
      time = time;
      rest = rest;
    })
