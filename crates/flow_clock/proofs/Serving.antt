-- Flows are served one after the other.
use Rattle.std.proofs.Common.{◌≡◌, ℕ, zero, suc, ◌+◌, ◌<◌, ◌≤◌, true, false, List, [], ◌∷◌, ◌++◌, ap, sym, ◌∙◌, refl}
use Rattle.std.proofs.Common.{arith, inl, inr, Bool, subst, length, append_assoc, append-nil}
use Rattle.std.specs.Prelude.{Some, Result, Ok, Err, OnOk, OnErr, slice_get, remove, take, drop}
use Rattle.std.proofs.lemmas.List.{drop_all, take_all, take-append-drop}
use Rattle.atomic_table.specs.Seated.{TableId}
use Rattle.tas_model.specs.Segments.{one_if}
use Rattle.tas_model.specs.declared.entry.FlowId.{FlowId}
use Rattle.tas_model.specs.declared.entry.FourTuple.{FourTuple}
use Rattle.flow_index.specs.declared.change.Change.{Change}
use Rattle.flow_index.specs.declared.change.Change.TheVariants.{Remove}
use Rattle.core_worker.specs.declared.kicks.Kick.{Kick}
use Rattle.core_worker.specs.Kicks.{kick_of, one_kick}
use Rattle.slow_handshake.specs.Openings.{Openings}
use Rattle.flow_lock.specs.Passes.{Seen}
use Rattle.flow_lock.specs.declared.view.View.{View}
use Rattle.flow_lock.specs.declared.word.Word.{Word}
use Rattle.flow_state.specs.Flow.{Flow}
use Rattle.app_reaper.specs.OneCall.{IsUse, IsCallRefused}
use Rattle.app_reaper.specs.Sweeping.{KeepsPin}
use Rattle.app_reaper.specs.declared.one_call.CallFault.{CallFault}
use Rattle.app_reaper.specs.declared.one_call.CallFault.TheVariants.{Busy, OutOfMemory}
use Rattle.app_reaper.specs.declared.sweeping.Swept.{Swept}
use Rattle.app_reaper.specs.declared.sweeping.Swept.TheVariants.{Freed, Pinned}
use Rattle.app_reaper.proofs.Walking.{none_some, same_pin}
use Rattle.flow_clock.specs.Histories.{is_over}
use Rattle.flow_clock.specs.Ledgers.{Ledger, ledger, without, without_closed, IsReady, KeepsRights, AreKept}
use Rattle.flow_clock.specs.OneFlow.{IsTimed}
use Rattle.flow_clock.specs.declared.timing.Timed.{Timed}
use Rattle.flow_clock.specs.declared.timing.Timed.TheVariants.{Closed, Ticked, Controlled}
use Rattle.flow_clock.specs.Walks.{doomed_with, IsSwept, IsServed, IsServedAt, AreServed}
use Rattle.flow_clock.specs.Walks.{IsWalkStopped, IsRefusedAt, AreSweptAgain, IsTickDone}
use Rattle.flow_clock.proofs.Keeping.{no_step, two_steps, kept_after_use}
use Rattle.flow_clock.proofs.Chains.{one_more}

-- ----- places of a list
pub take_more : (l : List FlowId) (i : ℕ) (f : FlowId) → slice_get l i ≡ Some f
    → take (suc i) l ≡ take i l ++ f ∷ []
take_more [] i f q = absurd (none_some f q)
take_more (x ∷ xs) zero f q = ap (λ y. y ∷ []) (same_pin x f q)
take_more (x ∷ xs) (suc i) f q = ap (λ l. x ∷ l) (take_more xs i f q)

pub drop_more : (l : List FlowId) (i : ℕ) (f : FlowId) → slice_get l i ≡ Some f → drop i l ≡ f ∷ drop (suc i) l
drop_more [] i f q = absurd (none_some f q)
drop_more (x ∷ xs) zero f q = ap (λ y. y ∷ xs) (same_pin x f q)
drop_more (x ∷ xs) (suc i) f q = drop_more xs i f q

pub take_rest : (l : List FlowId) (i : ℕ) (f : FlowId) → slice_get l i ≡ Some f → take i (remove l i) ≡ take i l
take_rest [] i f q = absurd (none_some f q)
take_rest (x ∷ xs) zero f q = refl
take_rest (x ∷ xs) (suc i) f q = ap (λ l. x ∷ l) (take_rest xs i f q)

pub drop_rest : (l : List FlowId) (i : ℕ) (f : FlowId) → slice_get l i ≡ Some f → drop i (remove l i) ≡ drop (suc i) l
drop_rest [] i f q = absurd (none_some f q)
drop_rest (x ∷ xs) zero f q = refl
drop_rest (x ∷ xs) (suc i) f q = drop_rest xs i f q

pub length_to : (l : List FlowId) (i : ℕ) (f : FlowId) → slice_get l i ≡ Some f → length (take i l) ≡ i
length_to [] i f q = absurd (none_some f q)
length_to (x ∷ xs) zero f q = refl
length_to (x ∷ xs) (suc i) f q = ap suc (length_to xs i f q)

-- ----- a flow that was swept
pub waits : (f : FlowId) (a : Swept) (n : ℕ) (pin : FlowId) (doomed new : List FlowId) → a ≡ Pinned n pin
    → KeepsPin f a → new ≡ doomed ++ pin ∷ [] → new ≡ doomed_with f a doomed
waits f Freed n pin doomed new is keeps e = absurd (cc)
waits f (Pinned m p) n pin doomed new is keeps e =
    let same : p ≡ pin = ap pin_of is in
    e ∙ ap (λ x. doomed ++ x ∷ []) (sym same ∙ keeps)
  where
    pin_of : Swept → FlowId
    pin_of Freed = pin
    pin_of (Pinned k q) = q

pub goes : (f : FlowId) (a : Swept) (doomed : List FlowId) → ((n : ℕ) (pin : FlowId) → a ≡ Pinned n pin → ⊥)
    → doomed_with f a doomed ≡ doomed
goes f Freed doomed not = refl
goes f (Pinned n pin) doomed not = absurd (not n pin refl)

-- ----- the flow at a place
-- its pin is there still
pub stays_there : (tick at : ℕ) (f : FlowId) (v w : View) (pins doomed : List FlowId) (filed : List Flow)
    (changes : List Change) (kicks kicks' : List Kick) (path path' : Openings) → slice_get pins at ≡ Some f
    → IsServed tick f (ledger v (take at pins) doomed filed changes kicks path)
    (ledger w (take at pins ++ f ∷ []) doomed filed changes kicks' path')
    → IsServedAt tick at (ledger v pins doomed filed changes kicks path)
    (ledger w pins doomed filed changes kicks' path') true
stays_there tick at f v w pins doomed filed changes kicks kicks' path path' q served =
    let next : at + 1 ≡ suc at = omega arith in
    let more : take at pins ++ f ∷ [] ≡ take (at + 1) pins =
    sym (ap (λ n. take n pins) next ∙ take_more pins at f q) in (
      f,
      q,
      subst (λ l. IsServed tick f (ledger v (take at pins) doomed filed changes kicks path)
          (ledger w l doomed filed changes kicks' path')) more served,
      ap (λ n. drop n pins) next,
    )

pub busy_there : (tick at : ℕ) (f : FlowId) (v w : View) (pins doomed : List FlowId) (filed : List Flow)
    (changes : List Change) (kicks kicks' : List Kick) (path path' : Openings) (e : CallFault) (x : Word) → e ≡ Busy x
    → slice_get pins at ≡ Some f → IsCallRefused f v w e → kicks' ≡ kicks → path' ≡ path
    → IsServedAt tick at (ledger v pins doomed filed changes kicks path)
    (ledger w pins doomed filed changes kicks' path') true
busy_there tick at f v w pins doomed filed changes kicks kicks' path path' e x is q refused unkicked untold =
    stays_there tick at f v w pins doomed filed changes kicks kicks' path path' q
    (inr (inr (record {
      word = x;
      busy = subst (IsCallRefused f v w) is refused;
      rest = ap (λ l. ledger w (take at pins ++ f ∷ []) doomed filed changes l path') unkicked
          ∙ ap (ledger w (take at pins ++ f ∷ []) doomed filed changes kicks) untold;
    })))

pub timed_there : (tick at : ℕ) (f : FlowId) (v w : View) (pins doomed : List FlowId) (filed : List Flow)
    (changes : List Change) (kicks kicks' : List Kick) (path path' : Openings) (a : Timed)
    → ((tuple : FourTuple) → a ≡ Closed tuple → ⊥)
    → slice_get pins at ≡ Some f → IsTimed tick f v w kicks kicks' path path' a
    → IsServedAt tick at (ledger v pins doomed filed changes kicks path)
    (ledger w pins doomed filed changes kicks' path') true
timed_there tick at f v w pins doomed filed changes kicks kicks' path path' (Closed tuple) not q t =
    absurd (not tuple refl)
timed_there tick at f v w pins doomed filed changes kicks kicks' path path' Ticked not q t =
    stays_there tick at f v w pins doomed filed changes kicks kicks' path path' q
    (inl (record {
      flow = t.0;
      own = t.2;
      not_over = t.3.0;
      grown = subst (λ k. IsUse f t.0 k v w) t.3.2 t.4;
      kicked = t.5 ∙ ap (λ k. kicks ++ one_kick (kick_of f k)) t.3.2;
      told = t.6 ∙ ap (λ k. without_closed (is_over k) f path) t.3.2;
      rest = refl;
    }))
timed_there tick at f v w pins doomed filed changes kicks kicks' path path' Controlled not q t =
    stays_there tick at f v w pins doomed filed changes kicks kicks' path path' q
    (inl (record {
      flow = t.0;
      own = t.2;
      not_over = t.3.0;
      grown = subst (λ k. IsUse f t.0 k v w) t.3.2 t.4;
      kicked = t.5 ∙ ap (λ k. kicks ++ one_kick (kick_of f k)) t.3.2;
      told = t.6 ∙ ap (λ k. without_closed (is_over k) f path) t.3.2;
      rest = refl;
    }))

-- it left the list
pub closed_there : (tick at : ℕ) (f : FlowId) (tuple : FourTuple) (a : Timed) (v u w : View)
    (pins pins' doomed doomed' : List FlowId) (filed filed' : List Flow) (changes changes' : List Change)
    (kicks kicks' : List Kick) (path path' path'' : Openings) → a ≡ Closed tuple → slice_get pins at ≡ Some f
    → IsTimed tick f v u kicks kicks' path path' a → path'' ≡ without f path'
    → pins' ≡ remove pins at → IsSwept f u w filed filed' doomed doomed' → changes' ≡ changes ++ Remove tuple ∷ []
    → IsServedAt tick at (ledger v pins doomed filed changes kicks path)
    (ledger w pins' doomed' filed' changes' kicks' path'') false
closed_there tick at f tuple a v u w pins pins' doomed doomed' filed filed' changes changes' kicks kicks' path path'
    path''
    is q timed told gone swept left =
    let t = subst (IsTimed tick f v u kicks kicks' path path') is timed in
    let here : at + 0 ≡ at = omega arith in (
      f,
      q,
      inr (inl (record {
        flow = t.0;
        found = u;
        own = t.2;
        over = t.3.0;
        kept = subst (λ k. IsUse f t.0 k v u) t.3.2 t.4;
        swept = swept;
        left = left ∙ ap (λ x. changes ++ Remove x ∷ []) t.3.1;
        gone = ap (λ n. take n pins') here ∙ (ap (take at) gone ∙ take_rest pins at f q);
        unkicked = t.5;
        told = told ∙ ap (without f) t.6;
      })),
      ap (λ n. drop n pins') here ∙ (ap (drop at) gone ∙ drop_rest pins at f q),
    )

-- no closed flow is kicked
pub unkicked_there : (tick : ℕ) (f : FlowId) (tuple : FourTuple) (a : Timed) (v w : View) (kicks kicks' : List Kick)
    (path path' : Openings) → a ≡ Closed tuple → IsTimed tick f v w kicks kicks' path path' a → kicks' ≡ kicks
unkicked_there tick f tuple a v w kicks kicks' path path' is timed =
    (subst (IsTimed tick f v w kicks kicks' path path') is timed).5

-- nor told to the openings, but where it is closed
pub untold_there : (tick : ℕ) (f : FlowId) (tuple : FourTuple) (a : Timed) (v w : View) (kicks kicks' : List Kick)
    (path path' : Openings) → a ≡ Closed tuple → IsTimed tick f v w kicks kicks' path path' a → path' ≡ path
untold_there tick f tuple a v w kicks kicks' path path' is timed =
    (subst (IsTimed tick f v w kicks kicks' path path') is timed).6

-- memory was wanting to let it leave: its record was given back as it was
pub refused_there : (tick at : ℕ) (f : FlowId) (tuple : FourTuple) (a : Timed) (v u w : View) (pins : List FlowId)
    (kicks kicks' : List Kick) (path path' : Openings) → a ≡ Closed tuple → slice_get pins at ≡ Some f
    → IsTimed tick f v u kicks kicks' path path' a → w ≡ u → IsRefusedAt at pins v w
refused_there tick at f tuple a v u w pins kicks kicks' path path' is q timed same =
    let t = subst (IsTimed tick f v u kicks kicks' path path') is timed in
    let refused : IsCallRefused f v u OutOfMemory = (t.0, t.2, subst (λ k. IsUse f t.0 k v u) t.3.2 t.4) in
    (f, q, subst (λ x. IsCallRefused f v x OutOfMemory) (sym same) refused)

pub kept_timed : (slots tick : ℕ) (f : FlowId) (a : Timed) (s n : Seen) (doomed pins : List FlowId)
    (kicks kicks' : List Kick) (path path' : Openings) → IsTimed tick f s.view n.view kicks kicks' path path' a
    → AreKept slots s doomed pins
    → AreKept slots n doomed pins
kept_timed slots tick f a s n doomed pins kicks kicks' path path' t is = kept_after_use slots f t.0 t.1 s n doomed
    pins t.4 is

-- ----- all flows
-- What holds between two flows: those in front of the place were served.
pub record Serving (tick from : ℕ) (t : TableId) (first : Ledger) (s : Seen) (pins doomed : List FlowId)
    (filed : List Flow) (changes : List Change) (kicks : List Kick) (path : Openings) (at : ℕ) : Type 0 where
  pub done : List FlowId
  pub all : drop from first.pins ≡ done ++ drop at pins
  pub served : AreServed tick done (record first { pins = take from first.pins })
      (ledger s.view (take at pins) doomed filed changes kicks path)
  pub ready : IsReady t s
  pub rights : KeepsRights first.view s.view
  pub kept : AreKept t.slots s doomed pins

pub serving_begins : (tick from : ℕ) (t : TableId) (s : Seen) (pins doomed : List FlowId) (filed : List Flow)
    (changes : List Change) (kicks : List Kick) (path : Openings) → IsReady t s → AreKept t.slots s doomed pins
    → Serving tick from t (ledger s.view pins doomed filed changes kicks path) s pins doomed filed changes kicks path
    from
serving_begins tick from t s pins doomed filed changes kicks path ready kept =
    record { done = []; all = refl; served = refl; ready = ready; rights = no_step s.view; kept = kept }

pub serving_more : (tick from : ℕ) (t : TableId) (first : Ledger) (s n : Seen) (pins pins' doomed doomed' : List FlowId)
    (filed filed' : List Flow) (changes changes' : List Change) (kicks kicks' : List Kick)
    (path path' : Openings) (at at' : ℕ) (stays : Bool)
    → Serving tick from t first s pins doomed filed changes kicks path at
    → IsServedAt tick at (ledger s.view pins doomed filed changes kicks path)
    (ledger n.view pins' doomed' filed' changes' kicks' path') stays
    → at' ≡ at + one_if stays → IsReady t n → KeepsRights s.view n.view → AreKept t.slots n doomed' pins'
    → Serving tick from t first n pins' doomed' filed' changes' kicks' path' at'
serving_more tick from t first s n pins pins' doomed doomed' filed filed' changes changes' kicks kicks' path path' at
    at' stays is a e
    ready rights kept =
    let left : drop at pins ≡ a.0 ∷ drop at' pins' =
    drop_more pins at a.0 a.1 ∙ ap (λ l. a.0 ∷ l) (sym a.3 ∙ ap (λ k. drop k pins') (sym e)) in
    let here : (ledger n.view (take (at + one_if stays) pins') doomed' filed' changes' kicks' path')
    ≡ (ledger n.view (take at' pins') doomed' filed' changes' kicks' path') =
    ap (λ k. ledger n.view (take k pins') doomed' filed' changes' kicks' path') (sym e) in
    let more = one_more (IsServed tick) is.done a.0 (record first { pins = take from first.pins })
    (ledger s.view (take at pins) doomed filed changes kicks path)
    (ledger n.view (take (at + one_if stays) pins') doomed' filed' changes' kicks' path') is.served a.2 in
    record {
      done = is.done ++ a.0 ∷ [];
      all = is.all ∙ (ap (λ l. is.done ++ l) left ∙ sym (append_assoc is.done (a.0 ∷ []) (drop at' pins')));
      served = subst (AreServed tick (is.done ++ a.0 ∷ []) (record first { pins = take from first.pins })) here more;
      ready = ready;
      rights = two_steps first.view s.view n.view is.rights rights;
      kept = kept;
    }

pub serving_ends : (tick from : ℕ) (t : TableId) (first : Ledger) (s : Seen) (pins doomed : List FlowId)
    (filed : List Flow) (changes : List Change) (kicks : List Kick) (path : Openings) (at : ℕ)
    → Serving tick from t first s pins doomed filed changes kicks path at → length pins ≤ at
    → AreServed tick (drop from first.pins) (record first { pins = take from first.pins })
    (ledger s.view pins doomed filed changes kicks path)
serving_ends tick from t first s pins doomed filed changes kicks path at is past =
    let all : drop from first.pins ≡ is.done =
    is.all ∙ (ap (λ l. is.done ++ l) (drop_all at pins past) ∙ append-nil is.done) in
    let end =
    subst (λ l. AreServed tick is.done (record first { pins = take from first.pins })
    (ledger s.view l doomed filed changes kicks path))
    (take_all at pins past) is.served in
    subst (λ l. AreServed tick l (record first { pins = take from first.pins })
    (ledger s.view pins doomed filed changes kicks path))
    (sym all) end

pub serving_stops : (tick from : ℕ) (t : TableId) (first : Ledger) (s n : Seen)
    (pins pins' doomed doomed' : List FlowId)
    (filed filed' : List Flow) (changes changes' : List Change) (kicks kicks' : List Kick)
    (path path' : Openings) (at : ℕ)
    → Serving tick from t first s pins doomed filed changes kicks path at → IsRefusedAt at pins s.view n.view
    → pins' ≡ pins
    → doomed' ≡ doomed → filed' ≡ filed → changes' ≡ changes → kicks' ≡ kicks → path' ≡ path
    → IsWalkStopped tick from at first (ledger n.view pins' doomed' filed' changes' kicks' path')
serving_stops tick from t first s n pins pins' doomed doomed' filed filed' changes changes' kicks kicks' path path' at
    is r p d f c k o =
    let rest : pins' ≡ take at pins ++ r.0 ∷ drop (suc at) pins =
    p ∙ (sym (take-append-drop at pins)
    ∙ ap (λ l. take at pins ++ l) (drop_more pins at r.0 r.1)) in
    record {
      done = is.done;
      at = r.0;
      left = drop (suc at) pins;
      all = is.all ∙ ap (λ l. is.done ++ l) (drop_more pins at r.0 r.1);
      after = ledger s.view (take at pins) doomed filed changes kicks path;
      served = is.served;
      refused = r.2;
      rest = cc;
      place = sym (length_to pins at r.0 r.1);
    }

pub fewer_left : (tick at : ℕ) (l m : Ledger) (stays : Bool) (at' : ℕ) → IsServedAt tick at l m stays
    → at' ≡ at + one_if stays → length (drop at' m.pins) < length (drop at l.pins)
fewer_left tick at l m stays at' a e =
    let one = ap (λ (x : List FlowId). length x) (drop_more l.pins at a.0 a.1) in
    let two : length (drop at' m.pins) ≡ length (drop (suc at) l.pins) =
    ap (λ k. length (drop k m.pins)) e ∙ ap (λ (x : List FlowId). length x) a.3 in
    omega arith

-- ----- answers
pub on_err_stopped : {A E P : Type 0} (x : Result A E) → P → OnErr x P
on_err_stopped (Ok a) p = tt
on_err_stopped (Err e) p = p

-- both walks, one after the other
pub on_ok_done : {A E : Type 0} (tick from : ℕ) (v u : View) (pins doomed doomed' : List FlowId)
    (filed filed' : List Flow)
    (changes : List Change) (kicks : List Kick) (path : Openings) (m : Ledger) (x : Result A E)
    → AreSweptAgain doomed (ledger v pins [] filed changes kicks path)
    (ledger u pins doomed' filed' changes kicks path)
    → OnOk x (AreServed tick (drop from pins) (ledger u (take from pins) doomed' filed' changes kicks path) m)
    → OnOk x (IsTickDone tick from (ledger v pins doomed filed changes kicks path) m)
on_ok_done tick from v u pins doomed doomed' filed filed' changes kicks path m (Ok a) swept served =
    (ledger u pins doomed' filed' changes kicks path, swept, served)
on_ok_done tick from v u pins doomed doomed' filed filed' changes kicks path m (Err e) swept served = tt
