-- What holds of the slow path's pass, pins and flows between two calls stays so.
use Rattle.std.proofs.Common.{◌≡◌, ◌≢◌, ℕ, zero, suc, ◌<◌, ◌≤◌, Bool, true, false, List, [], ◌∷◌, ◌++◌}
use Rattle.std.proofs.Common.{length}
use Rattle.std.proofs.Common.{ap, sym, ◌∙◌, refl, subst, arith, ⊎_elim, inl, inr, ◌⊎◌, eqb, eq-eqb, cond, tests}
use Rattle.std.specs.Prelude.{Option, Some, None, slice_get, slice_index_or, position, not, nat_lt}
use Rattle.std.specs.List.{find, position_or_len}
use Rattle.std.specs.Option.{option_map}
use Rattle.std.proofs.lemmas.Bool.{eqb-true}
use Rattle.std.proofs.lemmas.List.Sums.{fails_before_first}
use Rattle.std.proofs.lemmas.List.Quantifiers.{position-Some}
use Rattle.std.proofs.lemmas.Option.{slice_get_within, get_or_from_slice_get}
use mathlib.Core.Option as O
use mathlib.Core.Option.{some-injective}
use lib.ListN.{get_elem?}
use Rattle.atomic_table.specs.Seated.{TableId}
use Rattle.tas_model.specs.declared.entry.FlowId.{FlowId}
use Rattle.flow_state.specs.Flow.{Flow}
use Rattle.flow_lock.specs.Answers.{is_free, next_of, next_in}
use Rattle.flow_lock.specs.Callers.{IsOwner}
use Rattle.flow_lock.specs.Claims.{HasPin}
use Rattle.flow_lock.specs.Passes.{Seen}
use Rattle.flow_lock.specs.Steps.{MayAct, noted, mark, mark_at}
use Rattle.flow_lock.specs.declared.view.Deed.{Deed}
use Rattle.flow_lock.specs.declared.view.History.{History}
use Rattle.flow_lock.specs.declared.view.Mark.{Mark}
use Rattle.flow_lock.specs.declared.view.View.{View}
use Rattle.flow_clock.specs.Ledgers as clock
use Rattle.flow_clock.proofs.Keeping.{each_at, ready_still, after_use, after_refusal, kept_after_use}
use Rattle.flow_clock.proofs.Keeping.{kept_after_refusal, kept_after_opening}
use Rattle.flow_lock.proofs.Calling.{still_turn}
use Rattle.flow_lock.proofs.Sums.{at_get}
use Rattle.app_reaper.specs.Lists.{is_on}
use Rattle.app_reaper.specs.OneCall.{IsUse, IsCallRefused}
use Rattle.app_reaper.specs.declared.one_call.CallFault.{CallFault}
use Rattle.app_reaper.specs.declared.one_call.CallFault.TheVariants.{Busy, OutOfMemory}
use Rattle.app_reaper.proofs.Walking.{none_some, same_pin}
use Rattle.tas_model.specs.declared.entry.FourTuple.{FourTuple}
use Rattle.slow_worker.specs.Workers.{has_tuple, id_of, flow_with, HasItsPin, AreKept}
use Rattle.slow_worker.specs.Opening.{with_open}
use Rattle.slow_worker.specs.declared.known.KnownFlow.{KnownFlow}

-- ----- acting
-- who may act may act after a step
pub still_may : (v w : View) (ds : List Deed) (won lost : List FlowId) → w.turns ≡ noted ds won lost v.turns
    → w.baton ≡ v.baton → w.made ≡ v.made → MayAct v → MayAct w
still_may v w ds won lost e baton made = ⊎_elim
    (λ t. inl (still_turn v w ds won lost e t))
    (λ a. inr (baton ∙ a.0, e ∙ ap (noted ds won lost) a.1, made ∙ a.2))

-- ----- the next free slot
free_dead : (m : Mark) → is_free m ≡ true → m.live ≡ false
free_dead m e = by_live m.live e where
  by_live : (b : Bool) → not b ≡ true → b ≡ false
  by_live true h = absurd (cc (h))
  by_live false h = refl

slot_of : Option FlowId → ℕ
slot_of None = 0
slot_of (Some y) = y.slot

-- its mark says so
pub next_free : (ms : List Mark) (f : FlowId) → next_in ms ≡ Some f
    → (m : Mark) × (get_elem? ms f.slot ≡ O.some m) × (m.live ≡ false)
unfolding slot_of
next_free ms f e = of_place (position is_free ms) refl e where
  of_place : (p : Option ℕ) → position is_free ms ≡ p → next_of ms p ≡ Some f
      → (m : Mark) × (get_elem? ms f.slot ≡ O.some m) × (m.live ≡ false)
  of_place None is q = absurd (none_some f q)
  of_place (Some i) is q =
      let p = position-Some is_free ms i (mark 0 false false) is in
      let at : i ≡ f.slot = ap slot_of q in (
        mark_at ms i,
        ap (get_elem? ms) (sym at) ∙ at_get ms i (mark 0 false false) p.0,
        free_dead (mark_at ms i) p.1,
      )

-- ----- lists
in_front : {A : Type 0} (l : List A) (f g : A) (k : ℕ) → slice_get l k ≡ Some g → slice_get (l ++ f ∷ []) k ≡ Some g
in_front {A} [] f g k e = absurd (none_here g e) where
  none_here : (x : A) → ◌≡◌ {A = Option A} None (Some x) → ⊥
  none_here x q = absurd (cc)
in_front (x ∷ xs) f g zero e = e
in_front (x ∷ xs) f g (suc k) e = in_front xs f g k e

at_end : {A : Type 0} (l : List A) (f : A) → slice_get (l ++ f ∷ []) (length l) ≡ Some f
at_end [] f = refl
at_end (x ∷ xs) f = at_end xs f

value_or : {A : Type 0} → A → Option A → A
value_or d None = d
value_or d (Some x) = x

in_longer : {A : Type 0} (l : List A) (f g : A) (k : ℕ) → slice_get (l ++ f ∷ []) k ≡ Some g
    → (slice_get l k ≡ Some g) ⊎ (f ≡ g)
unfolding value_or
in_longer [] f g zero e = inr (ap (value_or f) e)
in_longer {A} [] f g (suc k) e = absurd (none_here g e) where
  none_here : (x : A) → ◌≡◌ {A = Option A} None (Some x) → ⊥
  none_here x q = absurd (cc)
in_longer (x ∷ xs) f g zero e = inl e
in_longer (x ∷ xs) f g (suc k) e = in_longer xs f g k e

-- ----- the pin of a flow
-- two owned flows of one slot are one
pub same_owned : (s : Seen) (f g : FlowId) → IsOwner f s → IsOwner g s → f.slot ≡ g.slot → f ≡ g
same_owned s f g (hf, (df, mf)) (hg, (dg, mg)) e =
    let marks : mark f.generation true df ≡ mark g.generation true dg =
    some-injective _ _ (sym mf ∙ (ap (get_elem? s.view.marks) e ∙ mg)) in
    let generation : f.generation ≡ g.generation = ap (λ (m : Mark). m.generation) marks in
    λ q. record { slot = e q; generation = generation q }

pub place_of_pin : (t : TableId) (pass : Seen) (doomed pins : List FlowId) (flows : List KnownFlow) (id p : FlowId)
    (k : ℕ)
    → AreKept t pass doomed pins flows → HasItsPin pins id → position (is_on id.slot) pins ≡ Some k
    → slice_get pins k ≡ Some p → p ≡ id
place_of_pin t pass doomed pins flows id p k kept (j, at) place there =
    let d = position-Some (is_on id.slot) pins k id place in
    let on : p.slot ≡ id.slot = slot_at pins k p d.1 there in
    let each : (i : ℕ) (f : FlowId) → slice_get pins i ≡ Some f → IsOwner f pass =
    λ i f q. (each_at (clock.IsKept t.slots pass) pins i f kept.owned.each_pin q).0 in
    same_owned pass p id (each k p there) (each j id at) on
  where
    slot_at : (l : List FlowId) (n : ℕ) (q : FlowId) → is_on id.slot (slice_index_or l n id) ≡ true
        → slice_get l n ≡ Some q → q.slot ≡ id.slot
    slot_at [] n q h e = absurd (none_some q e)
    slot_at (x ∷ xs) zero q h e =
        subst (λ (y : FlowId). y.slot ≡ id.slot) (same_pin x q e) (eqb-true x.slot id.slot h)
    slot_at (x ∷ xs) (suc n) q h e = slot_at xs n q h e

lower_or : (n m : ℕ) → cond {A = Option ℕ} (nat_lt n m) (Some n) None ≡ None → m ≤ n
lower_or n m e = by_test (nat_lt n m) refl e where
  none : (x : ℕ) → ◌≡◌ {A = Option ℕ} (Some x) None → ⊥
  none x q = absurd (cc)

  by_test : (b : Bool) → nat_lt n m ≡ b → cond {A = Option ℕ} b (Some n) None ≡ None → m ≤ n
  by_test true h q = absurd (none n q)
  by_test false h q = grind (arith, tests, h)

-- the list has a pin on the slot of the flow
pub has_place : (pins : List FlowId) (id : FlowId) → HasItsPin pins id → position (is_on id.slot) pins ≢ None
has_place pins id (j, at) e =
    let past : length pins ≤ position_or_len (is_on id.slot) pins = lower_or _ _ e in
    let within : j < length pins = slice_get_within pins j id at in
    let fails : is_on id.slot (slice_index_or pins j id) ≡ false =
    fails_before_first (is_on id.slot) pins j id (omega (arith, past, within)) in
    let there : slice_index_or pins j id ≡ id = get_or_from_slice_get pins j id id at in
    let on : eqb id.slot id.slot ≡ false = subst (λ (x : FlowId). is_on id.slot x ≡ false) there fails in
    absurd (cc (on, eq-eqb id.slot id.slot refl))

-- ----- flows by their four-tuples
-- the flow that is found has its pin
pub found_pinned : (t : FourTuple) (id : FlowId) (flows : List KnownFlow) (pins : List FlowId)
    → flow_with t flows ≡ Some id
    → ((k : ℕ) (f : KnownFlow) → slice_get flows k ≡ Some f → HasItsPin pins f.id) → HasItsPin pins id
found_pinned t id [] pins e known = absurd (none_some id e)
found_pinned t id (f ∷ fs) pins e known =
    by_test (has_tuple t f) e (found_pinned t id fs pins) where
      by_test : (b : Bool) → option_map id_of (cond b (Some f) (find (has_tuple t) fs)) ≡ Some id
          → (flow_with t fs ≡ Some id
          → ((k : ℕ) (g : KnownFlow) → slice_get fs k ≡ Some g → HasItsPin pins g.id) → HasItsPin pins id)
          → HasItsPin pins id
      by_test true q rest = subst (λ (x : FlowId). HasItsPin pins x) (same_pin f.id id q) (known 0 f refl)
      by_test false q rest = rest q (λ k g. known (suc k) g)

-- what a call by a pin in the list asks for
pub pin_ready : (t : TableId) (pass : Seen) (doomed pins : List FlowId) (flows : List KnownFlow) (p : FlowId) (k : ℕ)
    → AreKept t pass doomed pins flows → slice_get pins k ≡ Some p
    → (p.slot < t.slots) × ((pass.table ≡ t) × HasPin pass.view p × MayAct pass.view) × (pass.view.held ≡ [])
pin_ready t pass doomed pins flows p k kept at =
    let own = each_at (clock.IsKept t.slots pass) pins k p kept.owned.each_pin at in
    (own.1, (kept.ready.0, own.0.0, kept.ready.1), kept.ready.2)

-- ----- steps
-- a record was taken and given back
pub kept_used : (t : TableId) (id : FlowId) (r : Flow) (after : History) (s n : Seen) (doomed pins : List FlowId)
    (flows : List KnownFlow) → n.table ≡ s.table → IsUse id r after s.view n.view → AreKept t s doomed pins flows
    → AreKept t n doomed pins flows
kept_used t id r after s n doomed pins flows table u k = record {
  ready = ready_still t s n table (after_use id r after s.view n.view u) k.ready;
  owned = kept_after_use t.slots id r after s n doomed pins u k.owned;
  known = k.known;
}

pub kept_refused : (t : TableId) (id : FlowId) (fault : CallFault) (s n : Seen) (doomed pins : List FlowId)
    (flows : List KnownFlow) → n.table ≡ s.table → IsCallRefused id s.view n.view fault
    → AreKept t s doomed pins flows → AreKept t n doomed pins flows
kept_refused t id (Busy x) s n doomed pins flows table r k = record {
  ready = ready_still t s n table (after_refusal id (Busy x) s.view n.view r) k.ready;
  owned = kept_after_refusal t.slots id (Busy x) s n doomed pins r k.owned;
  known = k.known;
}
kept_refused t id OutOfMemory s n doomed pins flows table (r, own, given) k =
    kept_used t id r _ s n doomed pins flows table given k

-- the next flow was opened
kept_opened : (t : TableId) (id : FlowId) (h : History) (s n : Seen) (doomed pins : List FlowId)
    (flows : List KnownFlow) (f : KnownFlow) → next_in s.view.marks ≡ Some id → id.slot < t.slots → f.id ≡ id
    → n ≡ with_open id h s → AreKept t s doomed pins flows
    → AreKept t n doomed (pins ++ id ∷ []) (flows ++ f ∷ [])
kept_opened t id h s n doomed pins flows f next near named e k =
    let free = next_free s.view.marks id next in
    let v = ap (λ (x : Seen). x.view) e in
    record {
      ready = (
        ap (λ (x : Seen). x.table) e ∙ k.ready.0,
        still_may s.view n.view _ (id ∷ []) [] (ap (λ (x : View). x.turns) v) (ap (λ (x : View). x.baton) v)
            (ap (λ (x : View). x.made) v) k.ready.1,
        ap (λ (x : View). x.held) v ∙ k.ready.2,
      );
      owned = kept_after_opening t.slots id h free.0 s n doomed pins v free.1 free.2 near k.owned;
      known = λ i g q. ⊎_elim (λ old. let p = k.known i g old in (p.0, in_front pins id g.id p.0 p.1))
          (λ same. (length pins, at_end pins id ∙ ap Some (sym named ∙ ap (λ (x : KnownFlow). x.id) same)))
          (in_longer flows f g i q);
    }

-- the same, with what the calls answer
pub opened_kept : (t : TableId) (id p : FlowId) (h : History) (s n : Seen) (doomed pins pins' : List FlowId)
    (flows flows' : List KnownFlow) (f : KnownFlow) → next_in s.view.marks ≡ Some id → id.slot < t.slots → f.id ≡ id
    → p ≡ id → n ≡ with_open p h s → pins' ≡ pins ++ p ∷ [] → flows' ≡ flows ++ f ∷ []
    → AreKept t s doomed pins flows → AreKept t n doomed pins' flows'
opened_kept t id p h s n doomed pins pins' flows flows' f next near named is e more_pins more_flows k =
    let opening : n ≡ with_open id h s = e ∙ ap (λ x. with_open x h s) is in
    let after : AreKept t n doomed (pins ++ id ∷ []) (flows ++ f ∷ []) =
    kept_opened t id h s n doomed pins flows f next near named opening k in
    let with_pins : AreKept t n doomed pins' (flows ++ f ∷ []) =
    subst (λ l. AreKept t n doomed l (flows ++ f ∷ [])) (sym (more_pins ∙ ap (λ x. pins ++ x ∷ []) is)) after in
    subst (AreKept t n doomed pins') (sym more_flows) with_pins
