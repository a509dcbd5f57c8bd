-- What the slow path may still do after each step, and that it has the pins of its lists still.
use mathlib.Core.Option as O
use Rattle.std.proofs.Common.{Bool, refl, true≢false, ◌≡◌, ◌≢◌, ℕ, zero, suc, true, List, [], ◌∷◌, ◌++◌, ap, sym, ◌∙◌}
use Rattle.std.proofs.Common.{◌==◌, cond, ◌+◌, ◌<◌, ◌≤◌, false, arith, inl, inr, ⊎_elim, subst, length, length-set}
use Rattle.std.specs.Prelude.{Some, slice_get, remove}
use lib.ListN.{get_elem?}
use mathlib.Core.Logic.{dite}
use native.Mathlib.Decide.{ℕ_discrete}
use Rattle.atomic_table.proofs.Lists.{set_here, set_else}
use Rattle.atomic_table.specs.Seated.{TableId}
use Rattle.tas_model.specs.declared.entry.FlowId.{FlowId}
use Rattle.flow_state.specs.Flow.{Flow}
use Rattle.flow_lock.specs.Callers.{IsOwner}
use Rattle.flow_lock.specs.Orders.{total, at_slot, named, once_below}
use Rattle.flow_lock.specs.Passes.{Seen}
use Rattle.flow_lock.specs.Steps.{HasAll, MayAct, mark, noted, opened}
use Rattle.flow_lock.specs.declared.view.Deed.{Deed}
use Rattle.flow_lock.specs.declared.view.History.{History}
use Rattle.flow_lock.specs.declared.view.Mark.{Mark}
use Rattle.flow_lock.specs.declared.view.Turn.{Turn}
use Rattle.flow_lock.specs.declared.view.View.{View}
use Rattle.flow_lock.proofs.Calling.{still_turn, same_turn}
use Rattle.flow_lock.proofs.Sums.{at_below, total-append}
use Rattle.app_reaper.specs.OneCall.{IsUse, IsCallRefused}
use Rattle.app_reaper.specs.Sweeping.{IsSweep, StaysDoomed}
use Rattle.app_reaper.specs.declared.one_call.CallFault.{CallFault}
use Rattle.app_reaper.specs.declared.one_call.CallFault.TheVariants as faults
use Rattle.app_reaper.specs.declared.sweeping.Swept.{Swept}
use Rattle.app_reaper.specs.declared.sweeping.Swept.TheVariants.{Freed, Pinned}
use Rattle.app_reaper.proofs.Walking.{kept, on_itself, on_other, same_pin, none_some}
use Rattle.host_rounds.specs.Lists.{Each}
use Rattle.flow_clock.specs.Ledgers.{IsReady, KeepsRights, IsKept, AreKept}
use Rattle.flow_clock.specs.Walks.{doomed_with}

-- ----- the right to act
-- The turns bear the names that they bore.
named_still : (p : ℕ) (ds : List Deed) (won lost : List FlowId) (ts : List Turn)
    → total (λ (t : Turn). cond {A = ℕ} (t.name == p) 1 0) (noted ds won lost ts)
    ≡ total (λ (t : Turn). cond {A = ℕ} (t.name == p) 1 0) ts
named_still p ds won lost [] = refl
named_still p ds won lost (t ∷ ts) = refl

all_still : (v w : View) → ((p : ℕ) → named p w ≡ named p v) → w.made ≡ v.made → HasAll v → HasAll w
all_still v w names m has p = names p ∙ (has p ∙ ap (once_below p) (sym m))

still_rights : (v w : View) (ds : List Deed) (won lost : List FlowId) → w.turns ≡ noted ds won lost v.turns
    → w.baton ≡ v.baton → w.made ≡ v.made → w.parts ≡ v.parts → (v.held ≡ [] → w.held ≡ []) → w.opened ≡ v.opened
    → length w.marks ≡ length v.marks → KeepsRights v w
still_rights v w ds won lost t b m p idle o l = record {
  alone = λ is. (b ∙ is.0, t ∙ ap (noted ds won lost) is.1, m ∙ is.2);
  turned = still_turn v w ds won lost t;
  all = all_still v w
      (λ p. ap (total (λ (x : Turn). cond {A = ℕ} (x.name == p) 1 0)) t ∙ named_still p ds won lost v.turns) m;
  idle = idle;
  baton = b;
  parts = p;
  opened = o;
  slots = l;
}

same_rights : (v w : View) → w.turns ≡ v.turns → w.baton ≡ v.baton → w.made ≡ v.made → w.parts ≡ v.parts
    → w.held ≡ v.held → w.opened ≡ v.opened → length w.marks ≡ length v.marks → KeepsRights v w
same_rights v w t b m p h o l = record {
  alone = λ is. (b ∙ is.0, t ∙ is.1, m ∙ is.2);
  turned = same_turn v w t;
  all = all_still v w (λ p. ap (total (λ (x : Turn). cond {A = ℕ} (x.name == p) 1 0)) t) m;
  idle = λ is. h ∙ is;
  baton = b;
  parts = p;
  opened = o;
  slots = l;
}

pub no_step : (v : View) → KeepsRights v v
no_step v = record {
  alone = λ is. is;
  turned = λ is. is;
  all = λ is. is;
  idle = λ is. is;
  baton = refl;
  parts = refl;
  opened = refl;
  slots = refl;
}

pub two_steps : (v u w : View) → KeepsRights v u → KeepsRights u w → KeepsRights v w
two_steps v u w a b = record {
  alone = λ is. b.alone (a.alone is);
  turned = λ is. b.turned (a.turned is);
  all = λ is. b.all (a.all is);
  idle = λ is. b.idle (a.idle is);
  baton = b.baton ∙ a.baton;
  parts = b.parts ∙ a.parts;
  opened = b.opened ∙ a.opened;
  slots = b.slots ∙ a.slots;
}

pub after_use : (f : FlowId) (r : Flow) (h : History) (v w : View) → IsUse f r h v w → KeepsRights v w
after_use f r h v w u = still_rights v w _ [] [] (ap (λ (x : View). x.turns) u.3) (ap (λ (x : View). x.baton) u.3)
    (ap (λ (x : View). x.made) u.3) (ap (λ (x : View). x.parts) u.3) (λ e. ap (λ (x : View). x.held) u.3)
    (ap (λ (x : View). x.opened) u.3) (ap (λ (x : View). length x.marks) u.3)

pub after_refusal : (f : FlowId) (e : CallFault) (v w : View) → IsCallRefused f v w e → KeepsRights v w
after_refusal f (faults.Busy x) v w r = same_rights v w (ap (λ (y : View). y.turns) r.0.1)
    (ap (λ (y : View). y.baton) r.0.1) (ap (λ (y : View). y.made) r.0.1) (ap (λ (y : View). y.parts) r.0.1)
    (ap (λ (y : View). y.held) r.0.1) (ap (λ (y : View). y.opened) r.0.1) (ap (λ (y : View). length y.marks) r.0.1)
after_refusal f faults.OutOfMemory v w r = after_use f r.0 _ v w r.2

pub after_sweep : (f : FlowId) (v w : View) (a : Swept) → IsSweep f v w a → KeepsRights v w
after_sweep f v w Freed s = still_rights v w [] [] (f ∷ []) (ap (λ (x : View). x.turns) s.1)
    (ap (λ (x : View). x.baton) s.1) (ap (λ (x : View). x.made) s.1) (ap (λ (x : View). x.parts) s.1)
    (λ e. ap (λ (x : View). x.held) s.1 ∙ e) (ap (λ (x : View). x.opened) s.1)
    (ap (λ (x : View). length x.marks) s.1 ∙ (length-set _ f.slot _ ∙ length-set v.marks f.slot _))
after_sweep f v w (Pinned n pin) s = ⊎_elim
    (λ e. same_rights v w (ap (λ (x : View). x.turns) e) (ap (λ (x : View). x.baton) e) (ap (λ (x : View). x.made) e)
    (ap (λ (x : View). x.parts) e) (ap (λ (x : View). x.held) e) (ap (λ (x : View). x.opened) e)
    (ap (λ (x : View). length x.marks) e ∙ length-set v.marks f.slot _))
    (λ y. same_rights v w (ap (λ (x : View). x.turns) y.1) (ap (λ (x : View). x.baton) y.1)
    (ap (λ (x : View). x.made) y.1) (ap (λ (x : View). x.parts) y.1) (ap (λ (x : View). x.held) y.1)
    (ap (λ (x : View). x.opened) y.1) (ap (λ (x : View). length x.marks) y.1 ∙ length-set v.marks f.slot _))
    s.3

may_still : (v w : View) → KeepsRights v w → MayAct v → MayAct w
may_still v w is (inl turn) = inl (is.turned turn)
may_still v w is (inr alone) = inr (is.alone alone)

pub ready_still : (t : TableId) (s n : Seen) → n.table ≡ s.table → KeepsRights s.view n.view → IsReady t s → IsReady t n
ready_still t s n table keeps is = (table ∙ is.0, may_still s.view n.view keeps is.1, keeps.idle is.2)

-- ----- lists
pub each_map : {X : Type 0} (P Q : X → Type 0) (l : List X) → ((x : X) → P x → Q x) → Each P l → Each Q l
each_map P Q [] f e = tt
each_map P Q (x ∷ xs) f e = (f x e.0, each_map P Q xs f e.1)

pub each_at : (P : FlowId → Type 0) (l : List FlowId) (i : ℕ) (f : FlowId) → Each P l
    → slice_get l i ≡ Some f → P f
each_at P [] i f e q = absurd (none_some f q)
each_at P (x ∷ xs) zero f e q = subst P (same_pin x f q) e.0
each_at P (x ∷ xs) (suc i) f e q = each_at P xs i f e.1 q

pub each_more : {X : Type 0} (P : X → Type 0) (l : List X) (x : X) → Each P l → P x → Each P (l ++ x ∷ [])
each_more P [] x e p = (p, tt)
each_more P (y ∷ ys) x e p = (e.0, each_more P ys x e.1 p)

pub each_rest : (P : FlowId → Type 0) (l : List FlowId) (i : ℕ) → Each P l → Each P (remove l i)
each_rest P [] zero e = tt
each_rest P [] (suc i) e = tt
each_rest P (x ∷ xs) zero e = e.1
each_rest P (x ∷ xs) (suc i) e = (e.0, each_rest P xs i e.1)

pub total_rest : (g : FlowId → ℕ) (l : List FlowId) (i : ℕ) (f : FlowId) → slice_get l i ≡ Some f
    → total g l ≡ g f + total g (remove l i)
total_rest g [] i f q = absurd (none_some f q)
total_rest g (x ∷ xs) zero f q = ap (λ y. g y + total g xs) (same_pin x f q)
total_rest g (x ∷ xs) (suc i) f q = let more = total_rest g xs i f q in omega arith

-- no pin of the list is on the slot
each_else : (P Q : FlowId → Type 0) (i : ℕ) (l : List FlowId) → total (at_slot i) l ≡ 0
    → ((g : FlowId) → g.slot ≢ i → P g → Q g) → Each P l → Each Q l
each_else P Q i [] none f e = tt
each_else P Q i (x ∷ xs) none f e =
    let rest : total (at_slot i) xs ≡ 0 = omega arith in
    let here : x.slot ≢ i = λ s. absurd (let one = subst (λ k. at_slot k x ≡ 1) s (on_itself x) in omega arith) in
    (f x here e.0, each_else P Q i xs rest f e.1)

-- ----- pins of lists
-- the pins and what is remembered of slots stayed
pub same_owner : (f : FlowId) (s n : Seen) → n.view.pins ≡ s.view.pins → n.view.marks ≡ s.view.marks → IsOwner f s
    → IsOwner f n
same_owner f s n pins marks is = (
  (is.0.0, ap (λ l. get_elem? l is.0.0) pins ∙ is.0.1),
  (is.1.0, ap (λ (l : List Mark). get_elem? l f.slot) marks ∙ is.1.1),
)

pub still_kept : (slots : ℕ) (s n : Seen) (doomed pins : List FlowId) → n.view.pins ≡ s.view.pins
    → n.view.marks ≡ s.view.marks → AreKept slots s doomed pins → AreKept slots n doomed pins
still_kept slots s n doomed pins p m is =
    let same : (f : FlowId) → IsKept slots s f → IsKept slots n f = λ f k. (same_owner f s n p m k.0, k.1) in record {
      each_doomed = each_map (IsKept slots s) (IsKept slots n) doomed same is.each_doomed;
      each_pin = each_map (IsKept slots s) (IsKept slots n) pins same is.each_pin;
      once = is.once;
    }

pub kept_after_use : (slots : ℕ) (f : FlowId) (r : Flow) (h : History) (s n : Seen) (doomed pins : List FlowId)
    → IsUse f r h s.view n.view → AreKept slots s doomed pins → AreKept slots n doomed pins
kept_after_use slots f r h s n doomed pins u is =
    still_kept slots s n doomed pins (ap (λ (x : View). x.pins) u.3) (ap (λ (x : View). x.marks) u.3) is

pub kept_after_refusal : (slots : ℕ) (f : FlowId) (e : CallFault) (s n : Seen) (doomed pins : List FlowId)
    → IsCallRefused f s.view n.view e → AreKept slots s doomed pins → AreKept slots n doomed pins
kept_after_refusal slots f (faults.Busy x) s n doomed pins r is =
    still_kept slots s n doomed pins (ap (λ (y : View). y.pins) r.0.1) (ap (λ (y : View). y.marks) r.0.1) is
kept_after_refusal slots f faults.OutOfMemory s n doomed pins r is = kept_after_use slots f r.0 _ s n doomed pins r.2 is

-- a pin goes from one list to the other
pub pulled : (slots : ℕ) (s : Seen) (doomed pins : List FlowId) (i : ℕ) (f : FlowId) → slice_get pins i ≡ Some f
    → AreKept slots s doomed pins → AreKept slots s (f ∷ doomed) (remove pins i)
pulled slots s doomed pins i f q is = record {
  each_doomed = (each_at (IsKept slots s) pins i f is.each_pin q, is.each_doomed);
  each_pin = each_rest (IsKept slots s) pins i is.each_pin;
  once = λ j. let o = is.once j in let t = total_rest (at_slot j) pins i f q in omega arith;
}

-- ----- a flow that was swept
-- another flow's pin, and its mark, stay
other_owner : (f g : FlowId) (s n : Seen) (a : Swept) → IsSweep f s.view n.view a → g.slot ≢ f.slot → IsOwner g s
    → IsOwner g n
other_owner f g s n Freed w ne is =
    let pin = kept f.slot s.view.pins is.0.0 g ne is.0.1 in (
      (pin.0, ap (λ (x : View). get_elem? x.pins pin.0) w.1 ∙ pin.1),
      (
        is.1.0,
        ap (λ (x : View). get_elem? x.marks g.slot) w.1
            ∙ (set_else _ f.slot g.slot _ ne ∙ (set_else s.view.marks f.slot g.slot _ ne ∙ is.1.1)),
      ),
    )
other_owner f g s n (Pinned k pin) w ne is = ⊎_elim
    (λ e. (
      (is.0.0, ap (λ (x : View). get_elem? x.pins is.0.0) e ∙ is.0.1),
      (
        is.1.0,
        ap (λ (x : View). get_elem? x.marks g.slot) e ∙ (set_else s.view.marks f.slot g.slot _ ne ∙ is.1.1),
      ),
    ))
    (λ y. (
      (is.0.0, ap (λ (x : View). get_elem? x.pins is.0.0) y.1 ∙ is.0.1),
      (
        is.1.0,
        ap (λ (x : View). get_elem? x.marks g.slot) y.1 ∙ (set_else s.view.marks f.slot g.slot _ ne ∙ is.1.1),
      ),
    ))
    w.3

pub kept_after_sweep : (slots : ℕ) (f : FlowId) (s n : Seen) (a : Swept) (doomed pins : List FlowId)
    → IsSweep f s.view n.view a → StaysDoomed f n a → AreKept slots s (f ∷ doomed) pins
    → AreKept slots n (doomed_with f a doomed) pins
kept_after_sweep slots f s n a doomed pins w stays is = by_swept a w stays
  where
    here : at_slot f.slot f ≡ 1
    here = on_itself f

    none_doomed : total (at_slot f.slot) doomed ≡ 0
    none_doomed = let o = is.once f.slot in let h = here in omega arith

    none_pinned : total (at_slot f.slot) pins ≡ 0
    none_pinned = let o = is.once f.slot in let h = here in omega arith

    other : (b : Swept) → IsSweep f s.view n.view b → (g : FlowId) → g.slot ≢ f.slot → IsKept slots s g
        → IsKept slots n g
    other b swept g ne k = (other_owner f g s n b swept ne k.0, k.1)

    by_swept : (b : Swept) → IsSweep f s.view n.view b → StaysDoomed f n b
        → AreKept slots n (doomed_with f b doomed) pins
    by_swept Freed swept stay = record {
      each_doomed = each_else (IsKept slots s) (IsKept slots n) f.slot doomed none_doomed (other Freed swept)
          is.each_doomed.1;
      each_pin = each_else (IsKept slots s) (IsKept slots n) f.slot pins none_pinned (other Freed swept) is.each_pin;
      once = λ j. let o = is.once j in omega arith;
    }
    by_swept (Pinned k pin) swept stay =
        let mine : IsKept slots n f = ((stay.0, (true, stay.1)), is.each_doomed.0.1) in
        let each = each_else (IsKept slots s) (IsKept slots n) f.slot doomed none_doomed (other (Pinned k pin) swept)
        is.each_doomed.1 in
        record {
          each_doomed = each_more (IsKept slots n) doomed f each mine;
          each_pin = each_else (IsKept slots s) (IsKept slots n) f.slot pins none_pinned (other (Pinned k pin) swept)
              is.each_pin;
          once = λ j.
              let o = is.once j in let a = total-append (at_slot j) doomed (f ∷ []) in omega arith;
        }

-- the lists as they are then
pub pulled_to : (slots : ℕ) (s : Seen) (doomed doomed' pins pins' : List FlowId) (i : ℕ) (f : FlowId)
    → slice_get pins i ≡ Some f → doomed' ≡ doomed → pins' ≡ remove pins i → AreKept slots s doomed pins
    → AreKept slots s (f ∷ doomed') pins'
pulled_to slots s doomed doomed' pins pins' i f q d p is =
    subst (λ (l : List FlowId). AreKept slots s (f ∷ l) pins') (sym d)
    (subst (AreKept slots s (f ∷ doomed)) (sym p) (pulled slots s doomed pins i f q is))

-- ----- a flow that was opened
-- each of these stands in another slot
none_here : (P : FlowId → Type 0) (i : ℕ) (l : List FlowId) → ((g : FlowId) → P g → g.slot ≢ i) → Each P l
    → total (at_slot i) l ≡ 0
none_here P i [] else' e = refl
none_here P i (x ∷ xs) else' e =
    let here = on_other i x (else' x e.0) in
    let rest = none_here P i xs else' e.1 in
    omega arith

abbrev live_of : O.Option Mark → Bool
live_of O.none = false
live_of (O.some m) = m.live

opened_owner : (f g : FlowId) (h : History) (s n : Seen) → n.view ≡ opened f h s.view → g.slot ≢ f.slot → IsOwner g s
    → IsOwner g n
opened_owner f g h s n e ne is = (
  (suc is.0.0, ap (λ (x : View). get_elem? x.pins (suc is.0.0)) e ∙ is.0.1),
  (is.1.0, ap (λ (x : View). get_elem? x.marks g.slot) e ∙ (set_else s.view.marks f.slot g.slot _ ne ∙ is.1.1)),
)

-- The slow path opened a flow in a free slot, and puts its pin behind the others.
pub kept_after_opening : (slots : ℕ) (f : FlowId) (h : History) (m : Mark) (s n : Seen) (doomed pins : List FlowId)
    → n.view ≡ opened f h s.view → get_elem? s.view.marks f.slot ≡ O.some m → m.live ≡ false → f.slot < slots
    → AreKept slots s doomed pins → AreKept slots n doomed (pins ++ f ∷ [])
kept_after_opening slots f h m s n doomed pins e free dead near is =
    let else' : (g : FlowId) → IsKept slots s g → g.slot ≢ f.slot = λ g k same.
    true≢false (sym (ap live_of k.0.1.1) ∙ (ap (λ i. live_of (get_elem? s.view.marks i)) same
    ∙ (ap live_of free ∙ dead))) in
    let none_doomed = none_here (IsKept slots s) f.slot doomed else' is.each_doomed in
    let none_pinned = none_here (IsKept slots s) f.slot pins else' is.each_pin in
    let other : (g : FlowId) → IsKept slots s g → IsKept slots n g = λ g k.
    (opened_owner f g h s n e (else' g k) k.0, k.1) in
    let mine : IsKept slots n f = (
      (
        (0, ap (λ (x : View). get_elem? x.pins 0) e),
        (
          false,
          ap (λ (x : View). get_elem? x.marks f.slot) e
              ∙ set_here s.view.marks f.slot (mark f.generation true false) (at_below s.view.marks f.slot m free),
        ),
      ),
      near,
    ) in
    record {
      each_doomed = each_map (IsKept slots s) (IsKept slots n) doomed other is.each_doomed;
      each_pin = each_more (IsKept slots n) pins f
          (each_map (IsKept slots s) (IsKept slots n) pins other is.each_pin) mine;
      once = λ i. dite (ℕ_discrete f.slot i)
          (λ same. subst (λ k. total (at_slot k) doomed + total (at_slot k) (pins ++ f ∷ []) ≤ 1) same
          (let a = total-append (at_slot f.slot) pins (f ∷ []) in let one = on_itself f in omega arith))
          (λ ne. let a = total-append (at_slot i) pins (f ∷ []) in let none = on_other i f ne in let o = is.once i in
          omega arith);
    }
