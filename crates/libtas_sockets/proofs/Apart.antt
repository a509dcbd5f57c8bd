-- Sockets on flows that are open, and the slot of a further flow: for the law `no_socket_is_in_the_way`.
use Rattle.std.proofs.Common.{◌≡◌, ℕ, suc, ◌<◌, Bool, true, false, not, eqb, eq-eqb, List, [], ◌∷◌, ap, sym, ◌∙◌, refl}
use Rattle.std.proofs.Common.{subst, arith, length}
use Rattle.std.specs.Prelude.{Option, Some, None, All, position, ◌&&◌, ◌||◌}
use Rattle.std.specs.List.{list_any}
use Rattle.std.proofs.lemmas.Bool.{eqb-true}
use Rattle.std.proofs.lemmas.List.Quantifiers.{position-Some}
use Rattle.tas_model.specs.declared.entry.FlowId.{FlowId}
use Rattle.flow_lock.specs.Answers.{is_free, is_open_in, next_of, next_in}
use Rattle.flow_lock.specs.Orders.{same_flow}
use Rattle.flow_lock.specs.Steps.{mark, mark_at}
use Rattle.flow_lock.specs.declared.view.Mark.{Mark}
use Rattle.app_reaper.specs.Lists.{is_on}

pub not_any : (i : ℕ) (l : List FlowId) → list_any (is_on i) l ≡ false → ¬ (list_any (is_on i) l ≡ true)
not_any i l none any = absurd (cc (none, any))

-- ----- what holds of each
abbrev IsOpen : List Mark → FlowId → Type 0
IsOpen ms f = is_open_in ms f ≡ true

head_of : (P : FlowId → Type 0) (f : FlowId) (l : List FlowId) → All P (f ∷ l) → P f
head_of P f l all = all 0 f (omega arith)

tail_of : (P : FlowId → Type 0) (f : FlowId) (l : List FlowId) → All P (f ∷ l) → All P l
tail_of P f l all = λ k d near. all (suc k) d (omega (arith, near))

-- ----- the slot that comes next
not_live : (b : Bool) → not b ≡ true → b ≡ false
not_live true e = absurd (cc (e))
not_live false e = refl

no_flow : (f : FlowId) → ◌≡◌ {A = Option FlowId} None (Some f) → ⊥
no_flow f q = absurd (cc (q))

abbrev slot_of : Option FlowId → ℕ
slot_of None = 0
slot_of (Some f) = f.slot

next_dead : (ms : List Mark) (f : FlowId) → next_in ms ≡ Some f → (mark_at ms f.slot).live ≡ false
next_dead ms f e = by_place (position is_free ms) refl e
  where
    by_place : (p : Option ℕ) → position is_free ms ≡ p → next_of ms p ≡ Some f → (mark_at ms f.slot).live ≡ false
    by_place None is q = absurd (no_flow f q)
    by_place (Some i) is q =
        let free = (position-Some is_free ms i (mark 0 false false) is).1 in
        let at : i ≡ f.slot = ap slot_of q in
        subst (λ k. (mark_at ms k).live ≡ false) at (not_live (mark_at ms i).live free)

dead_open : (live rest : Bool) → live ≡ false → (live && rest) ≡ true → ⊥
dead_open true rest dead e = absurd (cc (dead))
dead_open false rest dead e = absurd (cc (e))

none_dead : (ms : List Mark) (i : ℕ) (l : List FlowId) → (mark_at ms i).live ≡ false
    → All (λ (g : FlowId). is_open_in ms g ≡ true) l → list_any (is_on i) l ≡ false
none_dead ms i [] dead all = refl
none_dead ms i (f ∷ fs) dead all = by_slot (eqb f.slot i) refl (none_dead ms i fs dead (tail_of (IsOpen ms) f fs all))
  where
    by_slot : (b : Bool) → eqb f.slot i ≡ b → list_any (is_on i) fs ≡ false → (b || list_any (is_on i) fs) ≡ false
    by_slot true h rest =
        let here : (mark_at ms f.slot).live ≡ false = ap (λ k. (mark_at ms k).live) (eqb-true f.slot i h) ∙ dead in
        absurd (dead_open (mark_at ms f.slot).live _ here (head_of (IsOpen ms) f fs all))
    by_slot false h rest = rest

pub none_next : (ms : List Mark) (f : FlowId) (l : List FlowId) → next_in ms ≡ Some f
    → All (λ (g : FlowId). is_open_in ms g ≡ true) l → list_any (is_on f.slot) l ≡ false
none_next ms f l next all = none_dead ms f.slot l (next_dead ms f next) all

-- ----- the slot of another open flow
both_are : (a b : Bool) → (a && b) ≡ true → b ≡ true
both_are true b e = e
both_are false b e = absurd (cc (e))

-- open flows of one slot are one
one_open : (ms : List Mark) (f g : FlowId) → g.slot ≡ f.slot → is_open_in ms f ≡ true → is_open_in ms g ≡ true
    → same_flow f g ≡ true
one_open ms f g slot one other =
    let mine : (mark_at ms f.slot).generation ≡ f.generation =
    eqb-true (mark_at ms f.slot).generation f.generation (both_are (mark_at ms f.slot).live _ one) in
    let its : (mark_at ms g.slot).generation ≡ g.generation =
    eqb-true (mark_at ms g.slot).generation g.generation (both_are (mark_at ms g.slot).live _ other) in
    let same : f.generation ≡ g.generation = sym mine ∙ (ap (λ k. (mark_at ms k).generation) (sym slot) ∙ its) in
    ap (λ b. b && eqb f.generation g.generation) (eq-eqb f.slot g.slot (sym slot))
    ∙ eq-eqb f.generation g.generation same

pub none_other : (ms : List Mark) (f : FlowId) (l : List FlowId) → is_open_in ms f ≡ true
    → All (λ (g : FlowId). is_open_in ms g ≡ true) l → list_any (same_flow f) l ≡ false
    → list_any (is_on f.slot) l ≡ false
none_other ms f [] is all none = refl
none_other ms f (g ∷ gs) is all none =
    by_slot (eqb g.slot f.slot) refl (same_flow f g) refl none
    (none_other ms f gs is (tail_of (IsOpen ms) g gs all))
  where
    by_slot : (b : Bool) → eqb g.slot f.slot ≡ b → (s : Bool) → same_flow f g ≡ s
        → (s || list_any (same_flow f) gs) ≡ false
        → (list_any (same_flow f) gs ≡ false → list_any (is_on f.slot) gs ≡ false)
        → (b || list_any (is_on f.slot) gs) ≡ false
    by_slot b h true e none rest = absurd (cc (none))
    by_slot true h false e none rest =
        let its : is_open_in ms g ≡ true = head_of (IsOpen ms) g gs all in
        let same = one_open ms f g (eqb-true g.slot f.slot h) is its in
        absurd (cc (same, e))
    by_slot false h false e none rest = rest none
