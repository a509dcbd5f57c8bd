-- The pins of an application's pass, as its sockets come and go.
use Rattle.std.specs.Prelude.{Bool, not, ◌||◌}
use Rattle.std.proofs.Common.{◌≡◌, ◌≢◌, ℕ, zero, suc, ◌+◌, ◌≤◌, ◌<◌, cond, eqb, eq-eqb, ne_eqb, List}
use Rattle.std.proofs.Common.{[], ◌∷◌, ◌++◌, ap, sym, ◌∙◌, refl, subst, arith, true, false, ◌⊎◌, inl, inr}
use Rattle.std.specs.Prelude.{Option, Some, None, slice_get, remove, length, All, position, is_some}
use Rattle.std.specs.List.{list_any, position_or_len}
use Rattle.std.proofs.lemmas.Bool.{lt-ltb, eqb-true}
use Rattle.std.proofs.lemmas.List.Elements.{All-push}
use Rattle.std.proofs.lemmas.List.Folds.{list_any_at}
use Rattle.std.proofs.lemmas.List.Quantifiers.{position-Some}
use mathlib.Core.Logic.{dite}
use native.Mathlib.Decide.{ℕ_discrete}
use lib.ListN.{get_elem?}
use Rattle.atomic_table.specs.Seated.{TableId}
use Rattle.tas_model.specs.declared.entry.FlowId.{FlowId}
use Rattle.flow_lock.specs.Answers.{IsRefused}
use Rattle.flow_lock.specs.Claims.{HasPin, pins_on}
use Rattle.flow_lock.specs.Orders.{total, at_slot}
use Rattle.flow_lock.specs.Passes.{Seen}
use Rattle.flow_lock.specs.Steps.{without, unpinned}
use Rattle.flow_lock.specs.declared.pass.PinRefused.{PinRefused}
use Rattle.flow_lock.specs.declared.pass.PinRefused.TheVariants.{Stale, Moved}
use Rattle.flow_lock.specs.declared.view.View.{View}
use Rattle.flow_lock.proofs.Pinning.{without_here, without_else}
use Rattle.flow_lock.proofs.Sums.{total-append, term_le}
use Rattle.app_reaper.specs.Lists.{is_on}
use Rattle.app_reaper.specs.Reaping.{ArePins}
use Rattle.app_reaper.proofs.Walking.{same_pin, same_pins, there, none_some, on_itself, on_other, kept}
use Rattle.libtas_sockets.specs.Apps.{Application, IsSound, IsSocket, flow_on, flow_of, with_view, with_socket}
use Rattle.libtas_sockets.specs.Apps.{without_socket}
use Rattle.libtas_sockets.specs.Connecting.{begun_without}
use Rattle.libtas_sockets.specs.declared.socket.Socket.{Socket}
use Rattle.libtas_sockets.specs.declared.begun.Begun.{Begun}

-- ----- lists of pins
-- no pin is on the slot
pub none_on : (i : ℕ) (l : List FlowId) → list_any (is_on i) l ≡ false → total (at_slot i) l ≡ 0
none_on i [] e = refl
none_on i (f ∷ fs) e = by_place i f fs (eqb f.slot i) refl e (none_on i fs) where
  by_place : (i : ℕ) (f : FlowId) (fs : List FlowId) (b : Bool) → eqb f.slot i ≡ b
      → (b || list_any (is_on i) fs) ≡ false
      → (list_any (is_on i) fs ≡ false → total (at_slot i) fs ≡ 0) → cond b 1 0 + total (at_slot i) fs ≡ 0
  by_place i f fs true h e rest = absurd (cc (e))
  by_place i f fs false h e rest = omega (arith, rest e)

-- what stands in a list with one more at its end
pub in_more : (l : List FlowId) (f g : FlowId) (k : ℕ) → slice_get (l ++ f ∷ []) k ≡ Some g
    → (slice_get l k ≡ Some g) ⊎ (f ≡ g)
in_more [] f g zero e = inr (same_pin f g e)
in_more [] f g (suc k) e = absurd (none_some g e)
in_more (x ∷ xs) f g zero e = inl e
in_more (x ∷ xs) f g (suc k) e = in_more xs f g k e

-- what stands in a list without a slot's pins
pub in_without : (i : ℕ) (l : List FlowId) (k : ℕ) (g : FlowId) → slice_get (without i l) k ≡ Some g
    → (j : ℕ) × (slice_get l j ≡ Some g) × (g.slot ≢ i)
in_without i [] k g e = absurd (none_some g e)
in_without i (f ∷ fs) k g e = by_slot i f fs k g (ℕ_discrete f.slot i) e (in_without i fs) where
  moved : (f : FlowId) (fs : List FlowId) (g : FlowId) (i : ℕ) → ((j : ℕ) × (slice_get fs j ≡ Some g) × (g.slot ≢ i))
      → (j : ℕ) × (slice_get (f ∷ fs) j ≡ Some g) × (g.slot ≢ i)
  moved f fs g i r = (suc r.0, r.1, r.2)

  at_place : (i : ℕ) (f : FlowId) (fs : List FlowId) (k : ℕ) (g : FlowId) → f.slot ≢ i
      → slice_get (f ∷ without i fs) k ≡ Some g
      → ((k : ℕ) (g : FlowId) → slice_get (without i fs) k ≡ Some g → (j : ℕ) × (slice_get fs j ≡ Some g)
      × (g.slot ≢ i))
      → (j : ℕ) × (slice_get (f ∷ fs) j ≡ Some g) × (g.slot ≢ i)
  at_place i f fs zero g ne e rest = (0, e, λ h. ne (ap (λ (x : FlowId). x.slot) (same_pin f g e) ∙ h))
  at_place i f fs (suc k) g ne e rest = moved f fs g i (rest k g e)

  by_slot : (i : ℕ) (f : FlowId) (fs : List FlowId) (k : ℕ) (g : FlowId) → Dec (f.slot ≡ i)
      → slice_get (without i (f ∷ fs)) k ≡ Some g
      → ((k : ℕ) (g : FlowId) → slice_get (without i fs) k ≡ Some g → (j : ℕ) × (slice_get fs j ≡ Some g)
      × (g.slot ≢ i))
      → (j : ℕ) × (slice_get (f ∷ fs) j ≡ Some g) × (g.slot ≢ i)
  by_slot i f fs k g d e rest = dite d
      (λ h. moved f fs g i (rest k g (subst (λ b. slice_get (cond b (without i fs) (f ∷ without i fs)) k ≡ Some g)
      (eq-eqb f.slot i h) e)))
      (λ n. at_place i f fs k g n (subst (λ b. slice_get (cond b (without i fs) (f ∷ without i fs)) k ≡ Some g)
      (ne_eqb f.slot i n) e) rest)

-- a list with no pin on the slot stays
pub without_none : (i : ℕ) (l : List FlowId) → total (at_slot i) l ≡ 0 → without i l ≡ l
without_none i [] e = refl
without_none i (f ∷ fs) e = by_test i f fs (eqb f.slot i) e (without_none i fs) where
  by_test : (i : ℕ) (f : FlowId) (fs : List FlowId) (b : Bool) → cond b 1 0 + total (at_slot i) fs ≡ 0
      → (total (at_slot i) fs ≡ 0 → without i fs ≡ fs) → cond b (without i fs) (f ∷ without i fs) ≡ f ∷ fs
  by_test i f fs true e rest = absurd (omega (arith, e))
  by_test i f fs false e rest = ap (λ l. f ∷ l) (rest (omega (arith, e)))

-- with one pin a slot, to remove a pin is to leave out its slot
pub removed : (l : List FlowId) (k : ℕ) (f : FlowId) → ((i : ℕ) → total (at_slot i) l ≤ 1) → slice_get l k ≡ Some f
    → remove l k ≡ without f.slot l
removed [] k f once e = absurd (none_some f e)
removed (x ∷ xs) zero f once e =
    let is : x ≡ f = same_pin x f e in
    let here = on_itself x in
    let one = once x.slot in
    let none : total (at_slot x.slot) xs ≡ 0 = omega arith in
    let rest : without x.slot xs ≡ xs = without_none x.slot xs none in
    subst (λ (g : FlowId). xs ≡ without g.slot (x ∷ xs)) is
    (sym (subst (λ b. cond b (without x.slot xs) (x ∷ without x.slot xs) ≡ xs) (sym (eq-eqb x.slot x.slot refl)) rest))
removed (x ∷ xs) (suc k) f once e =
    let le = term_le (at_slot f.slot) xs k f (there xs k f e) in
    let here = on_itself f in
    let one = once f.slot in
    let ne : x.slot ≢ f.slot =
    λ h. absurd (let also : at_slot f.slot x ≡ 1 = ap (λ b. cond {A = ℕ} b 1 0) (eq-eqb x.slot f.slot h) in
    omega arith) in
    let less : (i : ℕ) → total (at_slot i) xs ≤ 1 = λ i. let o = once i in omega arith in
    ap (λ l. x ∷ l) (removed xs k f less e)
    ∙ sym (ap (λ b. cond b (without f.slot xs) (x ∷ without f.slot xs)) (ne_eqb x.slot f.slot ne))

-- ----- pins
pub pins_more : (slots : ℕ) (f : FlowId) (v w : View) (l : List FlowId) → w.pins ≡ f ∷ v.pins → f.slot < slots
    → list_any (is_on f.slot) l ≡ false → ArePins slots v l → ArePins slots w (l ++ f ∷ [])
pins_more slots f v w l e near free a = record {
  has = λ k g q. has k g (in_more l f g k q);
  once = λ i. once i;
  all = λ i.
      let t = total-append (at_slot i) l (f ∷ []) in
      let s = a.all i in
      let p : total (at_slot i) w.pins ≡ at_slot i f + total (at_slot i) v.pins =
      ap (total (at_slot i)) e in omega arith;
} where
  has : (k : ℕ) (g : FlowId) → (slice_get l k ≡ Some g) ⊎ (f ≡ g) → HasPin w g × (g.slot < slots)
  has k g (inl q) = let h = a.has k g q in ((suc h.0.0, ap (λ x. get_elem? x (suc h.0.0)) e ∙ h.0.1), h.1)
  has k g (inr q) = subst (λ (x : FlowId). HasPin w x × (x.slot < slots)) q ((0, ap (λ x. get_elem? x 0) e), near)

  once : (i : ℕ) → total (at_slot i) (l ++ f ∷ []) ≤ 1
  once i = dite (ℕ_discrete f.slot i)
      (λ h. subst (λ j. total (at_slot j) (l ++ f ∷ []) ≤ 1) h
      (let t = total-append (at_slot f.slot) l (f ∷ []) in
      let none = none_on f.slot l free in let one = on_itself f in omega arith))
      (λ n.
      let t = total-append (at_slot i) l (f ∷ []) in
      let o = a.once i in let other = on_other i f n in omega arith)

pub pins_less : (slots : ℕ) (i : ℕ) (v w : View) (l : List FlowId) → w.pins ≡ without i v.pins → ArePins slots v l
    → ArePins slots w (without i l)
pins_less slots i v w l e a = record {
  has = λ k g q.
      let r = in_without i l k g q in
      let h = a.has r.0 g r.1 in
      let s = kept i v.pins h.0.0 g r.2 h.0.1 in ((s.0, ap (λ x. get_elem? x s.0) e ∙ s.1), h.1);
  once = λ j. dite (ℕ_discrete j i)
      (λ h. subst (λ k. total (at_slot k) (without i l) ≤ 1) (sym h) (let z = without_here i l in omega arith))
      (λ n. let z = without_else i j l n in let o = a.once j in omega arith);
  all = λ j. ap (total (at_slot j)) e ∙ dite (ℕ_discrete j i)
      (λ h. subst (λ k. total (at_slot k) (without i v.pins) ≡ total (at_slot k) (without i l)) (sym h)
      (without_here i v.pins ∙ sym (without_here i l)))
      (λ n. without_else i j v.pins n ∙ (a.all j ∙ sym (without_else i j l n)));
}

-- ----- how many sockets there are
-- the pins on a slot, and the others
parted : (i : ℕ) (l : List FlowId) → length l ≡ total (at_slot i) l + length (without i l)
parted i [] = refl
parted i (f ∷ fs) = by_test i f fs (eqb f.slot i) (parted i fs) where
  by_test : (i : ℕ) (f : FlowId) (fs : List FlowId) (b : Bool)
      → length fs ≡ total (at_slot i) fs + length (without i fs)
      → suc (length fs) ≡ cond b 1 0 + total (at_slot i) fs + length (cond b (without i fs) (f ∷ without i fs))
  by_test i f fs true e = omega (arith, e)
  by_test i f fs false e = omega (arith, e)

-- With one pin a slot, there are no more pins than slots.
pub pins_fit : (slots : ℕ) (l : List FlowId) → ((i : ℕ) → total (at_slot i) l ≤ 1)
    → ((k : ℕ) (f : FlowId) → slice_get l k ≡ Some f → f.slot < slots) → length l ≤ slots
pins_fit zero [] once near = omega arith
pins_fit zero (f ∷ fs) once near = absurd (let n = near 0 f refl in omega arith)
pins_fit (suc n) l once near =
    let rest : length (without n l) ≤ n = pins_fit n (without n l)
    (λ j. dite (ℕ_discrete j n)
    (λ h. subst (λ k. total (at_slot k) (without n l) ≤ 1) (sym h) (let z = without_here n l in omega arith))
    (λ m. let z = without_else n j l m in let o = once j in omega arith))
    (λ k f q. let r = in_without n l k f q in let b = near r.0 f r.1 in
    let other : f.slot ≢ n = r.2 in omega arith) in
    let p = parted n l in
    let o = once n in
    omega arith

-- ----- between two calls
pub sound_moved : (s n : Seen) (b : List Begun) (l : List FlowId) → n.table ≡ s.table → n.view.pins ≡ s.view.pins
    → n.view.held ≡ [] → IsSound s b l → IsSound n b l
sound_moved s n b l t p h is = record {
  pins = subst (λ (x : TableId). ArePins x.slots n.view l) (sym t) (same_pins s.table.slots s.view n.view l p is.pins);
  idle = h;
  slots = subst (λ (x : TableId). All (λ (q : Begun). q.id.slot < x.slots) b) (sym t) is.slots;
}

pub sound_more : (s n : Seen) (b : List Begun) (l : List FlowId) (f : FlowId) → n.table ≡ s.table
    → n.view.pins ≡ f ∷ s.view.pins → n.view.held ≡ [] → f.slot < s.table.slots → list_any (is_on f.slot) l ≡ false
    → IsSound s b l → IsSound n b (l ++ f ∷ [])
sound_more s n b l f t p h near free is = record {
  pins = subst (λ (x : TableId). ArePins x.slots n.view (l ++ f ∷ [])) (sym t)
      (pins_more s.table.slots f s.view n.view l p near free is.pins);
  idle = h;
  slots = subst (λ (x : TableId). All (λ (q : Begun). q.id.slot < x.slots) b) (sym t) is.slots;
}

pub sound_less : (s n : Seen) (b : List Begun) (l : List FlowId) (i : ℕ) → n.table ≡ s.table
    → n.view.pins ≡ without i s.view.pins → n.view.held ≡ [] → IsSound s b l → IsSound n b (without i l)
sound_less s n b l i t p h is = record {
  pins = subst (λ (x : TableId). ArePins x.slots n.view (without i l)) (sym t)
      (pins_less s.table.slots i s.view n.view l p is.pins);
  idle = h;
  slots = subst (λ (x : TableId). All (λ (q : Begun). q.id.slot < x.slots) b) (sym t) is.slots;
}

-- an application has no more sockets than the table has slots
pub fits_slots : (s : Seen) (b : List Begun) (l : List FlowId) → IsSound s b l → length l ≤ s.table.slots
fits_slots s b l is = pins_fit s.table.slots l is.pins.once (λ k f q. (is.pins.has k f q).1)

-- ----- sockets
-- the first pin on the slot is the socket's
abbrev first_on : ℕ → List FlowId → ℕ
first_on i l = position_or_len (is_on i) l

pub found_on : (i : ℕ) (l : List FlowId) → list_any (is_on i) l ≡ true
    → (slice_get l (first_on i l) ≡ Some (flow_on l i)) × (first_on i l < length l)
found_on i [] e = absurd (cc (e))
found_on i (f ∷ fs) e = by_test i f fs (eqb f.slot i) e (found_on i fs) where
  by_test : (i : ℕ) (f : FlowId) (fs : List FlowId) (b : Bool) → (b || list_any (is_on i) fs) ≡ true
      → (list_any (is_on i) fs ≡ true → (slice_get fs (first_on i fs) ≡ Some (flow_on fs i))
      × (first_on i fs < length fs))
      → (slice_get (f ∷ fs) (cond (not b) (1 + first_on i fs) 0) ≡ Some (cond b f (flow_on fs i)))
      × (cond (not b) (1 + first_on i fs) 0 < suc (length fs))
  by_test i f fs true e rest = let z : 0 < suc (length fs) = omega arith in (refl, z)
  by_test i f fs false e rest =
      let r = rest e in
      let next : 1 + first_on i fs ≡ suc (first_on i fs) = omega arith in
      let near : 1 + first_on i fs < suc (length fs) = omega (arith, r.1) in
      (ap (slice_get (f ∷ fs)) next ∙ r.0, near)

abbrev number_or : ℕ → Option ℕ → ℕ
number_or d None = d
number_or d (Some x) = x

some_number : (x y : ℕ) → ◌≡◌ {A = Option ℕ} (Some x) (Some y) → x ≡ y
some_number x y e = ap (number_or x) e

pub place_any : (i : ℕ) (l : List FlowId) → list_any (is_on i) l ≡ true → position (is_on i) l ≡ Some (first_on i l)
place_any i l e =
    ap (λ b. cond {A = Option ℕ} b (Some (first_on i l)) None) (lt-ltb (first_on i l) (length l) (found_on i l e).1)

pub place_near : (i : ℕ) (l : List FlowId) (k : ℕ) → list_any (is_on i) l ≡ true → position (is_on i) l ≡ Some k
    → k < length l
place_near i l k any e =
    let same : first_on i l ≡ k = some_number _ _ (sym (place_any i l any) ∙ e) in
    subst (λ j. j < length l) same (found_on i l any).1

-- the place of a socket's pin
pub place_is : (i : ℕ) (l : List FlowId) (k : ℕ) → list_any (is_on i) l ≡ true → position (is_on i) l ≡ Some k
    → slice_get l k ≡ Some (flow_on l i)
place_is i l k any e =
    let same : first_on i l ≡ k = some_number _ _ (sym (place_any i l any) ∙ e) in
    subst (λ j. slice_get l j ≡ Some (flow_on l i)) same (found_on i l any).0

pub place_there : (i : ℕ) (l : List FlowId) → list_any (is_on i) l ≡ true → position (is_on i) l ≢ None
place_there i l any e = absurd (cc (place_any i l any, e))

pub place_none : (i : ℕ) (l : List FlowId) → position (is_on i) l ≡ None → list_any (is_on i) l ≡ false
place_none i l e = by_any (list_any (is_on i) l) refl where
  by_any : (b : Bool) → list_any (is_on i) l ≡ b → b ≡ false
  by_any true any = absurd (place_there i l any e)
  by_any false any = refl

-- a place is found where a pin is on the slot
pub is_placed : (i : ℕ) (l : List FlowId) → is_some (position (is_on i) l) ≡ list_any (is_on i) l
is_placed i l = by_place (position (is_on i) l) refl where
  nobody : FlowId
  nobody = record { slot = 0; generation = 0 }

  by_place : (p : Option ℕ) → position (is_on i) l ≡ p → is_some p ≡ list_any (is_on i) l
  by_place None e = sym (place_none i l e)
  by_place (Some k) e =
      let h = position-Some (is_on i) l k nobody e in sym (list_any_at (is_on i) l k nobody h.0 h.1)

pub slot_is : (i : ℕ) (l : List FlowId) → list_any (is_on i) l ≡ true → (flow_on l i).slot ≡ i
slot_is i [] e = absurd (cc (e))
slot_is i (f ∷ fs) e = by_test i f fs (eqb f.slot i) refl e (slot_is i fs) where
  by_test : (i : ℕ) (f : FlowId) (fs : List FlowId) (b : Bool) → eqb f.slot i ≡ b → (b || list_any (is_on i) fs) ≡ true
      → (list_any (is_on i) fs ≡ true → (flow_on fs i).slot ≡ i) → (cond b f (flow_on fs i)).slot ≡ i
  by_test i f fs true h e rest = eqb-true f.slot i h
  by_test i f fs false h e rest = rest e

-- the pin of a socket is one of the pass, on a slot of the table
pub socket_pin : (slots : ℕ) (v : View) (l : List FlowId) (k : ℕ) (f p : FlowId) → ArePins slots v l
    → slice_get l k ≡ Some f → slice_get l k ≡ Some p → (p ≡ f) × HasPin v p × (p.slot < slots)
socket_pin slots v l k f p a e q = let h = a.has k p q in (same_pin p f (sym q ∙ e), h.0, h.1)

-- what a call on a socket needs of the pass
pub socket_ready : (t : TableId) (s : Seen) (b : List Begun) (l : List FlowId) (k : ℕ) (p : FlowId) → s.table ≡ t
    → IsSound s b l → slice_get l k ≡ Some p → (p.slot < t.slots) × HasPin s.view p × (s.view.held ≡ [])
socket_ready t s b l k p e is q =
    let h = is.pins.has k p q in (subst (λ (x : TableId). p.slot < x.slots) e h.1, h.0, is.idle)

pub released : (a : Application) (s : Socket) (n : Seen) (l : List FlowId) (f : FlowId) → f ≡ flow_of a s
    → n ≡ record (a.pass) { view = unpinned f a.pass.view } → l ≡ without s.0 a.sockets
    → record a { pass = n; sockets = l } ≡ without_socket s a
released a s n l f is e rest =
    let pass : n ≡ record (a.pass) { view = unpinned (flow_of a s) a.pass.view } =
    e ∙ ap (λ (x : FlowId). record (a.pass) { view = unpinned x a.pass.view }) is in
    ap (λ (m : Seen). record a { pass = m; sockets = l }) pass
    ∙ ap (λ (k : List FlowId). record a {
      pass = record (a.pass) { view = unpinned (flow_of a s) a.pass.view };
      sockets = k;
    })
    rest

-- the pin at a socket's place is that of its flow
pub same_socket : (o a : Application) (s : Socket) (k : ℕ) (p : FlowId) → o ≡ a
    → slice_get a.sockets k ≡ Some (flow_of a s)
    → slice_get o.sockets k ≡ Some p → p ≡ flow_of o s
same_socket o a s k p is e q =
    same_pin p (flow_of o s)
    (sym q ∙ subst (λ (x : Application). slice_get x.sockets k ≡ Some (flow_of x s)) (sym is) e)

-- the application with another view
pub viewed : (o a : Application) (n : Seen) → o ≡ a → n.table ≡ o.pass.table
    → record o { pass = n } ≡ with_view n.view a
viewed o a n is e =
    ap (λ (t : TableId). record o { pass = record { table = t; view = n.view } }) e
    ∙ ap (λ (x : Application). with_view n.view x) is

-- with one pin a slot, the pins but for a socket's are those on other slots
pub left_of : (o a : Application) (s : Socket) (k : ℕ) (f : FlowId) (l : List FlowId) → o ≡ a → IsSocket a s
    → ((i : ℕ) → total (at_slot i) o.sockets ≤ 1) → slice_get o.sockets k ≡ Some f → f ≡ flow_of o s
    → l ≡ remove o.sockets k → (l ≡ without f.slot o.sockets) × (l ≡ without s.0 o.sockets)
left_of o a s k f l is any once e same rest =
    let by_slot : l ≡ without f.slot o.sockets = rest ∙ removed o.sockets k f once e in
    let here : IsSocket o s = subst (λ (x : Application). IsSocket x s) (sym is) any in
    let slot : f.slot ≡ s.0 = ap (λ (x : FlowId). x.slot) same ∙ slot_is s.0 o.sockets here in
    (by_slot, by_slot ∙ ap (λ i. without i o.sockets) slot)

-- ----- a pin that came or went
-- a pin on a slot that had none, and its end
pub without_first : (i : ℕ) (f : FlowId) (l : List FlowId) → f.slot ≡ i → total (at_slot i) l ≡ 0
    → without i (f ∷ l) ≡ l
without_first i f l e none =
    ap (λ b. cond b (without i l) (f ∷ without i l)) (eq-eqb f.slot i e) ∙ without_none i l none

-- no socket on the slot, no pin there
pub pinless : (s : Seen) (b : List Begun) (l : List FlowId) (i : ℕ) → IsSound s b l → list_any (is_on i) l ≡ false
    → pins_on i s.view ≡ 0
pinless s b l i is none = is.pins.all i ∙ none_on i l none

-- the application with another pass, and the same sockets or one more
pub with_more : (o a : Application) (n : Seen) (l : List FlowId) (id : FlowId) → o ≡ a → n.table ≡ o.pass.table
    → l ≡ o.sockets ++ id ∷ [] → record o { pass = n; sockets = l } ≡ with_socket id (with_view n.view a)
with_more o a n l id is e rest =
    ap (λ (m : List FlowId). record o { pass = n; sockets = m }) rest
    ∙ (ap (λ (t : TableId). record o { pass = record { table = t; view = n.view }; sockets = o.sockets ++ id ∷ [] }) e
    ∙ ap (λ (x : Application). with_socket id (with_view n.view x)) is)

pub with_same : (o a : Application) (n : Seen) (l : List FlowId) (v : View) → o ≡ a → n.table ≡ o.pass.table
    → n.view ≡ v
    → l ≡ o.sockets → record o { pass = n; sockets = l } ≡ with_view v a
with_same o a n l v is e same rest =
    ap (λ (m : List FlowId). record o { pass = n; sockets = m }) rest
    ∙ (viewed o a n is e ∙ ap (λ (w : View). with_view w a) same)

-- ----- begun flows
pub sound_begun : (s : Seen) (b d : List Begun) (l : List FlowId) → All (λ (q : Begun). q.id.slot < s.table.slots) d
    → IsSound s b l → IsSound s d l
sound_begun s b d l all is = record { pins = is.pins; idle = is.idle; slots = all }

-- a begun flow more
pub begun_more : (s n : Seen) (b d : List Begun) (l : List FlowId) (x : Begun) → n.table ≡ s.table
    → n.view.pins ≡ s.view.pins → n.view.held ≡ s.view.held → d ≡ b ++ x ∷ [] → x.id.slot < s.table.slots
    → IsSound s b l
    → IsSound n d l
begun_more s n b d l x t p h e near is =
    sound_moved s n d l t p (h ∙ is.idle)
    (sound_begun s b d l (subst (All (λ (q : Begun). q.id.slot < s.table.slots)) (sym e)
    (All-push (λ (q : Begun). q.id.slot < s.table.slots) b x is.slots near)) is)

-- a refused pin changes no pins
pub refused_pins : (f : FlowId) (v w : View) (e : PinRefused) → IsRefused f v w e
    → (w.pins ≡ v.pins) × (w.held ≡ v.held)
refused_pins f v w (Stale x) r = (ap (λ (y : View). y.pins) r.2, ap (λ (y : View). y.held) r.2)
refused_pins f v w (Moved x y) r = (ap (λ (z : View). z.pins) r.2, ap (λ (z : View). z.held) r.2)

-- a begun flow was pinned
pub taken_up : (o : Application) (n : Seen) (d : List Begun) (l : List FlowId) (id : FlowId) → n.table ≡ o.pass.table
    → d ≡ begun_without id o.begun → l ≡ o.sockets ++ id ∷ []
    → record o { pass = n; begun = d; sockets = l } ≡ record (with_socket id (with_view n.view o))
    { begun = begun_without id o.begun }
taken_up o n d l id t e rest =
    ap (λ (m : List FlowId). record o { pass = n; begun = d; sockets = m }) rest
    ∙ (ap (λ (x : List Begun). record o { pass = n; begun = x; sockets = o.sockets ++ id ∷ [] }) e
    ∙ ap (λ (x : TableId). record o {
      pass = record { table = x; view = n.view };
      begun = begun_without id o.begun;
      sockets = o.sockets ++ id ∷ [];
    }) t)
