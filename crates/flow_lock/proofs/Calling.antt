-- What a caller may do after a call.
use Rattle.std.proofs.Common.{◌≡◌, ℕ, true, false, cond, eq-eqb, List, [], ◌∷◌, sym, refl, ap, ◌∙◌, ⊎_elim}
use mathlib.Core.Option as O
use lib.ListN.{get_elem?}
use Rattle.atomic_table.specs.Seated.{TableId}
use Rattle.atomic_table.proofs.Lists.{set_here}
use Rattle.tas_model.specs.declared.entry.FlowId.{FlowId}
use Rattle.flow_lock.specs.Claims.{HasPin}
use Rattle.flow_lock.specs.Steps.{HasTurn, noted, without, unpinned, gave, opened, condemned, mark, mark_at}
use Rattle.flow_lock.specs.Histories.{IsLonger}
use Rattle.std.specs.Prelude.{Option, Some, None, position}
use Rattle.std.proofs.lemmas.List.Quantifiers.{position-Some}
use Rattle.flow_lock.specs.Answers.{is_free, next_of, next_in, IsPinned, IsRefused, IsTaken, IsBusy, Holds, IsHeldBack}
use Rattle.flow_lock.specs.Answers.{IsFreed}
use Rattle.flow_lock.specs.Passes.{Seen}
use Rattle.flow_lock.specs.Callers.{IsTurned, IsGuest, IsUser, IsHolder, IsKeeper, IsOwner}
use Rattle.flow_lock.specs.declared.pass.PinRefused.{PinRefused}
use Rattle.flow_lock.specs.declared.pass.PinRefused.TheVariants.{Stale, Moved}
use Rattle.flow_lock.specs.declared.word.Word.{Word}
use Rattle.flow_lock.specs.declared.view.View.{View}
use Rattle.flow_lock.specs.declared.view.History.{History}
use Rattle.flow_lock.specs.declared.view.Deed.{Deed}
use Rattle.flow_lock.specs.declared.view.Mark.{Mark}
use Rattle.flow_lock.proofs.Sums.{at_below, at_index, at_get}

-- a turn stays
pub still_turn : (v w : View) (ds : List Deed) (won lost : List FlowId) → w.turns ≡ noted ds won lost v.turns
    → HasTurn v → HasTurn w
still_turn v w ds won lost e (t, ts, q) = (_, ts, e ∙ ap (noted ds won lost) q)

pub same_turn : (v w : View) → w.turns ≡ v.turns → HasTurn v → HasTurn w
same_turn v w e (t, ts, q) = (t, ts, e ∙ q)

-- a view with the same turns, and the same seat
pub turned : (t : TableId) (s n : Seen) → n.table ≡ s.table → n.view.turns ≡ s.view.turns → n.view.slow ≡ s.view.slow
    → n.view.baton ≡ s.view.baton → IsTurned t s → IsTurned t n
turned t s n table turns slow baton is = (table ∙ is.0, same_turn s.view n.view turns is.1, slow ∙ is.2, baton ∙ is.3)

pub guest_pins : (t : TableId) (f : FlowId) (s n : Seen) → n.table ≡ s.table → IsPinned f s.view n.view → IsGuest t s
    → IsUser t f n
guest_pins t f s n table p is =
    let e = p.3 in (
      (
        table ∙ is.0.0,
        still_turn s.view n.view [] (f ∷ []) [] (ap (λ (v : View). v.turns) e) is.0.1,
        ap (λ (v : View). v.slow) e ∙ is.0.2,
        ap (λ (v : View). v.baton) e ∙ is.0.3,
      ),
      ap (λ (v : View). v.pins) e ∙ ap (λ l. f ∷ l) is.1,
      ap (λ (v : View). v.held) e ∙ is.2,
    )

pub guest_stays : (t : TableId) (f : FlowId) (s n : Seen) (e : PinRefused) → n.table ≡ s.table
    → IsRefused f s.view n.view e → IsGuest t s → IsGuest t n
guest_stays t f s n (Stale x) table r is = let e = r.2 in (
  turned t s n table (ap (λ (v : View). v.turns) e) (ap (λ (v : View). v.slow) e)
      (ap (λ (v : View). v.baton) e) is.0,
  ap (λ (v : View). v.pins) e ∙ is.1,
  ap (λ (v : View). v.held) e ∙ is.2,
)
guest_stays t f s n (Moved x y) table r is = let e = r.2 in (
  turned t s n table (ap (λ (v : View). v.turns) e) (ap (λ (v : View). v.slow) e)
      (ap (λ (v : View). v.baton) e) is.0,
  ap (λ (v : View). v.pins) e ∙ is.1,
  ap (λ (v : View). v.held) e ∙ is.2,
)

pub user_leaves : (t : TableId) (f : FlowId) (s n : Seen) → n ≡ record s { view = unpinned f s.view } → IsUser t f s
    → IsGuest t n
user_leaves t f s n e is =
    let v = ap (λ (x : Seen). x.view) e in (
      (
        ap (λ (x : Seen). x.table) e ∙ is.0.0,
        still_turn s.view n.view [] [] (f ∷ []) (ap (λ (x : View). x.turns) v) is.0.1,
        ap (λ (x : View). x.slow) v
            ∙ is.0.2,
        ap (λ (x : View). x.baton) v ∙ is.0.3,
      ),
      ap (λ (x : View). x.pins) v ∙ (ap (without f.slot) is.1
          ∙ ap (λ b. cond b [] (f ∷ [])) (eq-eqb f.slot f.slot refl)),
      ap (λ (x : View). x.held) v ∙ is.2,
    )

pub user_takes : (t : TableId) (f : FlowId) (h : History) (s n : Seen) → n.table ≡ s.table → IsTaken f h s.view n.view
    → IsUser t f s → IsHolder t f h n
user_takes t f h s n table p is =
    let e = p.3 in (
      turned t s n table (ap (λ (v : View). v.turns) e) (ap (λ (v : View). v.slow) e)
          (ap (λ (v : View). v.baton) e) is.0,
      ap (λ (v : View). v.pins) e ∙ is.1,
      ap (λ (v : View). v.held) e,
    )

pub user_waits : (t : TableId) (f : FlowId) (s n : Seen) (x : Word) → n.table ≡ s.table → IsBusy f s.view n.view x
    → IsUser t f s → IsUser t f n
user_waits t f s n x table p is =
    let e = p.1 in (
      turned t s n table (ap (λ (v : View). v.turns) e) (ap (λ (v : View). v.slow) e)
          (ap (λ (v : View). v.baton) e) is.0,
      ap (λ (v : View). v.pins) e ∙ is.1,
      ap (λ (v : View). v.held) e ∙ is.2,
    )

pub holder_gives : (t : TableId) (f : FlowId) (h k : History) (s n : Seen) → n ≡ record s { view = gave f k s.view }
    → IsHolder t f h s → IsUser t f n
holder_gives t f h k s n e is =
    let v = ap (λ (x : Seen). x.view) e in (
      (
        ap (λ (x : Seen). x.table) e ∙ is.0.0,
        still_turn s.view n.view _ [] [] (ap (λ (x : View). x.turns) v) is.0.1,
        ap (λ (x : View). x.slow) v ∙ is.0.2,
        ap (λ (x : View). x.baton) v ∙ is.0.3,
      ),
      ap (λ (x : View). x.pins) v ∙ is.1,
      ap (λ (x : View). x.held) v,
    )

pub holder_holds : (t : TableId) (f : FlowId) (h k : History) (s : Seen) → IsHolder t f h s → IsLonger h k
    → Holds s.view f k
holder_holds t f h k s is more = (record { flow = f; history = h }, is.2, refl, more)

-- ----- the slow path's
-- the next flow's slot has a mark
pub next_mark : (ms : List Mark) (f : FlowId) → next_in ms ≡ Some f → (m : Mark) × (get_elem? ms f.slot ≡ O.some m)
next_mark ms f e = of_place (position is_free ms) refl e
  where
    slot_of : (x : Option FlowId) → ℕ
    slot_of None = 0
    slot_of (Some y) = y.slot

    none_some : (x : FlowId) → ◌≡◌ {A = Option FlowId} None (Some x) → ⊥
    none_some x q = absurd (cc)

    of_place : (p : Option ℕ) → position is_free ms ≡ p → next_of ms p ≡ Some f
        → (m : Mark) × (get_elem? ms f.slot ≡ O.some m)
    of_place None is q = absurd (none_some f q)
    of_place (Some i) is q =
        let near = (position-Some is_free ms i (mark 0 false false) is).0 in
        let at : i ≡ f.slot = ap slot_of q in
        (mark_at ms i, ap (get_elem? ms) (sym at) ∙ at_get ms i (mark 0 false false) near)

pub keeper_opens : (t : TableId) (f : FlowId) (h : History) (s s' : Seen) (m : Mark) → s'.table ≡ s.table
    → s'.view ≡ opened f h s.view → get_elem? s.view.marks f.slot ≡ O.some m → IsKeeper t s
    → IsKeeper t s' × IsOwner f s'
keeper_opens t f h s s' m table e old is = (
  (
    table ∙ is.0,
    still_turn s.view s'.view _ (f ∷ []) [] (ap (λ (v : View). v.turns) e) is.1,
    ap (λ (v : View). v.held) e ∙ is.2,
  ),
  (
    (0, ap (λ (v : View). get_elem? v.pins 0) e),
    (
      false,
      ap (λ (v : View). get_elem? v.marks f.slot) e
          ∙ set_here s.view.marks f.slot (mark f.generation true false) (at_below s.view.marks f.slot m old),
    ),
  ),
)

pub owner_dooms : (t : TableId) (f : FlowId) (s s' : Seen) → s' ≡ record s { view = condemned f s.view } → IsKeeper t s
    → IsOwner f s → IsKeeper t s' × HasPin s'.view f
    × (get_elem? s'.view.marks f.slot ≡ O.some (mark f.generation true true))
owner_dooms t f s s' e is own =
    let v = ap (λ (x : Seen). x.view) e in
    let at : mark_at s.view.marks f.slot ≡ mark f.generation true own.1.0 =
    at_index s.view.marks f.slot (mark f.generation true own.1.0) (mark 0 false false) own.1.1 in (
      (
        ap (λ (x : Seen). x.table) e ∙ is.0,
        still_turn s.view s'.view [] [] [] (ap (λ (x : View). x.turns) v
            ∙ Rattle.flow_lock.proofs.Acting.noted_none s.view.turns) is.1,
        ap (λ (x : View). x.held) v ∙ is.2,
      ),
      (own.0.0, ap (λ (x : View). get_elem? x.pins own.0.0) v ∙ own.0.1),
      ap (λ (x : View). get_elem? x.marks f.slot) v
          ∙ (set_here s.view.marks f.slot _ (at_below s.view.marks f.slot (mark f.generation true own.1.0) own.1.1)
          ∙ (λ q. O.some (record (at q) { doomed = true }))),
    )

pub keeper_frees : (t : TableId) (f : FlowId) (s s' : Seen) → s'.table ≡ s.table → IsFreed f s.view s'.view
    → IsKeeper t s → IsKeeper t s'
keeper_frees t f s s' table p is =
    let e = p.1 in (
      table ∙ is.0,
      still_turn s.view s'.view [] [] (f ∷ []) (ap (λ (v : View). v.turns) e) is.1,
      ap (λ (v : View). v.held) e ∙ is.2,
    )

pub keeper_held_back : (t : TableId) (k : ℕ) (f : FlowId) (s s' : Seen) → s'.table ≡ s.table
    → IsHeldBack f s.view s'.view k → IsKeeper t s → HasPin s.view f
    → get_elem? s.view.marks f.slot ≡ O.some (mark f.generation true true) → IsKeeper t s' × IsOwner f s'
keeper_held_back t k f s s' table p is has doomed = ⊎_elim
    (λ e. (
      (table ∙ is.0, same_turn s.view s'.view (ap (λ (v : View). v.turns) e) is.1, ap (λ (v : View). v.held) e ∙ is.2),
      (
        (has.0, ap (λ (v : View). get_elem? v.pins has.0) e ∙ has.1),
        (true, ap (λ (v : View). get_elem? v.marks f.slot) e ∙ doomed),
      ),
    ))
    (λ w. let e = w.1 in (
      (table ∙ is.0, same_turn s.view s'.view (ap (λ (v : View). v.turns) e) is.1, ap (λ (v : View). v.held) e ∙ is.2),
      (
        (has.0, ap (λ (v : View). get_elem? v.pins has.0) e ∙ has.1),
        (true, ap (λ (v : View). get_elem? v.marks f.slot) e ∙ doomed),
      ),
    ))
    p.3
