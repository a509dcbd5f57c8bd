-- Which slots are marked as taken, while flows change, are opened and are swept.
use Rattle.std.proofs.Common.{◌≡◌, ℕ, zero, suc, ◌<◌, ◌≤◌, ◌++◌, ◌||◌, ◌==◌, ◌&&◌, not, Bool, true, false, List, []}
use Rattle.std.proofs.Common.{◌∷◌, length, get_or, map, refl, sym, ap, ◌∙◌, arith, tests, nat_lt}
use Rattle.std.specs.List.{list_any}
use Rattle.std.proofs.lemmas.List.{get_or_past}
use Rattle.std.proofs.lemmas.List.Folds.{list_any-append}
use Rattle.tas_model.specs.declared.entry.FlowId.{FlowId}
use Rattle.tas_model.proofs.Tests.{on_cond}
use Rattle.host_rounds.specs.Lists.{change_at}
use Rattle.host_rounds.specs.Hosts.{Live, is_in_slot, is_over, is_held}
use Rattle.host_rounds.specs.Upkeep.{swept}
use Rattle.local_host.specs.Index.{AreMarked}
use Rattle.local_host.proofs.Indexing.{Keeps, or_first, or_second}

-- ----- flows that change
same_slot : (slot : ℕ) (l m : Live) → m.flow.id ≡ l.flow.id → m.filed ≡ l.filed
    → is_in_slot slot m ≡ is_in_slot slot l
same_slot slot l m id filed =
    ap (λ (i : FlowId). not m.filed && i.slot == slot) id
    ∙ ap (λ (b : Bool). not b && l.flow.id.slot == slot) filed

any_map : (slot : ℕ) (f : Live → Live) → Keeps f → ((l : Live) → (f l).filed ≡ l.filed) → (ls : List Live)
    → list_any (is_in_slot slot) (map f ls) ≡ list_any (is_in_slot slot) ls
any_map slot f keeps stays [] = refl
any_map slot f keeps stays (l ∷ ls) =
    ap (λ (b : Bool). b || list_any (is_in_slot slot) (map f ls))
    (same_slot slot l (f l) (keeps.same l).id (stays l))
    ∙ ap (λ (b : Bool). is_in_slot slot l || b) (any_map slot f keeps stays ls)

any_change : (slot : ℕ) (f : Live → Live) → Keeps f → ((l : Live) → (f l).filed ≡ l.filed) → (ls : List Live) (i : ℕ)
    → list_any (is_in_slot slot) (change_at i f ls) ≡ list_any (is_in_slot slot) ls
any_change slot f keeps stays [] i = refl
any_change slot f keeps stays (l ∷ ls) zero =
    ap (λ (b : Bool). b || list_any (is_in_slot slot) ls) (same_slot slot l (f l) (keeps.same l).id (stays l))
any_change slot f keeps stays (l ∷ ls) (suc i) =
    ap (λ (b : Bool). is_in_slot slot l || b) (any_change slot f keeps stays ls i)

pub marked_map : (marks : List Bool) (f : Live → Live) → Keeps f → ((l : Live) → (f l).filed ≡ l.filed)
    → (ls : List Live) → AreMarked marks ls → AreMarked marks (map f ls)
marked_map marks f keeps stays ls marked = λ slot. marked slot ∙ sym (any_map slot f keeps stays ls)

pub marked_change : (marks : List Bool) (f : Live → Live) → Keeps f → ((l : Live) → (f l).filed ≡ l.filed)
    → (ls : List Live) (i : ℕ) → AreMarked marks ls → AreMarked marks (change_at i f ls)
marked_change marks f keeps stays ls i marked = λ slot. marked slot ∙ sym (any_change slot f keeps stays ls i)

-- ----- one flow more
pub or_none : (b : Bool) → (b || false) ≡ b
or_none true = refl
or_none false = refl

pub marked_push : (marks later : List Bool) (ls : List Live) (l : Live) → l.filed ≡ false
    → ((slot : ℕ) → get_or later slot false ≡ (get_or marks slot false || l.flow.id.slot == slot))
    → AreMarked marks ls → AreMarked later (ls ++ l ∷ [])
marked_push marks later ls l fresh noted marked = λ slot.
    noted slot ∙ (ap (λ (b : Bool). b || l.flow.id.slot == slot) (marked slot)
    ∙ sym (list_any-append (is_in_slot slot) ls (l ∷ []) ∙ ap (λ (b : Bool). list_any (is_in_slot slot) ls || b)
    (or_none (is_in_slot slot l) ∙ ap (λ (b : Bool). not b && l.flow.id.slot == slot) fresh)))

-- ----- flows that are swept
filed_more : (a b c : Bool) → (not a && c) ≡ false → (not (a || b) && c) ≡ false
filed_more true b c h = refl
filed_more false true c h = refl
filed_more false false c h = h

swept_leaves : (slot : ℕ) (l : Live) → is_in_slot slot l ≡ false → is_in_slot slot (swept l) ≡ false
swept_leaves slot l h = on_cond (λ (m : Live). is_in_slot slot m ≡ false) (is_over l) _ l
    (λ over. filed_more l.filed (not (is_held l)) (l.flow.id.slot == slot) h) (λ runs. h)

both_none : (a b : Bool) → a ≡ false → b ≡ false → (a || b) ≡ false
both_none false b h g = g
both_none true b h g = h

any_swept : (slot : ℕ) (ls : List Live) → list_any (is_in_slot slot) ls ≡ false
    → list_any (is_in_slot slot) (map swept ls) ≡ false
any_swept slot [] h = refl
any_swept slot (l ∷ ls) h =
    both_none (is_in_slot slot (swept l)) (list_any (is_in_slot slot) (map swept ls))
    (swept_leaves slot l (or_first (is_in_slot slot l) (list_any (is_in_slot slot) ls) h))
    (any_swept slot ls (or_second (is_in_slot slot l) (list_any (is_in_slot slot) ls) h))

-- The slots of the old marks are marked anew: no flow that is left stands in another.
pub marked_swept : (marks later : List Bool) (ls : List Live) → AreMarked marks ls → length later ≡ length marks
    → ((slot : ℕ) → slot < length marks → get_or later slot false ≡ list_any (is_in_slot slot) (map swept ls))
    → AreMarked later (map swept ls)
marked_swept marks later ls marked same noted = λ slot. by_length slot (nat_lt slot (length marks)) refl where
  by_length : (slot : ℕ) (b : Bool) → nat_lt slot (length marks) ≡ b
      → get_or later slot false ≡ list_any (is_in_slot slot) (map swept ls)
  by_length slot true is = noted slot (grind (arith, tests, is))
  by_length slot false is =
      let past : length marks ≤ slot = grind (arith, tests, is) in
      let beyond : length later ≤ slot = omega (arith, past, same) in
      get_or_past later slot false beyond
      ∙ sym (any_swept slot ls (sym (marked slot) ∙ get_or_past marks slot false past))
