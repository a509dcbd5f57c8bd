-- A list that stands in due order is known by which of its frames tie.
use Rattle.std.proofs.Common.{◌≡◌, ℕ, zero, suc, ◌<◌, ◌≤◌, ◌+◌, Bool, true, false, not, ◌&&◌, List, [], ◌∷◌, ◌++◌, cond}
use Rattle.std.proofs.Common.{length, get_or, filter, refl, sym, ◌∙◌, ap, subst, arith}
use Rattle.std.specs.Cmp.{IsStrictWeakOrder}
use Rattle.std.specs.List.Sorted.{IsSortedBy, IsSortedByKey, IsStableByKey, ties}
use Rattle.std.specs.Fn.{Called, ComputesKey}
use denote.Param.Members.{Mut}
use denote.Ref.{Bor}
use Rattle.std.specs.Ordering.{is_lt, nat_cmp, ordering_then}
use Rattle.std.proofs.lemmas.Fn.{always_returns_same}
use Rattle.std.proofs.lemmas.Cmp.{then_total, on_total, nat_cmp_total}
use Rattle.link_script.specs.declared.due_frames.Turn.{Turn}
use Rattle.std.specs.declared.cmp.Ordering.{Ordering}
use Rattle.std.proofs.lemmas.List.Sorted.{sorted_far, ranks_by}
use Rattle.std.proofs.lemmas.Bool.Decides.{nat_tests}
use Rattle.link_script.specs.DueFrames.{due_cmp, goes_before, placed, in_due_order}
use Rattle.link_script.specs.declared.frames.Sent.{Sent}

-- no frame of the list goes before f
abbrev NoneBefore : Sent → List Sent → Type 0
NoneBefore f [] = Unit {0}
NoneBefore f (g ∷ gs) = (goes_before g f ≡ false) × NoneBefore f gs

-- no frame goes before an earlier one
abbrev Ordered : List Sent → Type 0
Ordered [] = Unit {0}
Ordered (f ∷ fs) = NoneBefore f fs × Ordered fs

abbrev pub tied : Sent → Sent → Bool
tied = ties goes_before

-- ----- the tests
-- cases on a test
by_test : (b : Bool) (P : Type 0) → (b ≡ true → P) → (b ≡ false → P) → P
by_test true P f g = f refl
by_test false P f g = g refl

both_false : (a b : Bool) → not a && not b ≡ true → (a ≡ false) × (b ≡ false)
both_false false false e = (refl, refl)
both_false true false e = absurd (cc (e))
both_false true true e = absurd (cc (e))
both_false false true e = absurd (cc (e))

ties_itself : IsStrictWeakOrder goes_before → (f : Sent) → tied f f ≡ true
ties_itself o f =
    by_test (goes_before f f) (tied f f ≡ true)
    (λ t. absurd (let n : goes_before f f ≡ false = o.one_way f f t in cc))
    (λ n. rw n refl)

-- frames of which one goes before the other do not both tie with a third
not_both : IsStrictWeakOrder goes_before → (x f g : Sent) → goes_before g f ≡ true → tied x f ≡ true → tied x g ≡ true
    → ⊥
not_both o x f g b tf tg =
    let pf = both_false (goes_before x f) (goes_before f x) tf in
    let pg = both_false (goes_before x g) (goes_before g x) tg in
    let n : goes_before g f ≡ false = o.chain g x f pg.1 pf.0 in
    cc

-- ----- a list in order
none_before_later : IsStrictWeakOrder goes_before → (f g : Sent) (hs : List Sent) → goes_before g f ≡ false
    → NoneBefore g hs → NoneBefore f hs
none_before_later o f g [] n h = tt
none_before_later o f g (k ∷ hs) n h = (o.chain k g f h.0 n, none_before_later o f g hs n h.1)

none_before_placed : IsStrictWeakOrder goes_before → (f g : Sent) (hs : List Sent) → goes_before f g ≡ false
    → NoneBefore g hs → NoneBefore g (placed f hs)
none_before_placed o f g [] n h = (n, tt)
none_before_placed o f g (k ∷ hs) n h = by_place (goes_before k f) (none_before_placed o f g hs n h.1)
  where
    by_place : (b : Bool) → NoneBefore g (placed f hs)
        → NoneBefore g (elim b [ true ↦ k ∷ placed f hs | false ↦ f ∷ k ∷ hs ])
    by_place true r = (h.0, r)
    by_place false r = (n, h)

ordered_placed : IsStrictWeakOrder goes_before → (f : Sent) (gs : List Sent) → Ordered gs → Ordered (placed f gs)
ordered_placed o f [] h = (tt, tt)
ordered_placed o f (g ∷ gs) h = by_place (goes_before g f) refl (ordered_placed o f gs h.1)
  where
    by_place : (b : Bool) → goes_before g f ≡ b → Ordered (placed f gs)
        → Ordered (elim b [ true ↦ g ∷ placed f gs | false ↦ f ∷ g ∷ gs ])
    by_place true e r = (none_before_placed o f g gs (o.one_way g f e) h.0, r)
    by_place false e r = ((e, none_before_later o f g gs e h.0), h)

ordered_due : IsStrictWeakOrder goes_before → (fs : List Sent) → Ordered (in_due_order fs)
ordered_due o [] = tt
ordered_due o (f ∷ fs) = ordered_placed o f (in_due_order fs) (ordered_due o fs)

-- a sorted list is in order
none_before_from : (f : Sent) (gs : List Sent)
    → ((j : ℕ) (d : Sent) → j < length gs → goes_before (get_or gs j d) f ≡ false) → NoneBefore f gs
none_before_from f [] h = tt
none_before_from f (g ∷ gs) h = (h zero g (omega arith), none_before_from f gs (λ j d l. h (suc j) d (omega arith)))

ordered_from : (fs : List Sent) → ((i j : ℕ) (d : Sent) → i ≤ j → j < length fs
    → goes_before (get_or fs j d) (get_or fs i d) ≡ false) → Ordered fs
ordered_from [] h = tt
ordered_from (f ∷ fs) h = (
  none_before_from f fs (λ j d l. h zero (suc j) d (omega arith) (omega arith)),
  ordered_from fs (λ i j d l m. h (suc i) (suc j) d (omega arith) (omega arith)),
)

ordered_sorted : IsStrictWeakOrder goes_before → (fs : List Sent) → IsSortedBy goes_before fs → Ordered fs
ordered_sorted o fs up = ordered_from fs (sorted_far goes_before o fs up)

-- ----- the frames that tie with one
-- two frames of which one goes before the other may change places
changed : IsStrictWeakOrder goes_before → (x f g : Sent) (hs : List Sent) → goes_before g f ≡ true
    → filter (tied x) (g ∷ f ∷ hs) ≡ filter (tied x) (f ∷ g ∷ hs)
changed o x f g hs b = by_tests (tied x f) (tied x g) refl refl
  where
    by_tests : (p q : Bool) → tied x f ≡ p → tied x g ≡ q
        → cond q (g ∷ cond p (f ∷ filter (tied x) hs) (filter (tied x) hs))
        (cond p (f ∷ filter (tied x) hs) (filter (tied x) hs))
        ≡ cond p (f ∷ cond q (g ∷ filter (tied x) hs) (filter (tied x) hs))
        (cond q (g ∷ filter (tied x) hs) (filter (tied x) hs))
    by_tests true true ep eq = absurd (not_both o x f g b ep eq)
    by_tests true false ep eq = refl
    by_tests false true ep eq = refl
    by_tests false false ep eq = refl

tied_placed : IsStrictWeakOrder goes_before → (x f : Sent) (gs : List Sent)
    → filter (tied x) (placed f gs) ≡ filter (tied x) (f ∷ gs)
tied_placed o x f [] = refl
tied_placed o x f (g ∷ gs) = by_place (goes_before g f) refl (tied_placed o x f gs)
  where
    by_place : (b : Bool) → goes_before g f ≡ b → filter (tied x) (placed f gs) ≡ filter (tied x) (f ∷ gs)
        → filter (tied x) (elim b [ true ↦ g ∷ placed f gs | false ↦ f ∷ g ∷ gs ]) ≡ filter (tied x) (f ∷ g ∷ gs)
    by_place true e r = ap (λ (fs : List Sent). cond (tied x g) (g ∷ fs) fs) r ∙ changed o x f g gs e
    by_place false e r = refl

tied_due : IsStrictWeakOrder goes_before → (x : Sent) (fs : List Sent)
    → filter (tied x) (in_due_order fs) ≡ filter (tied x) fs
tied_due o x [] = refl
tied_due o x (f ∷ fs) = tied_placed o x f (in_due_order fs)
    ∙ ap (λ (gs : List Sent). cond (tied x f) (f ∷ gs) gs) (tied_due o x fs)

-- ----- two lists in order
-- a frame that a test leaves is of the list
left_is_later : (p : Sent → Bool) (f g : Sent) (hs rest : List Sent) → NoneBefore f hs → filter p hs ≡ g ∷ rest
    → goes_before g f ≡ false
left_is_later p f g [] rest n e = absurd (cc (e))
left_is_later p f g (k ∷ hs) rest n e = by_first (p k) e (left_is_later p f g hs rest n.1)
  where
    by_first : (b : Bool) → cond b (k ∷ filter p hs) (filter p hs) ≡ g ∷ rest
        → (filter p hs ≡ g ∷ rest → goes_before g f ≡ false) → goes_before g f ≡ false
    by_first true i r = let same : k ≡ g = cc (i) in subst (λ (s : Sent). goes_before s f ≡ false) same n.0
    by_first false i r = r i

heads_tie : IsStrictWeakOrder goes_before → (x y : Sent) (xs ys : List Sent) → NoneBefore x xs → NoneBefore y ys
    → ((z : Sent) → filter (tied z) (x ∷ xs) ≡ filter (tied z) (y ∷ ys)) → x ≡ y
heads_tie o x y xs ys nx ny h = by_tests (tied x y) (tied y x) refl refl
  where
    front : filter (tied x) (x ∷ xs) ≡ x ∷ filter (tied x) xs
    front = let e : tied x x ≡ true = ties_itself o x in rw e refl

    back : filter (tied y) (y ∷ ys) ≡ y ∷ filter (tied y) ys
    back = let e : tied y y ≡ true = ties_itself o y in rw e refl

    by_tests : (p q : Bool) → tied x y ≡ p → tied y x ≡ q → x ≡ y
    by_tests true q ep eq =
        let there : filter (tied x) (y ∷ ys) ≡ y ∷ filter (tied x) ys = rw ep refl in
        let all = sym front ∙ (h x ∙ there) in cc (all)
    by_tests false true ep eq =
        let there : filter (tied y) (x ∷ xs) ≡ x ∷ filter (tied y) xs = rw eq refl in
        let all = sym there ∙ (h y ∙ back) in cc (all)
    by_tests false false ep eq =
        let among_ys : filter (tied x) ys ≡ x ∷ filter (tied x) xs =
        (let there : filter (tied x) (y ∷ ys) ≡ filter (tied x) ys = rw ep refl in
        sym there ∙ (sym (h x) ∙ front)) in
        let among_xs : filter (tied y) xs ≡ y ∷ filter (tied y) ys =
        (let there : filter (tied y) (x ∷ xs) ≡ filter (tied y) xs = rw eq refl in sym there ∙ (h y ∙ back)) in
        let not_xy : goes_before x y ≡ false = left_is_later (tied x) y x ys _ ny among_ys in
        let not_yx : goes_before y x ≡ false = left_is_later (tied y) x y xs _ nx among_xs in
        let tie : tied x y ≡ true = rw (not_xy, not_yx) refl in
        absurd (cc (tie, ep))

tails_alike : (z x : Sent) (xs ys : List Sent) → filter (tied z) (x ∷ xs) ≡ filter (tied z) (x ∷ ys)
    → filter (tied z) xs ≡ filter (tied z) ys
tails_alike z x xs ys e = by_test_of (tied z x) e
  where
    by_test_of : (b : Bool) → cond b (x ∷ filter (tied z) xs) (filter (tied z) xs)
        ≡ cond b (x ∷ filter (tied z) ys) (filter (tied z) ys) → filter (tied z) xs ≡ filter (tied z) ys
    by_test_of true i = cc (i)
    by_test_of false i = i

-- Two lists in order are one where the same frames tie in them with each frame.
one_order : IsStrictWeakOrder goes_before → (xs ys : List Sent) → Ordered xs → Ordered ys
    → ((z : Sent) → filter (tied z) xs ≡ filter (tied z) ys) → xs ≡ ys
one_order o [] [] hx hy h = refl
one_order o (x ∷ xs) [] hx hy h = absurd (let e : tied x x ≡ true = ties_itself o x in
    let i : x ∷ filter (tied x) xs ≡ [] = rw e at (h x) in cc (i))
one_order o [] (y ∷ ys) hx hy h = absurd (let e : tied y y ≡ true = ties_itself o y in
    let i : [] ≡ y ∷ filter (tied y) ys = rw e at (h y) in cc (i))
one_order o (x ∷ xs) (y ∷ ys) hx hy h =
    let same : x ≡ y = heads_tie o x y xs ys hx.0 hy.0 h in
    let alike : (z : Sent) → filter (tied z) (x ∷ xs) ≡ filter (tied z) (x ∷ ys) =
    subst (λ (s : Sent). (z : Sent) → filter (tied z) (x ∷ xs) ≡ filter (tied z) (s ∷ ys)) (sym same) h in
    let rest : xs ≡ ys = one_order o xs ys hx.1 hy.1 (λ z. tails_alike z x xs ys (alike z)) in
    cc (same, rest)

-- A stable sort of a list in which the same frames tie gives the due order.
pub due_order_is : IsStrictWeakOrder goes_before → (fs gs sorted : List Sent) → IsSortedBy goes_before sorted
    → ((z : Sent) → filter (tied z) sorted ≡ filter (tied z) gs)
    → ((z : Sent) → filter (tied z) gs ≡ filter (tied z) fs) → sorted ≡ in_due_order fs
due_order_is o fs gs sorted up same alike =
    one_order o sorted (in_due_order fs) (ordered_sorted o sorted up) (ordered_due o fs) (λ z. same z
    ∙ (alike z ∙ sym (tied_due o z fs)))

-- ----- by a sort
due_order : IsStrictWeakOrder goes_before
due_order = ranks_by (then_total (on_total (λ (f : Sent). f.tick) nat_cmp_total)
    (then_total (on_total (λ (f : Sent). f.id.host) nat_cmp_total)
    (then_total (on_total (λ (f : Sent). f.id.flow) nat_cmp_total)
    (then_total (on_total (λ (f : Sent). f.id.number) nat_cmp_total)
    (on_total (λ (f : Sent). f.id.copy) nat_cmp_total))))) (λ (f : Sent). f)

-- where a frame stands, and the order of such places
abbrev pub turn_in : Sent → Turn
turn_in f = record { tick = f.tick; host = f.id.host; flow = f.id.flow; number = f.id.number; copy = f.id.copy }

abbrev pub turn_cmp : Turn → Turn → Ordering
turn_cmp a b = ordering_then (nat_cmp a.tick b.tick)
    (ordering_then (nat_cmp a.host b.host) (ordering_then (nat_cmp a.flow b.flow)
    (ordering_then (nat_cmp a.number b.number) (nat_cmp a.copy b.copy))))

-- what a stable sort by those places leaves
pub sorted_by_turn : {F : Type 0} {g : Mut F (Bor Sent × Unit {0}) Turn} {f : F} (fs gs after : List Sent)
    → ((key : Sent → Turn) → ComputesKey g key f → IsSortedByKey key turn_cmp after)
    → ((key : Sent → Turn) → ComputesKey g key f → IsStableByKey key turn_cmp gs after)
    → ((a : Bor Sent × Unit {0}) (r : Turn) (f' : F) → Called g f a r f' → (r ≡ turn_in a.0.now) × (f' ≡ f))
    → ((z : Sent) → filter (tied z) gs ≡ filter (tied z) fs) → after ≡ in_due_order fs
sorted_by_turn {g = g} {f = f} fs gs after up stable h alike =
    let computes : ComputesKey g turn_in f = always_returns_same g (λ a r. r ≡ turn_in a.0.now) f h in
    due_order_is due_order fs gs after (up turn_in computes) (stable turn_in computes) alike

-- The due order of two lists is one where the same frames tie in them with each frame.
pub same_order : (fs gs : List Sent) → ((z : Sent) → filter (tied z) fs ≡ filter (tied z) gs)
    → in_due_order fs ≡ in_due_order gs
same_order fs gs alike =
    one_order due_order (in_due_order fs) (in_due_order gs) (ordered_due due_order fs) (ordered_due due_order gs)
    (λ z. tied_due due_order z fs ∙ (alike z ∙ sym (tied_due due_order z gs)))
