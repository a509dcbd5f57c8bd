-- How hand-outs grow, frame by frame and move by move, and which moves wait.
use Rattle.std.proofs.Common.{◌≡◌, ◌≢◌, ℕ, zero, suc, ◌+◌, ◌<◌, ◌%◌, ◌==◌, ◌&&◌, not, cond, Bool, true, false, List, []}
use Rattle.std.proofs.Common.{◌∷◌, ◌++◌, filter, take, replicate, length, refl, sym, ap, ◌∙◌, subst, arith, All}
use Rattle.std.proofs.Common.{append-nil}
use Rattle.std.proofs.lemmas.Bool.Decides.{nat_tests}
use Rattle.std.proofs.lemmas.List.{take_more, get_or-set_same, get_or-set_other, get_or-replicate}
use Rattle.std.proofs.lemmas.List.Elements.{filter-append, All-head, All-tail}
use Rattle.std.specs.Prelude.{slice_index_or, slice_set}
use Rattle.steering.specs.Tables.{Table, Assigned}
use Rattle.frame_steering.specs.declared.handing.GroupMove.{GroupMove}
use Rattle.frame_steering.specs.Handing.{is_of, moves_of, moves_but, waits, IsMovedIf, AreMoved, IsHanded, AreHanded}

-- one move more
pub moved_more : (n : ℕ) (a b c : List Table) (ms : List GroupMove) (m : GroupMove) → AreMoved n a ms b
    → Assigned m.group (m.core % n) b c → AreMoved n a (ms ++ m ∷ []) c
moved_more n a b c [] m are one =
    (c, subst (λ x. Assigned m.group (m.core % n) x c) are one, refl)
moved_more n a b c (x ∷ xs) m (next, first, rest) one = (next, first, moved_more n next b c xs m rest one)

-- one frame more
pub handed_more : (n : ℕ) (a b c : List Table) (moves left : List GroupMove) (gs cs : List ℕ) (g core : ℕ)
    → AreHanded n a moves gs cs left b → IsHanded n b left g core c
    → AreHanded n a moves (gs ++ g ∷ []) (cs ++ core ∷ []) (moves_but g left) c
handed_more n a b c moves left [] [] g core (same, now) one =
    let here : IsHanded n a moves g core c =
    subst (λ x. IsHanded n x moves g core c) now (subst (λ l. IsHanded n b l g core c) same one) in
    (c, here, (ap (moves_but g) same, refl))
handed_more n a b c moves left [] (x ∷ xs) g core are one = absurd are
handed_more n a b c moves left (y ∷ ys) [] g core are one = absurd are
handed_more n a b c moves left (y ∷ ys) (x ∷ xs) g core (next, first, rest) one =
    (next, first, handed_more n next b c (moves_but y moves) left ys xs g core rest one)

-- one move more, where it is to be made
pub waiting_more : (n : ℕ) (a b c : List Table) (w : List Bool) (ms : List GroupMove) (i : ℕ) (d : GroupMove)
    → i < length ms → AreMoved n a (filter (waits w) (take i ms)) b
    → IsMovedIf (waits w (slice_index_or ms i d)) n (slice_index_or ms i d) b c
    → AreMoved n a (filter (waits w) (take (i + 1) ms)) c
waiting_more n a b c w ms i d low are one =
    subst (λ l. AreMoved n a l c)
    (sym (ap (filter (waits w)) (take_more ms i d low)
    ∙ filter-append (waits w) (take i ms) (slice_index_or ms i d ∷ [])))
    (by (waits w (slice_index_or ms i d)) (slice_index_or ms i d) one)
  where
    by : (t : Bool) (m : GroupMove) → IsMovedIf t n m b c
        → AreMoved n a (filter (waits w) (take i ms) ++ cond t (m ∷ []) []) c
    by true m made = moved_more n a b c (filter (waits w) (take i ms)) m are made
    by false m made =
        subst (λ x. AreMoved n a (filter (waits w) (take i ms) ++ []) x) (sym made)
        (subst (λ l. AreMoved n a l b) (sym (append-nil (filter (waits w) (take i ms)))) are)

-- ----- which moves wait
by_bool : {P : Type 0} (b : Bool) → (b ≡ true → P) → (b ≡ false → P) → P
by_bool true t f = t refl
by_bool false t f = f refl

filters_alike : (p q : GroupMove → Bool) → ((m : GroupMove) → p m ≡ q m) → (ms : List GroupMove)
    → filter p ms ≡ filter q ms
filters_alike p q same [] = refl
filters_alike p q same (m ∷ ms) =
    (λ i. cond (same m i) (m ∷ filter p ms) (filter p ms)) ∙ ap (λ l. cond (q m) (m ∷ l) l) (filters_alike p q same ms)

filter_twice : (p q : GroupMove → Bool) (ms : List GroupMove)
    → filter p (filter q ms) ≡ filter (λ (m : GroupMove). q m && p m) ms
filter_twice p q [] = refl
filter_twice p q (m ∷ ms) = by (q m) (filter_twice p q ms)
  where
    by : (b : Bool) → filter p (filter q ms) ≡ filter (λ (x : GroupMove). q x && p x) ms
        → filter p (cond b (m ∷ filter q ms) (filter q ms))
        ≡ cond (b && p m) (m ∷ filter (λ (x : GroupMove). q x && p x) ms) (filter (λ (x : GroupMove). q x && p x) ms)
    by true rest = ap (λ l. cond (p m) (m ∷ l) l) rest
    by false rest = rest

none_filtered : (p : GroupMove → Bool) → ((m : GroupMove) → p m ≡ false) → (ms : List GroupMove) → filter p ms ≡ []
none_filtered p fails [] = refl
none_filtered p fails (m ∷ ms) = rw (fails m) (none_filtered p fails ms)

same_number : (n m : ℕ) → (n == m) ≡ true → n ≡ m
same_number n m h = grind (arith, nat_tests, h)

other_number : (n m : ℕ) → (n == m) ≡ false → n ≢ m
other_number n m h e = grind (arith, nat_tests, h, e)

-- a move of a group is like the group
like : (w : List Bool) (g : ℕ) (m : GroupMove) → is_of g m ≡ true → waits w m ≡ slice_index_or w g false
like w g m is = ap (λ k. slice_index_or w k false) (same_number m.group g is)

-- where the group doesn't wait
pub none_of : (w : List Bool) (g : ℕ) (ms : List GroupMove) → slice_index_or w g false ≡ false
    → moves_of g (filter (waits w) ms) ≡ []
none_of w g ms fails =
    filter_twice (is_of g) (waits w) ms
    ∙ none_filtered (λ (m : GroupMove). waits w m && is_of g m) at ms
  where
    at : (m : GroupMove) → (waits w m && is_of g m) ≡ false
    at m = by_bool (is_of g m) (λ t. rw (like w g m t ∙ fails) refl) (λ f. rw f (nothing (waits w m)))
      where
        nothing : (b : Bool) → (b && false) ≡ false
        nothing true = refl
        nothing false = refl

pub all_but : (w : List Bool) (g : ℕ) (ms : List GroupMove) → slice_index_or w g false ≡ false
    → filter (waits w) ms ≡ moves_but g (filter (waits w) ms)
all_but w g ms fails =
    filters_alike (waits w) (λ (m : GroupMove). waits w m && not (is_of g m)) at ms
    ∙ sym (filter_twice (λ (m : GroupMove). not (is_of g m)) (waits w) ms)
  where
    at : (m : GroupMove) → waits w m ≡ (waits w m && not (is_of g m))
    at m = by_bool (is_of g m) (λ t. rw (like w g m t ∙ fails) refl) (λ f. rw f (all (waits w m)))
      where
        all : (b : Bool) → b ≡ (b && true)
        all true = refl
        all false = refl

-- where it waits
pub chosen_of : (w chosen : List Bool) (g : ℕ) (ms : List GroupMove) → slice_index_or w g false ≡ true
    → ((m : GroupMove) → waits chosen m ≡ is_of g m) → filter (waits chosen) ms ≡ moves_of g (filter (waits w) ms)
chosen_of w chosen g ms holds is =
    filters_alike (waits chosen) (λ (m : GroupMove). waits w m && is_of g m) at ms
    ∙ sym (filter_twice (is_of g) (waits w) ms)
  where
    at : (m : GroupMove) → waits chosen m ≡ (waits w m && is_of g m)
    at m = is m ∙ by_bool (is_of g m) (λ t. rw (t, like w g m t ∙ holds) refl) (λ f. rw f (nothing (waits w m)))
      where
        nothing : (b : Bool) → false ≡ (b && false)
        nothing true = refl
        nothing false = refl

pub left_but : (w : List Bool) (g : ℕ) (ms : List GroupMove) → g < length w
    → filter (waits (slice_set w g false)) ms ≡ moves_but g (filter (waits w) ms)
left_but w g ms low =
    filters_alike (waits (slice_set w g false)) (λ (m : GroupMove). waits w m && not (is_of g m)) at ms
    ∙ sym (filter_twice (λ (m : GroupMove). not (is_of g m)) (waits w) ms)
  where
    at : (m : GroupMove) → waits (slice_set w g false) m ≡ (waits w m && not (is_of g m))
    at m = by_bool (is_of g m)
        (λ t.
        (like (slice_set w g false) g m t ∙ get_or-set_same w g false false low)
        ∙ rw t (nothing (waits w m)))
        (λ f. get_or-set_other w g m.group false false (other_number m.group g f) ∙ rw f (all (waits w m)))
      where
        nothing : (b : Bool) → false ≡ (b && false)
        nothing true = refl
        nothing false = refl

        all : (b : Bool) → b ≡ (b && true)
        all true = refl
        all false = refl

-- at first
pub all_wait : (w : List Bool) → ((k : ℕ) → k < 64 → slice_index_or w k false ≡ true) → (ms : List GroupMove)
    → All (λ (m : GroupMove). m.group < 64) ms → filter (waits w) ms ≡ ms
all_wait w holds [] low = refl
all_wait w holds (m ∷ ms) low =
    let rest : filter (waits w) ms ≡ ms = all_wait w holds ms (All-tail (λ (x : GroupMove). x.group < 64) m ms low) in
    rw (holds m.group (All-head (λ (x : GroupMove). x.group < 64) m ms low)) (ap (λ l. m ∷ l) rest)

falses : (n i : ℕ) → slice_index_or (replicate n false) i false ≡ false
falses zero i = refl
falses (suc n) zero = refl
falses (suc n) (suc i) = falses n i

-- of all groups, this one
pub only_one : (g : ℕ) → g < 64 → (m : GroupMove) → waits (slice_set (replicate 64 false) g true) m ≡ is_of g m
only_one g low m = by_bool (is_of g m)
    (λ t.
    like (slice_set (replicate 64 false) g true) g m t
    ∙ get_or-set_same (replicate 64 false) g true false low
    ∙ sym t)
    (λ f.
    get_or-set_other (replicate 64 false) g m.group true false (other_number m.group g f)
    ∙ falses 64 m.group
    ∙ sym f)

pub each_waits : (ms : List GroupMove) → All (λ (m : GroupMove). m.group < 64) ms
    → filter (waits (replicate 64 true)) ms ≡ ms
each_waits ms low = all_wait (replicate 64 true) (λ k lt. get_or-replicate 64 k true false lt) ms low
