-- The first batch of some items is the longest front that joins.
use Rattle.std.proofs.Common.{◌≡◌, ℕ, ◌<◌, Bool, true, false, List, [], ◌∷◌, ◌++◌, length}
use Rattle.std.proofs.Common.{map, fold, Option, Some, None, nat_lt, ◌&&◌, ◌||◌, refl, sym, ap, ◌∙◌, arith}
use Rattle.std.proofs.Common.{append_assoc, if◌then◌else◌}
use Rattle.std.specs.List.{list_any}
use Rattle.std.proofs.lemmas.Bool.Decides.{nat_tests}
use Rattle.tas_runs.specs.Records.{Content, Damaged, Remote, Local, Item}
use Rattle.tas_model.specs.declared.entry.FourTuple.{FourTuple}
use Rattle.tas_runs.specs.Batches.{tuple_of, is_of, clashes, Cut, joins, cut_at, closed_cut, batches_of}

-- a batch that grows, with none before it
abbrev pub growing : List Item → Cut
growing current = record { done = []; current = current }

-- batches that stand before all that are cut
abbrev behind : List (List Item) → Cut → Cut
behind before c = record { done = before ++ c.done; current = c.current }

step_by : (b : Bool) (before done : List (List Item)) (current : List Item) (x : Item)
    → ◌≡◌ {A = Cut} (if b then record { done = before ++ done; current = current ++ x ∷ [] } else record
    { done = (before ++ done) ++ current ∷ []; current = x ∷ [] })
    (behind before (if b then record { done = done; current = current ++ x ∷ [] } else record
    { done = done ++ current ∷ []; current = x ∷ [] }))
step_by true before done current x = refl
step_by false before done current x = ap (λ (d : List (List Item)). record { done = d; current = x ∷ [] })
    (append_assoc before done (current ∷ []))

step_behind : (before : List (List Item)) (c : Cut) (x : Item) → cut_at (behind before c) x ≡ behind before (cut_at c x)
step_behind before c x = step_by (joins c.current x) before c.done c.current x

fold_behind : (before : List (List Item)) (c : Cut) (xs : List Item)
    → fold cut_at (behind before c) xs ≡ behind before (fold cut_at c xs)
fold_behind before c [] = refl
fold_behind before c (x ∷ xs) = ap (λ (d : Cut). fold cut_at d xs) (step_behind before c x)
    ∙ fold_behind before (cut_at c x) xs

closed_by : (before done : List (List Item)) (current : List Item)
    → closed_cut (record { done = before ++ done; current = current })
    ≡ before ++ closed_cut (record { done = done; current = current })
closed_by before done [] = refl
closed_by before done (x ∷ xs) = append_assoc before done ((x ∷ xs) ∷ [])

-- the first record joins the empty batch
pub first_joins : (x : Item) → joins [] x ≡ true
first_joins x = by_content x.number x.content where
  by_content : (n : ℕ) (c : Content) → joins [] (record { number = n; content = c }) ≡ true
  by_content n (Damaged rule) = refl
  by_content n (Remote tuple seg) = refl
  by_content n (Local tuple seg) = refl

cut_true : (c : Cut) (x : Item) → joins c.current x ≡ true → cut_at c x ≡ record c { current = c.current ++ x ∷ [] }
cut_true c x h = rw h refl

cut_false : (c : Cut) (x : Item) → joins c.current x ≡ false
    → cut_at c x ≡ record { done = c.done ++ c.current ∷ []; current = x ∷ [] }
cut_false c x h = rw h refl

-- ----- a batch that grows, and the records that are left behind it
-- one record more joins
pub grows : (all front rest : List Item) (x : Item) → joins front x ≡ true
    → fold cut_at (growing []) all ≡ fold cut_at (growing front) (x ∷ rest)
    → fold cut_at (growing []) all ≡ fold cut_at (growing (front ++ x ∷ [])) rest
grows all front rest x joined so_far =
    so_far ∙ ap (λ (c : Cut). fold cut_at c rest) (cut_true (growing front) x joined)

-- a record that doesn't join begins the batches of all that are left
next_begins : (front : List Item) (x : Item) (rest : List Item) → joins front x ≡ false
    → closed_cut (fold cut_at (growing front) (x ∷ rest)) ≡ front ∷ closed_cut (fold cut_at (growing []) (x ∷ rest))
next_begins front x rest apart =
    ap (λ (c : Cut). closed_cut (fold cut_at c rest)) (cut_false (growing front) x apart)
    ∙ (ap closed_cut (fold_behind (front ∷ []) (growing (x ∷ [])) rest)
    ∙ (closed_by (front ∷ []) (fold cut_at (growing (x ∷ [])) rest).done (fold cut_at (growing (x ∷ [])) rest).current
    ∙ ap (λ (c : Cut). front ∷ closed_cut (fold cut_at c rest)) (sym (cut_true (growing []) x (first_joins x)))))

pub batch_ends : (all front rest : List Item) (x : Item) → joins front x ≡ false
    → fold cut_at (growing []) all ≡ fold cut_at (growing front) (x ∷ rest)
    → batches_of all ≡ front ∷ batches_of (x ∷ rest)
unfolding batches_of
batch_ends all front rest x apart so_far = ap closed_cut so_far ∙ next_begins front x rest apart

-- all that are left have joined
all_joined : (front : List Item) → 0 < length front
    → closed_cut (growing front) ≡ front ∷ closed_cut (growing [])
all_joined [] some = absurd (omega (arith, some))
all_joined (x ∷ xs) some = refl

pub batch_is_all : (all front : List Item) → 0 < length front
    → fold cut_at (growing []) all ≡ fold cut_at (growing front) [] → batches_of all ≡ front ∷ batches_of []
unfolding batches_of
batch_is_all all front some so_far = ap closed_cut so_far ∙ all_joined front some

-- no items have no batch
pub no_batch : batches_of [] ≡ []
unfolding batches_of
no_batch = refl

few_by : (b c : Bool) → (b && c) ≡ true → b ≡ true
few_by true c h = refl
few_by false c h = h

-- a batch that is joined has fewer than 64
pub joined_few : (front : List Item) (x : Item) → joins front x ≡ true → length front < 64
joined_few front x joined =
    let few : nat_lt (length front) 64 ≡ true = few_by _ _ joined in
    grind (arith, nat_tests, few)

-- a test of what the elements stand for
pub any_mapped : {X Y : Type 0} (p : Y → Bool) (f : X → Y) (xs : List X)
    → list_any p (map f xs) ≡ list_any (λ x. p (f x)) xs
any_mapped p f [] = refl
any_mapped p f (x ∷ xs) = ap (λ b. p (f x) || b) (any_mapped p f xs)

pub clashes_of : (batch : List Item) (x : Item) (tuple : FourTuple) → tuple_of x.content ≡ Some tuple
    → clashes batch x ≡ list_any (is_of tuple) batch
clashes_of batch x tuple is = ap (λ (o : Option FourTuple). elim o as
    (λ o. Bool) [ None ↦ false | Some tuple ↦ list_any (is_of tuple) batch ]) is
