-- The batches are batches, and none could have been longer.
use Rattle.std.proofs.Common.{◌≡◌, ◌+◌, ◌<◌, ◌&&◌, not, Bool, true, false, List, [], ◌∷◌, ◌++◌, length, fold}
use Rattle.std.proofs.Common.{refl, sym, subst, true≢false, arith, tests, append-nil, append_assoc, length-append}
use Rattle.std.proofs.Common.{if◌then◌else◌}
use Rattle.tas_runs.specs.Records.{Content, Damaged, Remote, Local, Item}
use Rattle.tas_runs.specs.Batches.{clashes, joins, cut_at, closed_cut, batches_of, NoneClash, IsBatch, AreBatches}

none_push : (earlier items : List Item) (x : Item) → NoneClash earlier items → clashes (earlier ++ items) x ≡ false
    → NoneClash earlier (items ++ x ∷ [])
none_push earlier [] x all last = (subst (λ (zs : List Item). clashes zs x ≡ false) (append-nil earlier) last, tt)
none_push earlier (y ∷ items) x all last = (
  all.0,
  none_push (earlier ++ y ∷ []) items x all.1
      (subst (λ (zs : List Item). clashes zs x ≡ false) (sym (append_assoc earlier (y ∷ []) items)) last),
)

joins_small : (a b : Bool) → (a && not b) ≡ true → (a ≡ true) × (b ≡ false)
joins_small true false h = (refl, refl)
joins_small true true h = absurd (true≢false (sym h))
joins_small false b h = absurd (true≢false (sym h))

batch_push : (batch : List Item) (x : Item) → IsBatch batch → joins batch x ≡ true → IsBatch (batch ++ x ∷ [])
batch_push batch x is joined =
    let parts = joins_small _ (clashes batch x) joined in
    let small : length batch < 64 = grind (arith, tests, parts.0) in
    let longer : length (batch ++ x ∷ []) ≡ length batch + 1 = length-append batch (x ∷ []) in
    record { some = omega arith; most = omega arith; flows = none_push [] batch x is.flows parts.1 }

none_clash : (x : Item) → clashes [] x ≡ false
none_clash x = by_content x.content where
  by_content : (c : Content) → clashes [] (record { number = x.number; content = c }) ≡ false
  by_content (Damaged rule) = refl
  by_content (Remote tuple seg) = refl
  by_content (Local tuple seg) = refl

one_batch : (x : Item) → IsBatch (x ∷ [])
one_batch x = record { some = omega arith; most = omega arith; flows = (none_clash x, tt) }

-- the last batch gets one record more
last_grows : (done : List (List Item)) (y : Item) (ys : List Item) (x : Item) → AreBatches (done ++ (y ∷ ys) ∷ [])
    → joins (y ∷ ys) x ≡ true → AreBatches (done ++ (y ∷ ys ++ x ∷ []) ∷ [])
last_grows [] y ys x all joined = batch_push (y ∷ ys) x all joined
last_grows (b ∷ []) y ys x all joined = (all.0, all.1, batch_push (y ∷ ys) x all.2 joined)
last_grows (b ∷ c ∷ done) y ys x all joined = (all.0, all.1, last_grows (c ∷ done) y ys x all.2 joined)

-- a batch more begins
batch_more : (done : List (List Item)) (b : List Item) (x : Item) → AreBatches (done ++ b ∷ []) → joins b x ≡ false
    → AreBatches ((done ++ b ∷ []) ++ (x ∷ []) ∷ [])
batch_more [] b x all ends = (all, ends, one_batch x)
batch_more (c ∷ []) b x all ends = (all.0, all.1, (all.2, ends, one_batch x))
batch_more (c ∷ d ∷ done) b x all ends = (all.0, all.1, batch_more (d ∷ done) b x all.2 ends)

growing : (done : List (List Item)) (y : Item) (ys items : List Item) → AreBatches (done ++ (y ∷ ys) ∷ [])
    → AreBatches (closed_cut (fold cut_at (record { done = done; current = y ∷ ys }) items))
growing done y ys [] all = all
growing done y ys (x ∷ items) all =
    by_test (joins (y ∷ ys) x) refl (λ j. growing done y (ys ++ x ∷ []) items (last_grows done y ys x all j))
    (λ j. growing (done ++ (y ∷ ys) ∷ []) x [] items (batch_more done (y ∷ ys) x all j))
  where
    by_test : (b : Bool) → joins (y ∷ ys) x ≡ b
        → (joins (y ∷ ys) x ≡ true
        → AreBatches (closed_cut (fold cut_at (record { done = done; current = y ∷ (ys ++ x ∷ []) }) items)))
        → (joins (y ∷ ys) x ≡ false
        → AreBatches (closed_cut (fold cut_at (record { done = done ++ (y ∷ ys) ∷ []; current = x ∷ [] }) items)))
        → AreBatches (closed_cut (fold cut_at (if b then record { done = done; current = (y ∷ ys) ++ x ∷ [] }
        else record { done = done ++ (y ∷ ys) ∷ []; current = x ∷ [] }) items))
    by_test true h longer next = longer h
    by_test false h longer next = next h

pub batches_are : (items : List Item) → AreBatches (batches_of items)
unfolding batches_of
batches_are [] = tt
batches_are (x ∷ items) =
    subst (λ (b : Bool). AreBatches
    (closed_cut (fold cut_at (if true && not b then record { done = []; current = x ∷ [] }
    else record { done = [] ++ [] ∷ []; current = x ∷ [] }) items)))
    (sym (none_clash x)) (growing [] x [] items (one_batch x))

-- ----- a batch that is not full
both_join : (a b : Bool) → a ≡ true → b ≡ false → (a && not b) ≡ true
both_join true false h g = refl
both_join true true h g = absurd (true≢false g)
both_join false b h g = absurd (true≢false (sym h))

pub takes_up_to : (batch : List Item) (x : Item) → length batch < 64 → clashes batch x ≡ false → joins batch x ≡ true
takes_up_to batch x small apart =
    both_join _ (clashes batch x) (grind (arith, tests, small)) apart
