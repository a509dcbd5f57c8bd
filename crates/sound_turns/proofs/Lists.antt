-- Lists of books of which one is another: for the law time_keeps_it.
use Rattle.std.proofs.Common.{◌≡◌, ℕ, zero, suc, ◌+◌, ◌<◌, ◌==◌, ◌&&◌, ◌||◌, cond, Bool, false, List}
use Rattle.std.proofs.Common.{[], ◌∷◌, ◌++◌}
use Rattle.std.proofs.Common.{map, refl, sym, ap, ◌∙◌, subst, arith, count_by, inl, inr, true≢false}
use Rattle.std.specs.Prelude.{◌⊎◌}
use Rattle.std.specs.List.{list_any}
use Rattle.tas_model.specs.declared.entry.FlowId.{FlowId}
use Rattle.tas_model.specs.declared.entry.FourTuple.{FourTuple}
use Rattle.host_rounds.specs.Hosts.{is_indexed_as, same_tuple}
use Rattle.host_rounds.proofs.Lists.{each_append}
use Rattle.core_rounds.proofs.Filters.{tally}
use Rattle.flow_lock.specs.Orders.{known_of, same_flow}
use Rattle.flow_lock.specs.declared.view.Held.{Held}
use Rattle.host_books.specs.Books.{Book, live_in, IsAt}
use Rattle.host_books.specs.Indexes.{AreIndexed, AreOnce, IsFindable}
use Rattle.sound_hosts.specs.Hosts.{is_of_slot, waiting_in, passive_flow, waits, AreNumbered}
use Rattle.sound_hosts.proofs.Distinct.{count_push}
use Rattle.sound_hosts.proofs.Sweeping.{firsts, lasts, middle, any_swap}
use Rattle.sound_turns.specs.Passing.{AreSwept, swept_book}

-- ----- one book is another of the same flow
module _ (b c : Book) (named : c.id ≡ b.id) where
  numbered_ids : (slots : ℕ) (before after bs : List Book)
      → ((i : ℕ) → count_by (is_of_slot i) after ≡ count_by (is_of_slot i) before)
      → AreNumbered slots before bs → AreNumbered slots after bs
  numbered_ids slots before after [] same numbered = tt
  numbered_ids slots before after (d ∷ ds) same numbered = (
    numbered.0,
    numbered.1 ∙ ap (λ n. 1 + n) (sym (same d.id.slot)),
    numbered_ids slots (before ++ d ∷ []) (after ++ d ∷ []) ds (λ i. pushed i) numbered.2,
  )
    where
      pushed : (i : ℕ) → count_by (is_of_slot i) (after ++ d ∷ []) ≡ count_by (is_of_slot i) (before ++ d ∷ [])
      pushed i =
          let x : count_by (is_of_slot i) (after ++ d ∷ []) ≡ count_by (is_of_slot i) after + tally (is_of_slot i d) =
          count_push (is_of_slot i) after d in
          let y : count_by (is_of_slot i) (before ++ d ∷ []) ≡ count_by (is_of_slot i) before + tally (is_of_slot i d) =
          count_push (is_of_slot i) before d in
          let z : count_by (is_of_slot i) after ≡ count_by (is_of_slot i) before = same i in
          omega (arith, x, y, z)

  pub numbered_swap : (slots : ℕ) (before xs cs : List Book) → AreNumbered slots before (xs ++ b ∷ cs)
      → AreNumbered slots before (xs ++ c ∷ cs)
  numbered_swap slots before [] cs numbered = (
    subst (λ (f : FlowId). f.slot < slots) (sym named) numbered.0,
    subst (λ (f : FlowId). f.generation ≡ 1 + count_by (is_of_slot f.slot) before) (sym named) numbered.1,
    numbered_ids slots (before ++ b ∷ []) (before ++ c ∷ []) cs (λ i. pushed i) numbered.2,
  )
    where
      pushed : (i : ℕ) → count_by (is_of_slot i) (before ++ c ∷ []) ≡ count_by (is_of_slot i) (before ++ b ∷ [])
      pushed i =
          let x : count_by (is_of_slot i) (before ++ c ∷ []) ≡ count_by (is_of_slot i) before + tally (is_of_slot i c) =
          count_push (is_of_slot i) before c in
          let y : count_by (is_of_slot i) (before ++ b ∷ []) ≡ count_by (is_of_slot i) before + tally (is_of_slot i b) =
          count_push (is_of_slot i) before b in
          let z : tally (is_of_slot i c) ≡ tally (is_of_slot i b) =
          ap (λ (f : FlowId). tally (f.slot == i)) named in
          omega (arith, x, y, z)
  numbered_swap slots before (x ∷ xs) cs numbered =
      (numbered.0, numbered.1, numbered_swap slots (before ++ x ∷ []) xs cs numbered.2)

  at_swap : (n : ℕ) (f : FlowId) (xs cs : List Book) → IsAt n f (xs ++ b ∷ cs) → IsAt n f (xs ++ c ∷ cs)
  at_swap zero f [] cs at = (named ∙ at.0, at.1)
  at_swap (suc n) f [] cs at = (ap (same_flow f) named ∙ at.0, at.1)
  at_swap zero f (x ∷ xs) cs at = (
    at.0,
    each_append (λ (d : Book). same_flow f d.id ≡ false) xs (c ∷ cs)
        (firsts (λ (d : Book). same_flow f d.id ≡ false) xs b cs at.1) (
          ap (same_flow f) named ∙ middle (λ (d : Book). same_flow f d.id ≡ false) xs b cs at.1,
          lasts (λ (d : Book). same_flow f d.id ≡ false) xs b cs at.1,
        ),
  )
  at_swap (suc n) f (x ∷ xs) cs at = (at.0, at_swap n f xs cs at.1)

  -- that left the index
  module _ (known : List Held) (gone : c.indexed ≡ false) where
    once_swap : (xs cs : List Book) → AreOnce known (xs ++ b ∷ cs) → AreOnce known (xs ++ c ∷ cs)
    once_swap [] cs once = (λ is. absurd (true≢false (sym is ∙ gone)), once.1)
    once_swap (x ∷ xs) cs once = (
      λ is. each_append (IsApart x) xs (c ∷ cs) (firsts (IsApart x) xs b cs (once.0 is)) (
        ap (λ i. i && same_tuple (live_in known x).flow.tuple (live_in known c).flow.tuple) gone,
        lasts (IsApart x) xs b cs (once.0 is),
      ),
      once_swap xs cs once.1,
    )
      where
        IsApart : Book → Book → Type 0
        IsApart y d = is_indexed_as (live_in known y).flow.tuple (live_in known d) ≡ false

    pub indexed_swap : (xs cs : List Book) → IsFindable known c → AreIndexed (xs ++ b ∷ cs) known
        → AreIndexed (xs ++ c ∷ cs) known
    indexed_swap xs cs found_ are = record {
      running = each_append (IsFindable known) xs (c ∷ cs) (firsts (IsFindable known) xs b cs are.running)
          (found_, lasts (IsFindable known) xs b cs are.running);
      once = once_swap xs cs are.once;
      all = λ f. by f (are.all f);
    }
      where
        by : (f : FlowId) → ((known_of f known).entries ≡ []) ⊎ ((n : ℕ) × IsAt n f (xs ++ b ∷ cs))
            → ((known_of f known).entries ≡ []) ⊎ ((n : ℕ) × IsAt n f (xs ++ c ∷ cs))
        by f (inl none) = inl none
        by f (inr (n, at)) = inr (n, at_swap n f xs cs at)

-- ----- books that were swept
pub swept_same : (bs : List Book) → AreSwept bs bs
swept_same [] = refl
swept_same (b ∷ bs) = (inl refl, swept_same bs)

pub swept_more : (bs xs : List Book) (b : Book) (cs : List Book) → b.filed ≡ false → AreSwept bs (xs ++ b ∷ cs)
    → AreSwept bs (xs ++ swept_book b ∷ cs)
swept_more [] [] b cs stands swept = absurd (cc (swept))
swept_more [] (x ∷ xs) b cs stands swept = absurd (cc (swept))
swept_more (a ∷ bs) [] b cs stands swept = (inr (by swept.0), swept.1)
  where
    by : (b ≡ a) ⊎ ((a.filed ≡ false) × (b ≡ swept_book a)) → (a.filed ≡ false) × (swept_book b ≡ swept_book a)
    by (inl e) = (ap (λ (x : Book). x.filed) (sym e) ∙ stands, ap swept_book e)
    by (inr e) = (e.0, ap swept_book e.1)
swept_more (a ∷ bs) (x ∷ xs) b cs stands swept = (swept.0, swept_more bs xs b cs stands swept.1)

-- ----- flows that wait
pub waiting_swap : (known : List Held) (xs : List Book) (b : Book) (cs : List Book)
    → waiting_in known (xs ++ swept_book b ∷ cs) ≡ waiting_in known (xs ++ b ∷ cs)
waiting_swap known [] b cs = refl
waiting_swap known (x ∷ xs) b cs =
    λ i. cond (waits known x) (passive_flow known x ∷ waiting_swap known xs b cs i) (waiting_swap known xs b cs i)

-- ----- the index
pub any_map : {X Y : Type 0} (f : X → Y) (p : Y → Bool) (xs : List X)
    → list_any p (map f xs) ≡ list_any (λ (x : X). p (f x)) xs
any_map f p [] = refl
any_map f p (x ∷ xs) = ap (λ t. p (f x) || t) (any_map f p xs)

pub any_live_swap : (known : List Held) (t : FourTuple) (xs : List Book) (b c : Book) (cs : List Book)
    → is_indexed_as t (live_in known c) ≡ is_indexed_as t (live_in known b)
    → list_any (is_indexed_as t) (map (live_in known) (xs ++ c ∷ cs))
    ≡ list_any (is_indexed_as t) (map (live_in known) (xs ++ b ∷ cs))
any_live_swap known t xs b c cs same =
    any_map (live_in known) (is_indexed_as t) (xs ++ c ∷ cs)
    ∙ (any_swap (λ (x : Book). is_indexed_as t (live_in known x)) xs b c cs same
    ∙ sym (any_map (live_in known) (is_indexed_as t) (xs ++ b ∷ cs)))
