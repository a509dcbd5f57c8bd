-- The map answers what the changes that made it say.
use Rattle.std.proofs.Common.{◌≡◌, ℕ, ◌<◌, List, [], ◌∷◌, ◌++◌, Bool, true, false, true≢false, cond, ◌&&◌, fold}
use Rattle.std.proofs.Common.{eq-eqb, ne_eqb, sym, refl, ap, ◌∙◌, arith}
use Rattle.std.specs.Prelude.{Option, Some, None, ◌==◌}
use Rattle.std.specs.List.{AllByRecursion}
use Rattle.std.specs.List.Sorted.{IsStrictlySortedBy}
use Rattle.std.specs.Cmp.{IsTotalOrder}
use Rattle.std.specs.declared.cmp.Ordering.{Ordering}
use Rattle.std.specs.declared.cmp.Ordering.TheVariants.{Less, Equal, Greater}
use Rattle.std.specs.Ordering.{nat_cmp, is_eq, ordering_then, ordering_reverse, match_ordering}
use Rattle.std.specs.BTreeMap.{insert_entry, is_at}
use Rattle.std.specs.Map.{remove_entry, lookup, keys_of}
use Rattle.std.proofs.lemmas.Cmp.{nat_cmp_total, on_total, then_total, eq_by_cmp_equiv, ranked, by_ranked}
use Rattle.std.proofs.lemmas.Map.{lookup-remove_entry}
use Rattle.std.proofs.lemmas.Map.Keys.{IsDistinct-from_sorted}
use Rattle.flow_index.proofs.Steps.{fold-append}
use Rattle.tas_model.specs.declared.entry.FourTuple.{FourTuple}
use Rattle.tas_model.specs.declared.entry.FlowId.{FlowId}
use Rattle.flow_index.specs.declared.store.Key.{Key}
use Rattle.flow_index.specs.declared.change.Change.{Change}
use Rattle.flow_index.specs.declared.change.Change.TheVariants.{Put, Remove}
use Rattle.flow_index.specs.Changes.{is_same, after_change, found_from, found_after, AnswerAlike}
use Rattle.flow_index.specs.Entries.{Entries, key_of, key_cmp, changed, entries_of, answer, found_in}

total : IsTotalOrder key_cmp
total =
    let a = on_total (λ (k : Key). k.laddr) nat_cmp_total in let b = on_total (λ (k : Key). k.lport) nat_cmp_total in
    let c = on_total (λ (k : Key). k.raddr) nat_cmp_total in let d = on_total (λ (k : Key). k.rport) nat_cmp_total in
    then_total a (then_total b (then_total c d))

abbrev Below : Key → List Key → Type 0
Below k ks = AllByRecursion (λ y. key_cmp k y ≡ Less) ks

abbrev Ascend : Entries → Type 0
Ascend es = IsStrictlySortedBy key_cmp (keys_of es)

-- ----- keys stay in order

below_all : (k l : Key) → key_cmp k l ≡ Less → (ks : List Key) → Below l ks → Below k ks
below_all k l h [] a = a
below_all k l h (x ∷ xs) a = (total.trans k l x h a.0, below_all k l h xs a.1)

all_inserted : (P : Key → Type 0) (es : Entries) (k : Key) (v : FlowId) → AllByRecursion P (keys_of es) → P k
    → AllByRecursion P (keys_of (insert_entry key_cmp es k v))
all_inserted P [] k v a p = (p, a)
all_inserted P (e ∷ es) k v a p = by (key_cmp k e.0) (all_inserted P es k v a.1 p)
  where
    by : (r : Ordering) → AllByRecursion P (keys_of (insert_entry key_cmp es k v))
        → AllByRecursion P
        (keys_of (match_ordering r ((k, v) ∷ e ∷ es) ((e.0, v) ∷ es) (e ∷ insert_entry key_cmp es k v)))
    by Less h = (p, a)
    by Equal h = a
    by Greater h = (a.0, h)

ascend_inserted : (es : Entries) (k : Key) (v : FlowId) → Ascend es → Ascend (insert_entry key_cmp es k v)
unfolding IsStrictlySortedBy
ascend_inserted [] k v s = (s, s)
ascend_inserted (e ∷ es) k v s = by (key_cmp k e.0) refl (ascend_inserted es k v s.1)
  where
    by : (r : Ordering) → key_cmp k e.0 ≡ r → Ascend (insert_entry key_cmp es k v)
        → Ascend (match_ordering r ((k, v) ∷ e ∷ es) ((e.0, v) ∷ es) (e ∷ insert_entry key_cmp es k v))
    by Less is h = ((is, below_all k e.0 is (keys_of es) s.0), s)
    by Equal is h = s
    by Greater is h = (
      all_inserted (λ y. key_cmp e.0 y ≡ Less) es k v s.0 (total.antisymm e.0 k
          ∙ ap ordering_reverse is),
      h,
    )

all_removed : (P : Key → Type 0) (test : Key → Bool) (es : Entries) → AllByRecursion P (keys_of es)
    → AllByRecursion P (keys_of (remove_entry test es))
all_removed P test [] a = a
all_removed P test (e ∷ es) a = by (test e.0) (all_removed P test es a.1)
  where
    by : (b : Bool) → AllByRecursion P (keys_of (remove_entry test es))
        → AllByRecursion P (keys_of (cond b es (e ∷ remove_entry test es)))
    by true h = a.1
    by false h = (a.0, h)

ascend_removed : (test : Key → Bool) (es : Entries) → Ascend es → Ascend (remove_entry test es)
unfolding IsStrictlySortedBy
ascend_removed test [] s = s
ascend_removed test (e ∷ es) s = by (test e.0) (ascend_removed test es s.1)
  where
    by : (b : Bool) → Ascend (remove_entry test es) → Ascend (cond b es (e ∷ remove_entry test es))
    by true h = s.1
    by false h = (all_removed (λ y. key_cmp e.0 y ≡ Less) test es s.0, h)

ascend_changed : (es : Entries) (c : Change) → Ascend es → Ascend (changed es c)
ascend_changed es (Put t flow) s = ascend_inserted es (key_of t) flow s
ascend_changed es (Remove t) s = ascend_removed (is_at (key_cmp (key_of t))) es s

ascend_folded : (es : Entries) (cs : List Change) → Ascend es → Ascend (fold changed es cs)
ascend_folded es [] s = s
ascend_folded es (c ∷ cs) s = ascend_folded (changed es c) cs (ascend_changed es c s)

nothing_ascends : Ascend []
unfolding IsStrictlySortedBy
nothing_ascends = tt

-- ----- what a look-up gives

reversed : (o : Ordering) → is_eq (ordering_reverse o) ≡ is_eq o
reversed Less = refl
reversed Equal = refl
reversed Greater = refl

turned : (k q : Key) → is_eq (key_cmp k q) ≡ is_eq (key_cmp q k)
turned k q = ap is_eq (total.antisymm k q) ∙ reversed (key_cmp q k)

equal : (o : Ordering) → is_eq o ≡ true → o ≡ Equal
equal Less h = absurd (true≢false (sym h))
equal Equal h = refl
equal Greater h = absurd (true≢false (sym h))

module _ {A : Type 0} where
  again : (b : Bool) (x y z : A) → cond b x y ≡ cond b x (cond b z y)
  again true x y z = refl
  again false x y z = refl

  swapped : (a b : Bool) (x y z : A) → (a ≡ true → b ≡ true → ⊥) → cond a x (cond b y z) ≡ cond b y (cond a x z)
  swapped true true x y z h = absurd (h refl refl)
  swapped true false x y z h = refl
  swapped false true x y z h = refl
  swapped false false x y z h = refl

abbrev look : Key → Entries → Option FlowId
look q es = lookup (is_at (key_cmp q)) es

found_inserted : (es : Entries) (k : Key) (v : FlowId) (q : Key)
    → look q (insert_entry key_cmp es k v) ≡ cond (is_eq (key_cmp k q)) (Some v) (look q es)
found_inserted [] k v q = ap (λ b. cond b (Some v) None) (turned q k)
found_inserted (e ∷ es) k v q = by (key_cmp k e.0) refl (found_inserted es k v q)
  where
    apart : key_cmp k e.0 ≡ Greater → is_eq (key_cmp q e.0) ≡ true → is_eq (key_cmp k q) ≡ true → ⊥
    apart is a b = true≢false (sym (ap is_eq (total.congr k q e.0 (equal (key_cmp k q) b)) ∙ a) ∙ ap is_eq is)

    by : (r : Ordering) → key_cmp k e.0 ≡ r
        → look q (insert_entry key_cmp es k v) ≡ cond (is_eq (key_cmp k q)) (Some v) (look q es)
        → look q (match_ordering r ((k, v) ∷ e ∷ es) ((e.0, v) ∷ es) (e ∷ insert_entry key_cmp es k v))
        ≡ cond (is_eq (key_cmp k q)) (Some v) (look q (e ∷ es))
    by Less is h = ap (λ b. cond b (Some v) (lookup (is_at (key_cmp q)) (e ∷ es))) (turned q k)
    by Equal is h =
        again (is_eq (key_cmp q e.0)) (Some v) (lookup (is_at (key_cmp q)) es) (Some e.1)
        ∙ ap (λ b. cond b (Some v) (lookup (is_at (key_cmp q)) (e ∷ es))) (turned q e.0
        ∙ sym (ap is_eq (total.congr k e.0 q is)))
    by Greater is h =
        ap (cond (is_eq (key_cmp q e.0)) (Some e.1)) h
        ∙ swapped (is_eq (key_cmp q e.0)) (is_eq (key_cmp k q)) (Some e.1) (Some v) (look q es) (apart is)

found_removed : (es : Entries) (k q : Key) → Ascend es
    → look q (remove_entry (is_at (key_cmp k)) es) ≡ cond (is_eq (key_cmp k q)) None (look q es)
found_removed es k q s =
    let one = λ (x y : Key) (h : is_eq (key_cmp k x) ≡ true). ap is_eq (total.congr k x y (equal (key_cmp k x) h)) in
    lookup-remove_entry (eq_by_cmp_equiv total) (is_at (key_cmp k)) one q es
    (IsDistinct-from_sorted key_cmp (keys_of es) s)

-- ----- what the changes say

equal_numbers : (x y : ℕ) → is_eq (nat_cmp x y) ≡ (x == y)
equal_numbers x y = by_ranked (x < y) (x ≡ y) (y < x) (nat_cmp x y) (ranked x y (nat_cmp x y) refl)
    (λ is h. ap is_eq is ∙ sym (ne_eqb x y (λ e. absurd (omega arith))))
    (λ is h. ap is_eq is ∙ sym (eq-eqb x y h))
    (λ is h. ap is_eq is ∙ sym (ne_eqb x y (λ e. absurd (omega arith))))

both_equal : (o p : Ordering) → is_eq (ordering_then o p) ≡ (is_eq o && is_eq p)
both_equal Less p = refl
both_equal Equal p = refl
both_equal Greater p = refl

same_key : (t u : FourTuple) → is_eq (key_cmp (key_of t) (key_of u)) ≡ is_same t u
same_key t u =
    let a = nat_cmp t.laddr u.laddr in let b = nat_cmp t.lport u.lport in let c = nat_cmp t.raddr u.raddr in
    let d = nat_cmp t.rport u.rport in
    both_equal a (ordering_then b (ordering_then c d))
    ∙ ((λ i. equal_numbers t.laddr u.laddr i && both_equal b (ordering_then c d) i)
    ∙ ((λ i. t.laddr == u.laddr && (equal_numbers t.lport u.lport i && both_equal c d i))
    ∙ (λ i. t.laddr == u.laddr && (t.lport == u.lport
    && (equal_numbers t.raddr u.raddr i && equal_numbers t.rport u.rport i)))))

answered : (b : Bool) (x y : Option FlowId) → answer (cond b x y) ≡ cond b (answer x) (answer y)
answered true x y = refl
answered false x y = refl

found_changed : (es : Entries) (c : Change) (t : FourTuple) → Ascend es
    → found_in (changed es c) t ≡ after_change t (found_in es t) c
found_changed es (Put u flow) t s =
    let old = lookup (is_at (key_cmp (key_of t))) es in
    ap answer (found_inserted es (key_of u) flow (key_of t) ∙ ap (λ b. cond b (Some flow) old) (same_key u t))
    ∙ answered (is_same u t) (Some flow) old
found_changed es (Remove u) t s =
    let old = lookup (is_at (key_cmp (key_of t))) es in
    ap answer (found_removed es (key_of u) (key_of t) s ∙ ap (λ b. cond b None old) (same_key u t))
    ∙ answered (is_same u t) None old

found_folded : (es : Entries) (cs : List Change) (t : FourTuple) → Ascend es
    → found_in (fold changed es cs) t ≡ found_from t (found_in es t) cs
found_folded es [] t s = refl
found_folded es (c ∷ cs) t s = found_folded (changed es c) cs t (ascend_changed es c s)
    ∙ ap (λ f. found_from t f cs) (found_changed es c t s)

-- what the entries that some changes made answer
pub found_made : (cs : List Change) (t : FourTuple) → found_in (entries_of cs) t ≡ found_after t cs
found_made cs t = found_folded [] cs t nothing_ascends

-- changes that make what further changes of such entries make answer as all of these together
pub answer_alike : (seen pending now : List Change) (before after : Entries) → before ≡ entries_of seen
    → after ≡ fold changed before pending → after ≡ entries_of now → AnswerAlike now (seen ++ pending)
answer_alike seen pending now before after was is made t =
    sym (found_made now t)
    ∙ (ap (λ es. found_in es t) (sym made
    ∙ (is ∙ (ap (λ es. fold changed es pending) was ∙ sym (fold-append [] seen pending))))
    ∙ found_made (seen ++ pending) t)
