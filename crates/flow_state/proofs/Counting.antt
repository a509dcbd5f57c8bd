-- The counts of callers.
use Rattle.std.proofs.Common.{◌≡◌, ℕ, zero, suc, ◌+◌, ◌<◌, ◌≤◌, Bool, true, false, cond, eqb, List, [], ◌∷◌, ◌++◌}
use Rattle.std.proofs.Common.{length, set, get_or, nat_lt, position, Some, None, refl, sym, ◌∙◌, ap, arith, tests}
use Rattle.std.proofs.lemmas.Bool.Decides.{nat_tests}
use Rattle.std.specs.List.{fold, position_or_len}
use Rattle.std.proofs.lemmas.List.Sums.{fails_before_first, count_by-le-length}
use Rattle.tas_model.specs.declared.entry.Caller.{Caller}
use Rattle.tas_model.specs.declared.entry.Caller.TheVariants.{Slow, Core, App}
use Rattle.tas_model.specs.declared.entry.Entry.{Entry}
use Rattle.tas_model.specs.LegalHistory.{next_number, same_caller}
use Rattle.flow_state.specs.declared.counts.CallerCount.{CallerCount}
use Rattle.flow_state.specs.Counts.{counted_for, is_for, AreCounts}

equal_numbers : (k j : ℕ) → eqb k j ≡ true → k ≡ j
equal_numbers k j h = grind (arith, nat_tests)

swapped_numbers : (k j : ℕ) → eqb k j ≡ eqb j k
swapped_numbers k j = grind (arith, nat_tests)

pub caller_is : (a b : Caller) → same_caller a b ≡ true → a ≡ b
caller_is Slow Slow h = refl
caller_is (Core k) (Core j) h = ap (λ (n : ℕ). Core n) (equal_numbers k j h)
caller_is (App k) (App j) h = ap (λ (n : ℕ). App n) (equal_numbers k j h)
caller_is Slow (Core j) h = absurd (cc (h))
caller_is Slow (App j) h = absurd (cc (h))
caller_is (Core k) Slow h = absurd (cc (h))
caller_is (Core k) (App j) h = absurd (cc (h))
caller_is (App k) Slow h = absurd (cc (h))
caller_is (App k) (Core j) h = absurd (cc (h))

caller_swapped : (a b : Caller) → same_caller a b ≡ same_caller b a
caller_swapped Slow Slow = refl
caller_swapped (Core k) (Core j) = swapped_numbers k j
caller_swapped (App k) (App j) = swapped_numbers k j
caller_swapped Slow (Core j) = refl
caller_swapped Slow (App j) = refl
caller_swapped (Core k) Slow = refl
caller_swapped (Core k) (App j) = refl
caller_swapped (App k) Slow = refl
caller_swapped (App k) (Core j) = refl

-- the count of another caller hides nothing of this one's
passed_by : (c caller other : Caller) (made n m : ℕ) → same_caller c caller ≡ false
    → n ≡ m + cond (same_caller caller other) 1 0
    → cond (same_caller c other) made n ≡ cond (same_caller c other) made m + cond (same_caller caller other) 1 0
passed_by c caller other made n m past more = by_test (same_caller c other) refl
  where
    by_test : (t : Bool) → same_caller c other ≡ t → cond t made n ≡ cond t made m + cond (same_caller caller other) 1 0
    by_test false is = more
    by_test true is =
        let apart : same_caller caller other ≡ false = caller_swapped caller other
        ∙ (ap (λ (x : Caller). same_caller x caller) (sym (caller_is c other is)) ∙ past) in
        rw apart (omega arith)

one_more : (t : Bool) (made n : ℕ) → cond t (made + 1) n ≡ cond t made n + cond t 1 0
one_more true made n = refl
one_more false made n = omega arith

-- the first count that is the caller's is the one that is read
pub counted_at : (caller : Caller) (cs : List CallerCount) (i : ℕ) (d : CallerCount) → i < length cs
    → is_for caller (get_or cs i d) ≡ true → ((k : ℕ) → k < i → is_for caller (get_or cs k d) ≡ false)
    → counted_for caller cs ≡ (get_or cs i d).made
counted_at caller [] i d below here before = absurd (omega arith)
counted_at caller (c ∷ cs) zero d below here before = rw (here, counted_for) refl
counted_at caller (c ∷ cs) (suc i) d below here before =
    let past : is_for caller c ≡ false = before 0 (omega arith) in
    let rest : counted_for caller cs ≡ (get_or cs i d).made =
    counted_at caller cs i d (omega arith) here (λ k h. before (suc k) (omega arith)) in
    rw (past, counted_for) rest

pub counted_none : (caller : Caller) (cs : List CallerCount) (d : CallerCount)
    → ((k : ℕ) → k < length cs → is_for caller (get_or cs k d) ≡ false) → counted_for caller cs ≡ 0
counted_none caller [] d fails = refl
counted_none caller (c ∷ cs) d fails =
    let past : is_for caller c ≡ false = fails 0 (omega arith) in
    rw (past, counted_for) (counted_none caller cs d (λ k h. fails (suc k) (omega arith)))

-- one more is counted where a count stands
pub counted_set : (caller other : Caller) (cs : List CallerCount) (i : ℕ) (d x : CallerCount) → i < length cs
    → is_for caller (get_or cs i d) ≡ true → ((k : ℕ) → k < i → is_for caller (get_or cs k d) ≡ false)
    → x ≡ record (get_or cs i d) { made = (get_or cs i d).made + 1 }
    → counted_for other (set cs i x) ≡ counted_for other cs + cond (same_caller caller other) 1 0
counted_set caller other [] i d x below here before is = absurd (omega arith)
counted_set caller other (c ∷ cs) zero d x below here before is =
    let own : c.caller ≡ caller = caller_is c.caller caller here in
    rw (is, ← own) (one_more (same_caller c.caller other) c.made (counted_for other cs))
counted_set caller other (c ∷ cs) (suc i) d x below here before is =
    passed_by c.caller caller other c.made (counted_for other (set cs i x)) (counted_for other cs)
    (before 0 (omega arith))
    (counted_set caller other cs i d x (omega arith) here (λ k h. before (suc k) (omega arith)) is)

-- one is counted where no count stands
pub counted_push : (caller other : Caller) (cs : List CallerCount) (d : CallerCount)
    → ((k : ℕ) → k < length cs → is_for caller (get_or cs k d) ≡ false)
    → counted_for other (cs ++ record { caller = caller; made = 1 } ∷ [])
    ≡ counted_for other cs + cond (same_caller caller other) 1 0
counted_push caller other [] d fails = omega arith
counted_push caller other (c ∷ cs) d fails =
    passed_by c.caller caller other c.made (counted_for other (cs ++ record { caller = caller; made = 1 } ∷ []))
    (counted_for other cs) (fails 0 (omega arith))
    (counted_push caller other cs d (λ k h. fails (suc k) (omega arith)))

not_lower : (b : Bool) (i : ℕ) → cond b (Some i) None ≡ None → b ≡ false
not_lower true i h = absurd (cc (h))
not_lower false i h = refl

pub none_found : {X : Type 0} (test : X → Bool) (xs : List X) (d : X) → position test xs ≡ None → (k : ℕ)
    → k < length xs → test (get_or xs k d) ≡ false
none_found test [] d h k below = absurd (omega arith)
none_found {X} test (x ∷ xs) d h k below =
    let ends : nat_lt (position_or_len test (x ∷ xs)) (length (x ∷ xs)) ≡ false = not_lower _ _ h in
    fails_before_first test (x ∷ xs) k d (grind (arith, tests, ends, below))

-- ----- the counts of a history
count_from : (caller : Caller) (n : ℕ) (h : List Entry) (x : Entry)
    → fold (λ (a : ℕ) (y : Entry). a + cond (same_caller y.caller caller) 1 0) n (h ++ x ∷ [])
    ≡ fold (λ (a : ℕ) (y : Entry). a + cond (same_caller y.caller caller) 1 0) n h + cond
    (same_caller x.caller caller) 1 0
count_from caller n [] x = refl
count_from caller n (y ∷ h) x = count_from caller (n + cond (same_caller y.caller caller) 1 0) h x

pub number_push : (caller : Caller) (h : List Entry) (x : Entry)
    → next_number caller (h ++ x ∷ []) ≡ next_number caller h + cond (same_caller x.caller caller) 1 0
number_push caller h x = count_from caller 0 h x

pub number_fits : (caller : Caller) (h : List Entry) → next_number caller h ≤ length h
number_fits caller h = count_by-le-length (λ (x : Entry). same_caller x.caller caller) h

-- after one entry more, one more of its caller is counted
pub counts_push : (before after : List CallerCount) (h : List Entry) (x : Entry) → AreCounts before h
    → ((other : Caller) → counted_for other after ≡ counted_for other before + cond (same_caller x.caller other) 1 0)
    → AreCounts after (h ++ x ∷ [])
counts_push before after h x are more other = more other
    ∙ (ap (λ (n : ℕ). n + cond (same_caller x.caller other) 1 0) (are other) ∙ sym (number_push other h x))

pub counts_first : (counts : List CallerCount) (x : Entry)
    → ((other : Caller) → counted_for other counts ≡ cond (same_caller x.caller other) 1 0)
    → AreCounts counts (x ∷ [])
counts_first counts x counted other = counted other ∙ zero_plus (cond (same_caller x.caller other) 1 0)
  where
    zero_plus : (n : ℕ) → n ≡ 0 + n
    zero_plus n = omega arith
