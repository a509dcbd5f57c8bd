-- What was asked beside the others, and what is left to ask: for the law tried_scripts_go_on.
use Rattle.std.proofs.Common.{◌≡◌, ℕ, ◌≤◌, ◌<◌, ◌==◌, cond, not, Bool, true, false, List, [], ◌∷◌, ◌++◌, length, map}
use Rattle.std.proofs.Common.{filter, Option, Some, None, IfSome, is_some, refl, sym, ap, ◌∙◌, subst, arith, tests}
use Rattle.std.proofs.Common.{if◌then◌else◌}
use Rattle.std.specs.List.{find}
use Rattle.std.proofs.lemmas.List.Sums.{length-filter}
use Rattle.tas_model.specs.declared.entry.HostParams.{HostParams}
use Rattle.tas_model.specs.declared.entry.Reply.{Reply}
use Rattle.host_rounds.specs.Lists.{Each}
use Rattle.host_rounds.proofs.Lists.{filter_append}
use Rattle.host_books.specs.Books.{Book}
use Rattle.host_books.specs.Words.{ArePairs}
use Rattle.lane_orders.specs.Ticks.{AreTried}
use Rattle.scenario_text.specs.declared.scenario.Scenario.{Scenario}
use Rattle.scenario_runs.specs.Applications.{Script}
use Rattle.scenario_runs.specs.Worlds.{scripts_of}
use Rattle.script_tries.specs.Names.{AreRising}
use Rattle.script_tries.specs.Replies.{answered_of, reply_to, later_of}
use Rattle.script_tries.specs.Tries.{ScriptTry, IsTriedBy, DifferInAsk, AreTriedBy}
use Rattle.script_tries.proofs.Lists.{by_bool, found_later}
use Rattle.script_tries.proofs.Turns.{same_place}
use Rattle.script_tries.proofs.Asks.{is_numbered}
use Rattle.script_tries.proofs.Going.{reply_here, reply_later, reply_none}

-- ----- of a list of numbers those that are this one
abbrev pub is_it : (n m : ℕ) → Bool
is_it n m = n == m

filter_here : (test : ℕ → Bool) (x : ℕ) (xs : List ℕ) → test x ≡ true → filter test (x ∷ xs) ≡ x ∷ filter test xs
filter_here test x xs h = ap (λ b. if b then x ∷ filter test xs else filter test xs) h

filter_past : (test : ℕ → Bool) (x : ℕ) (xs : List ℕ) → test x ≡ false → filter test (x ∷ xs) ≡ filter test xs
filter_past test x xs h = ap (λ b. if b then x ∷ filter test xs else filter test xs) h

turned : (n m : ℕ) → (n == m) ≡ true → (m == n) ≡ true
turned n m h = grind (arith, tests, h)

not_turned : (n m : ℕ) → (n == m) ≡ false → (m == n) ≡ false
not_turned n m h = grind (arith, tests, h)

below : (n m : ℕ) → n < m → (n == m) ≡ false
below n m h = grind (arith, tests, h)

-- of those that are kept
filter_kept : (n : ℕ) (keep : ℕ → Bool) (xs : List ℕ)
    → filter (is_it n) (filter keep xs) ≡ cond (keep n) (filter (is_it n) xs) []
filter_kept n keep [] = by_keep (keep n) where
  by_keep : (b : Bool) → ◌≡◌ {A = List ℕ} [] (cond b [] [])
  by_keep true = refl
  by_keep false = refl
filter_kept n keep (x ∷ xs) = by_bool (n == x) (here (filter_kept n keep xs)) (other (filter_kept n keep xs)) where
  Kept : List ℕ → Type 0
  Kept ys = filter (is_it n) (filter keep ys) ≡ cond (keep n) (filter (is_it n) ys) []

  here : Kept xs → (n == x) ≡ true → Kept (x ∷ xs)
  here rest h = by_bool (keep n) kept gone where
    same : keep x ≡ keep n
    same = ap keep (sym (same_place n x h))

    kept : keep n ≡ true → Kept (x ∷ xs)
    kept k =
        ap (filter (is_it n)) (filter_here keep x xs (same ∙ k))
        ∙ (filter_here (is_it n) x (filter keep xs) h
        ∙ (ap (λ (ys : List ℕ). x ∷ ys) (rest ∙ ap (λ b. cond b (filter (is_it n) xs) []) k)
        ∙ (sym (filter_here (is_it n) x xs h)
        ∙ sym (ap (λ b. cond b (filter (is_it n) (x ∷ xs)) []) k))))

    gone : keep n ≡ false → Kept (x ∷ xs)
    gone k =
        ap (filter (is_it n)) (filter_past keep x xs (same ∙ k))
        ∙ (rest
        ∙ (ap (λ b. cond b (filter (is_it n) xs) []) k ∙ sym (ap (λ b. cond b (filter (is_it n) (x ∷ xs)) []) k)))

  other : Kept xs → (n == x) ≡ false → Kept (x ∷ xs)
  other rest h = by_bool (keep x) kept gone where
    all : filter (is_it n) xs ≡ filter (is_it n) (x ∷ xs)
    all = sym (filter_past (is_it n) x xs h)

    kept : keep x ≡ true → Kept (x ∷ xs)
    kept k =
        ap (filter (is_it n)) (filter_here keep x xs k)
        ∙ (filter_past (is_it n) x (filter keep xs) h ∙ (rest ∙ ap (λ ys. cond (keep n) ys []) all))

    gone : keep x ≡ false → Kept (x ∷ xs)
    gone k =
        ap (filter (is_it n)) (filter_past keep x xs k) ∙ (rest ∙ ap (λ ys. cond (keep n) ys []) all)

-- ----- of the scripts' numbers
abbrev numbers : List Script → List ℕ
numbers scripts = map (λ (s : Script). s.number) scripts

none_behind : (n : ℕ) (ss : List Script) → Each (λ (s : Script). n < s.number) ss
    → filter (is_it n) (numbers ss) ≡ []
none_behind n [] low = refl
none_behind n (s ∷ ss) low =
    filter_past (is_it n) s.number (numbers ss) (below n s.number low.0) ∙ none_behind n ss low.1

-- a script that its number finds is there once
one_of : (n : ℕ) (x : Script) (scripts : List Script) → AreRising scripts → find (is_numbered n) scripts ≡ Some x
    → filter (is_it n) (numbers scripts) ≡ n ∷ []
one_of n x [] rising found = absurd (cc (found))
one_of n x (s ∷ ss) rising found =
    by_bool (s.number == n) here
    (λ h. later h (one_of n x ss rising.1 (sym (found_later (is_numbered n) s ss h) ∙ found)))
  where
    here : (s.number == n) ≡ true → filter (is_it n) (numbers (s ∷ ss)) ≡ n ∷ []
    here h =
        let same : s.number ≡ n = same_place s.number n h in
        let rest : filter (is_it n) (numbers ss) ≡ [] =
        none_behind n ss (subst (λ k. Each (λ (y : Script). k < y.number) ss) same rising.0) in
        filter_here (is_it n) s.number (numbers ss) (turned s.number n h) ∙ (λ i. same i ∷ rest i)

    later : (s.number == n) ≡ false → filter (is_it n) (numbers ss) ≡ n ∷ []
        → filter (is_it n) (numbers (s ∷ ss)) ≡ n ∷ []
    later h rest = filter_past (is_it n) s.number (numbers ss) (not_turned s.number n h) ∙ rest

-- ----- of those that were answered
abbrev once_where : (answered : Bool) → ℕ → List ℕ
once_where b n = cond b (n ∷ []) []

-- the script's ask is among them once, where it was answered
answered_once : (n : ℕ) (tries : List (Option ScriptTry)) (replies : List (Option Reply)) → ArePairs DifferInAsk tries
    → filter (is_it n) (answered_of tries replies) ≡ once_where (is_some (reply_to n tries replies)) n
answered_once n [] replies once = refl
answered_once n (o ∷ os) [] once = refl
answered_once n (None ∷ os) (r ∷ rs) once = answered_once n os rs once.1
answered_once n (Some x ∷ os) (r ∷ rs) once = by_reply r (answered_once n os rs once.1) where
  Once : Option Reply → Type 0
  Once q = filter (is_it n) (answered_of (Some x ∷ os) (q ∷ rs))
      ≡ once_where (is_some (reply_to n (Some x ∷ os) (q ∷ rs))) n

  Rest : Type 0
  Rest = filter (is_it n) (answered_of os rs) ≡ once_where (is_some (reply_to n os rs)) n

  -- where the try is the script's, no other is
  none_left : (x.ask == n) ≡ true → Rest → filter (is_it n) (answered_of os rs) ≡ []
  none_left h rest =
      rest
      ∙ ap (λ o. once_where (is_some o) n)
      (ap (λ k. reply_to k os rs) (sym (same_place x.ask n h)) ∙ reply_none x os rs once.0)

  is_here : (q : Option Reply) → (x.ask == n) ≡ true → reply_to n (Some x ∷ os) (q ∷ rs) ≡ q
  is_here q h =
      ap (λ k. reply_to k (Some x ∷ os) (q ∷ rs)) (sym (same_place x.ask n h)) ∙ reply_here x os q rs

  is_later : (q : Option Reply) → (x.ask == n) ≡ false → reply_to n (Some x ∷ os) (q ∷ rs) ≡ reply_to n os rs
  is_later q h = reply_later n (Some x) os q rs h

  by_reply : (q : Option Reply) → Rest → Once q
  by_reply None rest = by_bool (x.ask == n) here other where
    here : (x.ask == n) ≡ true → Once None
    here h = none_left h rest ∙ sym (ap (λ o. once_where (is_some o) n) (is_here None h))

    other : (x.ask == n) ≡ false → Once None
    other h = rest ∙ sym (ap (λ o. once_where (is_some o) n) (is_later None h))
  by_reply (Some q) rest = by_bool (x.ask == n) here other where
    here : (x.ask == n) ≡ true → Once (Some q)
    here h =
        filter_here (is_it n) x.ask (answered_of os rs) (turned x.ask n h)
        ∙ ((λ i. same_place x.ask n h i ∷ none_left h rest i)
        ∙ sym (ap (λ o. once_where (is_some o) n) (is_here (Some q) h)))

    other : (x.ask == n) ≡ false → Once (Some q)
    other h =
        filter_past (is_it n) x.ask (answered_of os rs) (not_turned x.ask n h)
        ∙ (rest ∙ sym (ap (λ o. once_where (is_some o) n) (is_later (Some q) h)))

-- one that was answered is a script's
is_found : (t : ℕ) (books : List Book) (scripts : List Script) (n : ℕ) (tries : List (Option ScriptTry))
    (replies : List (Option Reply))
    → Each (λ (o : Option ScriptTry). IfSome o (IsTriedBy t books scripts)) tries
    → is_some (reply_to n tries replies) ≡ true → (s : Script) × (find (is_numbered n) scripts ≡ Some s)
is_found t books scripts n [] replies each there = absurd (cc (there))
is_found t books scripts n (o ∷ os) [] each there = absurd (cc (there))
is_found t books scripts n (None ∷ os) (r ∷ rs) each there = is_found t books scripts n os rs each.1 there
is_found t books scripts n (Some x ∷ os) (r ∷ rs) each there =
    by_bool (x.ask == n) here (λ h. is_found t books scripts n os rs each.1
    (sym (ap is_some (reply_later n (Some x) os r rs h)) ∙ there))
  where
    here : (x.ask == n) ≡ true → (s : Script) × (find (is_numbered n) scripts ≡ Some s)
    here h = (
      each.0.script,
      ap (λ k. find (is_numbered k) scripts) (sym (same_place x.ask n h)) ∙ each.0.found,
    )

-- ----- all that is due
few_once : (b : Bool) (n : ℕ) → length (once_where b n) ≤ 1
few_once true n = omega arith
few_once false n = omega arith

pub asks_are_tried : (sc : Scenario) (p : HostParams) (t : ℕ) (books : List Book) (scripts : List Script)
    (tries : List (Option ScriptTry)) (replies : List (Option Reply)) → AreRising scripts
    → AreTriedBy t books scripts tries
    → AreTried (scripts_of sc p) (map (λ (s : Script). s.number) scripts) (answered_of tries replies)
    (later_of tries replies (map (λ (s : Script). s.number) scripts))
asks_are_tried sc p t books scripts tries replies rising are = record {
  one = λ n. subst (λ k. k ≤ 1)
      (ap length (sym (answered_once n tries replies are.once))
      ∙ length-filter (is_it n) (answered_of tries replies))
      (few_once (is_some (reply_to n tries replies)) n);
  all = λ n. filter_append (is_it n) (answered_of tries replies) (later_of tries replies (numbers scripts))
      ∙ by_bool (is_some (reply_to n tries replies)) (was n) (was_not n);
}
  where
    keep : ℕ → Bool
    keep n = not (is_some (reply_to n tries replies))

    Goal : ℕ → Type 0
    Goal n =
        filter (is_it n) (answered_of tries replies) ++ filter (is_it n) (filter keep (numbers scripts))
        ≡ filter (is_it n) (numbers scripts)

    parts : (n : ℕ) (b : Bool) → is_some (reply_to n tries replies) ≡ b
        → filter (is_it n) (answered_of tries replies) ++ filter (is_it n) (filter keep (numbers scripts))
        ≡ once_where b n ++ cond (not b) (filter (is_it n) (numbers scripts)) []
    parts n b h =
        let first : filter (is_it n) (answered_of tries replies) ≡ once_where b n =
        answered_once n tries replies are.once ∙ ap (λ c. once_where c n) h in
        let rest : filter (is_it n) (filter keep (numbers scripts))
        ≡ cond (not b) (filter (is_it n) (numbers scripts)) [] =
        filter_kept n keep (numbers scripts) ∙ ap (λ c. cond (not c) (filter (is_it n) (numbers scripts)) []) h in
        λ i. first i ++ rest i

    was : (n : ℕ) → is_some (reply_to n tries replies) ≡ true → Goal n
    was n h =
        let found = is_found t books scripts n tries replies are.each h in
        parts n true h ∙ sym (one_of n found.0 scripts rising found.1)

    was_not : (n : ℕ) → is_some (reply_to n tries replies) ≡ false → Goal n
    was_not n h = parts n false h
