-- How scripts go on by the replies to what they tried: for the law tried_scripts_go_on.
use Rattle.std.proofs.Common.{◌≡◌, ℕ, zero, suc, ◌==◌, ◌<◌, Bool, true, false, List, [], ◌∷◌, map, Option}
use Rattle.std.proofs.Common.{Some, None, IfSome, slice_get, refl, sym, ap, ◌∙◌, subst, arith, tests}
use Rattle.std.specs.List.{find}
use Rattle.tas_model.specs.declared.entry.Reply.{Reply}
use Rattle.host_rounds.specs.Lists.{Each, change_first}
use Rattle.host_books.specs.Books.{Book}
use Rattle.host_books.specs.Leavings.{scripts_after}
use Rattle.host_books.specs.Words.{ArePairs}
use Rattle.scenario_text.specs.declared.scenario.Step.{Step}
use Rattle.scenario_runs.specs.Applications.{Script}
use Rattle.script_tries.specs.Names.{AreRising}
use Rattle.script_tries.specs.Replies.{leavings_of, is_of, reply_to, gone_on}
use Rattle.script_tries.specs.Steps.{by_reply, first_by_reply, goes_by}
use Rattle.script_tries.specs.Tries.{ScriptTry, IsTriedBy, DifferInAsk, AreTriedBy}
use Rattle.script_tries.proofs.Lists.{by_bool, first_here, first_later, found_here, found_later, find_other, each_at}
use Rattle.script_tries.proofs.Turns.{same_place, two_places}
use Rattle.script_tries.proofs.Asks.{is_numbered, keeps_number, two_scripts}
use Rattle.script_tries.proofs.Together.{IsTryAs, tries_as, IsUnderWay, under_way_as}
use Rattle.script_tries.proofs.Once.{below_differs}

-- ----- the reply to one
self_same : (n : ℕ) → (n == n) ≡ true
self_same n = grind (arith, tests)

pub not_same : (n k : ℕ) → (n ≡ k → ⊥) → (n == k) ≡ false
not_same n k differ = by_bool (n == k) (λ h. absurd (differ (same_place n k h))) (λ h. h)

pub reply_here : (x : ScriptTry) (os : List (Option ScriptTry)) (r : Option Reply) (rs : List (Option Reply))
    → reply_to x.ask (Some x ∷ os) (r ∷ rs) ≡ r
reply_here x os r rs =
    ap (λ (b : Bool). elim b [ true ↦ r | false ↦ reply_to x.ask os rs ]) (self_same x.ask)

pub reply_later : (n : ℕ) (o : Option ScriptTry) (os : List (Option ScriptTry)) (r : Option Reply)
    (rs : List (Option Reply)) → is_of n o ≡ false → reply_to n (o ∷ os) (r ∷ rs) ≡ reply_to n os rs
reply_later n o os r rs h = ap (λ (b : Bool). elim b [ true ↦ r | false ↦ reply_to n os rs ]) h

not_of : (x : ScriptTry) (o : Option ScriptTry) → DifferInAsk (Some x) o → is_of x.ask o ≡ false
not_of x None differ = refl
not_of x (Some y) differ = not_same y.ask x.ask (λ h. differ (sym h))

of_other : (x : ScriptTry) (o : Option ScriptTry) → DifferInAsk o (Some x) → is_of x.ask o ≡ false
of_other x None differ = refl
of_other x (Some y) differ = not_same y.ask x.ask differ

-- none of the others is the script's
pub reply_none : (x : ScriptTry) (os : List (Option ScriptTry)) (rs : List (Option Reply))
    → Each (DifferInAsk (Some x)) os → reply_to x.ask os rs ≡ None
reply_none x [] rs differ = refl
reply_none x (o ∷ os) [] differ = refl
reply_none x (o ∷ os) (r ∷ rs) differ =
    reply_later x.ask o os r rs (not_of x o differ.0) ∙ reply_none x os rs differ.1

pub reply_at : (tries : List (Option ScriptTry)) (replies : List (Option Reply)) (k : ℕ) (x : ScriptTry)
    (r : Option Reply) → ArePairs DifferInAsk tries → slice_get tries k ≡ Some (Some x)
    → slice_get replies k ≡ Some r → reply_to x.ask tries replies ≡ r
reply_at [] replies k x r once at reply = absurd (cc (at))
reply_at (o ∷ os) [] k x r once at reply = absurd (cc (reply))
reply_at (o ∷ os) (q ∷ rs) zero x r once at reply =
    let same : o ≡ Some x = cc (at) in
    let replies : q ≡ r = cc (reply) in
    ap (λ p. reply_to x.ask (p ∷ os) (q ∷ rs)) same ∙ (reply_here x os q rs ∙ replies)
reply_at (o ∷ os) (q ∷ rs) (suc k) x r once at reply =
    reply_later x.ask o os q rs (of_other x o (each_at (DifferInAsk o) os k (Some x) once.0 at))
    ∙ reply_at os rs k x r once.1 at reply

-- ----- the scripts then
-- the others' tries are those of their scripts still when one went on
module _ (t : ℕ) (books : List Book) (n : ℕ) (step : Step) (r : Reply) where
  later_one : (scripts : List Script) (y : ScriptTry) → (n ≡ y.ask → ⊥) → IsTriedBy t books scripts y
      → IsTriedBy t books (change_first (is_numbered n) (by_reply step r) scripts) y
  later_one scripts y differ by = record {
    script = by.script;
    found =
        find_other (is_numbered n) (is_numbered y.ask) (by_reply step r) scripts (two_scripts n y.ask step r differ)
        ∙ by.found;
    tries = by.tries;
  }

  later_each : (scripts : List Script) (x : ScriptTry) (os : List (Option ScriptTry)) → x.ask ≡ n
      → Each (DifferInAsk (Some x)) os
      → Each (λ (o : Option ScriptTry). IfSome o (IsTriedBy t books scripts)) os
      → Each (λ (o : Option ScriptTry). IfSome o
      (IsTriedBy t books (change_first (is_numbered n) (by_reply step r) scripts))) os
  later_each scripts x [] ask differ each = tt
  later_each scripts x (None ∷ os) ask differ each = (tt, later_each scripts x os ask differ.1 each.1)
  later_each scripts x (Some y ∷ os) ask differ each = (
    later_one scripts y (λ h. differ.0 (ask ∙ h)) each.0,
    later_each scripts x os ask differ.1 each.1,
  )

  pub tried_later : (scripts : List Script) (x : ScriptTry) (os : List (Option ScriptTry)) → x.ask ≡ n
      → AreTriedBy t books scripts (Some x ∷ os)
      → AreTriedBy t books (change_first (is_numbered n) (by_reply step r) scripts) os
  tried_later scripts x os ask are = record {
    each = later_each scripts x os ask are.once.0 are.each.1;
    once = are.once.1;
  }

  -- and all are numbered upward still
  low_still : (k : ℕ) (scripts : List Script) → Each (λ (s : Script). k < s.number) scripts
      → Each (λ (s : Script). k < s.number) (change_first (is_numbered n) (by_reply step r) scripts)
  low_still k [] low = tt
  low_still k (s ∷ ss) low = by_test (is_numbered n s) (low_still k ss low.1) where
    by_test : (b : Bool)
        → Each (λ (s : Script). k < s.number) (change_first (is_numbered n) (by_reply step r) ss)
        → Each (λ (s : Script). k < s.number) (elim b [
          | true ↦ by_reply step r s ∷ ss
          | false ↦ s ∷ change_first (is_numbered n) (by_reply step r) ss
        ])
    by_test true rest = (subst (λ j. k < j) (sym (keeps_number step r s)) low.0, low.1)
    by_test false rest = (low.0, rest)

  pub rising_still : (scripts : List Script) → AreRising scripts
      → AreRising (change_first (is_numbered n) (by_reply step r) scripts)
  rising_still [] rising = tt
  rising_still (s ∷ ss) rising = by_test (is_numbered n s) (rising_still ss rising.1) where
    by_test : (b : Bool) → AreRising (change_first (is_numbered n) (by_reply step r) ss)
        → AreRising (elim b [
          | true ↦ by_reply step r s ∷ ss
          | false ↦ s ∷ change_first (is_numbered n) (by_reply step r) ss
        ])
    by_test true rest = (
      subst (λ j. Each (λ (later : Script). j < later.number) ss) (sym (keeps_number step r s)) rising.0,
      rising.1,
    )
    by_test false rest = (low_still s.number ss rising.0, rest)

-- ----- two functions of scripts that agree but for one
map_behind : (g h : Script → Script) (n : ℕ) (ss : List Script) → ((s : Script) → (s.number ≡ n → ⊥) → g s ≡ h s)
    → Each (λ (s : Script). n < s.number) ss → map g ss ≡ map h ss
map_behind g h n [] same low = refl
map_behind g h n (s ∷ ss) same low =
    λ i. same s (λ is. below_differs n s.number low.0 (sym is)) i ∷ map_behind g h n ss same low.1 i

-- the one that its number finds went on before, and all others are alike
map_first : (g h f : Script → Script) (n : ℕ) (x : Script) (scripts : List Script) → AreRising scripts
    → find (is_numbered n) scripts ≡ Some x → ((s : Script) → (s.number ≡ n → ⊥) → g s ≡ h s) → g (f x) ≡ h x
    → map g (change_first (is_numbered n) f scripts) ≡ map h scripts
map_first g h f n x [] rising found same one = absurd (cc (found))
map_first g h f n x (s ∷ ss) rising found same one =
    by_bool (is_numbered n s) here (λ k. later k (map_first g h f n x ss rising.1
    (sym (found_later (is_numbered n) s ss k) ∙ found) same one))
  where
    here : is_numbered n s ≡ true → map g (change_first (is_numbered n) f (s ∷ ss)) ≡ map h (s ∷ ss)
    here k =
        let both : Some s ≡ Some x = sym (found_here (is_numbered n) s ss k) ∙ found in
        let is : s ≡ x = cc (both) in
        let number : s.number ≡ n = same_place s.number n k in
        let first : g (f s) ≡ h s = ap (λ (y : Script). g (f y)) is ∙ (one ∙ ap h (sym is)) in
        let rest : map g ss ≡ map h ss =
        map_behind g h n ss same (subst (λ j. Each (λ (y : Script). j < y.number) ss) number rising.0) in
        ap (map g) (first_here (is_numbered n) f s ss k) ∙ (λ i. first i ∷ rest i)

    later : is_numbered n s ≡ false → map g (change_first (is_numbered n) f ss) ≡ map h ss
        → map g (change_first (is_numbered n) f (s ∷ ss)) ≡ map h (s ∷ ss)
    later k rest =
        ap (map g) (first_later (is_numbered n) f s ss k) ∙ (λ i. same s (two_places s.number n k) i ∷ rest i)

map_same : (g h : Script → Script) (scripts : List Script) → ((s : Script) → g s ≡ h s) → map g scripts ≡ map h scripts
map_same g h [] same = refl
map_same g h (s ∷ ss) same = λ i. same s i ∷ map_same g h ss same i

-- ----- all that were answered
abbrev goes_with : List (Option ScriptTry) → List (Option Reply) → Script → Script
goes_with tries replies s = goes_by (reply_to s.number tries replies) s

-- it was tried, but not answered
unanswered : (x : ScriptTry) (os : List (Option ScriptTry)) (rs : List (Option Reply)) (s : Script)
    → Each (DifferInAsk (Some x)) os → goes_with os rs s ≡ goes_with (Some x ∷ os) (None ∷ rs) s
unanswered x os rs s differ = ap (λ o. goes_by o s) (by_bool (x.ask == s.number) here later) where
  here : (x.ask == s.number) ≡ true → reply_to s.number os rs ≡ reply_to s.number (Some x ∷ os) (None ∷ rs)
  here h =
      ap (λ k. reply_to k os rs) (sym (same_place x.ask s.number h))
      ∙ (reply_none x os rs differ
      ∙ (sym (reply_here x os None rs)
      ∙ ap (λ k. reply_to k (Some x ∷ os) (None ∷ rs)) (same_place x.ask s.number h)))

  later : (x.ask == s.number) ≡ false → reply_to s.number os rs ≡ reply_to s.number (Some x ∷ os) (None ∷ rs)
  later h = sym (reply_later s.number (Some x) os None rs h)

no_answers : (tries : List (Option ScriptTry)) (scripts : List Script) → scripts ≡ gone_on tries [] scripts
no_answers tries [] = refl
no_answers [] (s ∷ ss) = ap (λ (xs : List Script). s ∷ xs) (no_answers [] ss)
no_answers (o ∷ os) (s ∷ ss) = ap (λ (xs : List Script). s ∷ xs) (no_answers (o ∷ os) ss)

module _ (t : ℕ) (books : List Book) where
  -- what one that was answered makes of all
  answered : (x : ScriptTry) (os : List (Option ScriptTry)) (r : Reply) (rs : List (Option Reply))
      (scripts : List Script) → AreRising scripts → (by : IsTriedBy t books scripts x)
      → Each (DifferInAsk (Some x)) os
      → map (goes_with os rs) (x.next r scripts) ≡ gone_on (Some x ∷ os) (Some r ∷ rs) scripts
  answered x os r rs scripts rising by differ =
      ap (λ (y : ScriptTry). map (goes_with os rs) (y.next r scripts)) tries.is
      ∙ map_first (goes_with os rs) (goes_with (Some x ∷ os) (Some r ∷ rs)) (by_reply tries.step r) by.script.number
      by.script scripts rising (ap (λ k. find (is_numbered k) scripts) (sym ask) ∙ by.found) others one
    where
      tries : IsTryAs t books by.script x
      tries = tries_as t books by.script x by.tries

      ask : x.ask ≡ by.script.number
      ask = ap (λ (y : ScriptTry). y.ask) tries.is

      others : (s : Script) → (s.number ≡ by.script.number → ⊥)
          → goes_with os rs s ≡ goes_with (Some x ∷ os) (Some r ∷ rs) s
      others s other =
          ap (λ o. goes_by o s) (sym (reply_later s.number (Some x) os (Some r) rs
          (not_same x.ask s.number (λ h. other (sym h ∙ ask)))))

      next : Script
      next = by_reply tries.step r by.script

      way : IsUnderWay t by.script tries.step
      way = under_way_as t by.script tries.step tries.under_way

      number : next.number ≡ x.ask
      number = keeps_number tries.step r by.script ∙ sym ask

      stays : goes_with os rs next ≡ next
      stays = ap (λ o. goes_by o next) (ap (λ k. reply_to k os rs) number ∙ reply_none x os rs differ)

      goes : goes_with (Some x ∷ os) (Some r ∷ rs) by.script ≡ next
      goes =
          ap (λ o. goes_by o by.script)
          (ap (λ k. reply_to k (Some x ∷ os) (Some r ∷ rs)) (sym ask) ∙ reply_here x os (Some r) rs)
          ∙ ap (λ left. first_by_reply left r by.script) way.left

      one : goes_with os rs next ≡ goes_with (Some x ∷ os) (Some r ∷ rs) by.script
      one = stays ∙ sym goes

  pub all_go_on : (tries : List (Option ScriptTry)) (replies : List (Option Reply)) (scripts : List Script)
      → AreRising scripts → AreTriedBy t books scripts tries
      → scripts_after (leavings_of tries replies) scripts ≡ gone_on tries replies scripts
  all_go_on [] replies scripts rising are = no_tries scripts
    where
      no_tries : (ss : List Script) → ss ≡ map (goes_with [] replies) ss
      no_tries [] = refl
      no_tries (s ∷ ss) = ap (λ (xs : List Script). s ∷ xs) (no_tries ss)
  all_go_on (o ∷ os) [] scripts rising are = no_answers (o ∷ os) scripts
  all_go_on (None ∷ os) (r ∷ rs) scripts rising are =
      all_go_on os rs scripts rising (record { each = are.each.1; once = are.once.1 })
  all_go_on (Some x ∷ os) (None ∷ rs) scripts rising are =
      all_go_on os rs scripts rising (record { each = are.each.1; once = are.once.1 })
      ∙ map_same (goes_with os rs) (goes_with (Some x ∷ os) (None ∷ rs)) scripts
      (λ s. unanswered x os rs s are.once.0)
  all_go_on (Some x ∷ os) (Some r ∷ rs) scripts rising are =
      all_go_on os rs (x.next r scripts)
      (subst AreRising (sym goes) (rising_still t books by.script.number tries.step r scripts rising))
      (subst (λ (xs : List Script). AreTriedBy t books xs os) (sym goes)
      (tried_later t books by.script.number tries.step r scripts x os (ap (λ (y : ScriptTry). y.ask) tries.is) are))
      ∙ answered x os r rs scripts rising are.each.0 are.once.0
    where
      by : IsTriedBy t books scripts x
      by = are.each.0

      tries : IsTryAs t books by.script x
      tries = tries_as t books by.script x by.tries

      goes : x.next r scripts ≡ change_first (is_numbered by.script.number) (by_reply tries.step r) scripts
      goes = ap (λ (y : ScriptTry). y.next r scripts) tries.is
