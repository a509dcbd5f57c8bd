-- Lists of what scripts try, each once at most: for the law scripts_try_once.
use Rattle.std.proofs.Common.{◌≡◌, ◌≢◌, ℕ, zero, suc, ◌==◌, ◌<◌, true, false, List, [], ◌∷◌, ◌++◌, map, replicate}
use Rattle.std.proofs.Common.{Option, Some, None, IfSome, refl, sym, ap, ◌∙◌, arith, tests}
use Rattle.std.specs.List.{find}
use Rattle.host_rounds.specs.Lists.{Each}
use Rattle.host_books.specs.Books.{Book}
use Rattle.host_books.specs.Words.{ArePairs}
use Rattle.scenario_runs.specs.Applications.{Script}
use Rattle.script_tries.specs.Names.{AreRising}
use Rattle.script_tries.specs.Tries.{ScriptTry, try_of, IsTriedBy, DifferInAsk, AreTriedBy}
use Rattle.script_tries.proofs.Lists.{found_here, found_later}
use Rattle.script_tries.proofs.Asks.{is_numbered}
use Rattle.script_tries.proofs.Together.{IsTryAs, tries_as}

-- ----- numbers
pub is_its_own : (s : Script) → is_numbered s.number s ≡ true
is_its_own s = grind (arith, tests)

below_not : (n k : ℕ) → n < k → (n == k) ≡ false
below_not n k h = grind (arith, tests, h)

pub below_differs : (n k : ℕ) → n < k → n ≡ k → ⊥
below_differs n k h same = let low : n < k = h in omega (arith, same)

-- each script is found by its number
abbrev pub IsFoundIn : List Script → Script → Type 0
IsFoundIn scripts s = find (is_numbered s.number) scripts ≡ Some s

found_behind : (x : Script) (scripts ss : List Script) → Each (λ (s : Script). x.number < s.number) ss
    → Each (IsFoundIn scripts) ss → Each (IsFoundIn (x ∷ scripts)) ss
found_behind x scripts [] low each = tt
found_behind x scripts (s ∷ ss) low each = (
  found_later (is_numbered s.number) x scripts (below_not x.number s.number low.0) ∙ each.0,
  found_behind x scripts ss low.1 each.1,
)

pub all_found : (scripts : List Script) → AreRising scripts → Each (IsFoundIn scripts) scripts
all_found [] rising = tt
all_found (s ∷ ss) rising = (
  found_here (is_numbered s.number) s ss (is_its_own s),
  found_behind s ss ss rising.0 (all_found ss rising.1),
)

-- ----- what each tries, in their order
module _ (t : ℕ) (books : List Book) where
  one_tried : (scripts : List Script) (s : Script) → IsFoundIn scripts s
      → IfSome (try_of t books s) (IsTriedBy t books scripts)
  one_tried scripts s found = by_try (try_of t books s) refl where
    by_try : (o : Option ScriptTry) → try_of t books s ≡ o → IfSome o (IsTriedBy t books scripts)
    by_try None is = tt
    by_try (Some x) is =
        let as_ : IsTryAs t books s x = tries_as t books s x is in
        let ask : x.ask ≡ s.number = ap (λ (y : ScriptTry). y.ask) as_.is in
        record { script = s; found = ap (λ k. find (is_numbered k) scripts) ask ∙ found; tries = is }

  each_tried : (scripts ss : List Script) → Each (IsFoundIn scripts) ss
      → Each (λ (o : Option ScriptTry). IfSome o (IsTriedBy t books scripts)) (map (try_of t books) ss)
  each_tried scripts [] found = tt
  each_tried scripts (s ∷ ss) found = (one_tried scripts s found.0, each_tried scripts ss found.1)

  two_differ : (x y : Script) → x.number < y.number → DifferInAsk (try_of t books x) (try_of t books y)
  two_differ x y low = by_first (try_of t books x) refl where
    by_second : (a : ScriptTry) → a.ask ≡ x.number → (o : Option ScriptTry) → try_of t books y ≡ o
        → IfSome o (λ (b : ScriptTry). a.ask ≢ b.ask)
    by_second a ask None is = tt
    by_second a ask (Some b) is =
        let as_ : IsTryAs t books y b = tries_as t books y b is in
        let other : b.ask ≡ y.number = ap (λ (z : ScriptTry). z.ask) as_.is in
        λ same. below_differs x.number y.number low (sym ask ∙ (same ∙ other))

    by_first : (o : Option ScriptTry) → try_of t books x ≡ o → DifferInAsk o (try_of t books y)
    by_first None is = tt
    by_first (Some a) is =
        let as_ : IsTryAs t books x a = tries_as t books x a is in
        by_second a (ap (λ (z : ScriptTry). z.ask) as_.is) (try_of t books y) refl

  one_differs : (x : Script) (ss : List Script) → Each (λ (s : Script). x.number < s.number) ss
      → Each (DifferInAsk (try_of t books x)) (map (try_of t books) ss)
  one_differs x [] low = tt
  one_differs x (s ∷ ss) low = (two_differ x s low.0, one_differs x ss low.1)

  all_differ : (ss : List Script) → AreRising ss → ArePairs DifferInAsk (map (try_of t books) ss)
  all_differ [] rising = tt
  all_differ (s ∷ ss) rising = (one_differs s ss rising.0, all_differ ss rising.1)

  pub tried_in_order : (scripts : List Script) → AreRising scripts
      → AreTriedBy t books scripts (map (try_of t books) scripts)
  tried_in_order scripts rising = record {
    each = each_tried scripts scripts (all_found scripts rising);
    once = all_differ scripts rising;
  }

-- ----- nothing in front, and others left out
nothing_differs : (os : List (Option ScriptTry)) → Each (DifferInAsk None) os
nothing_differs [] = tt
nothing_differs (o ∷ os) = (tt, nothing_differs os)

differs_none : (o : Option ScriptTry) → DifferInAsk o None
differs_none None = tt
differs_none (Some x) = tt

module _ (t : ℕ) (books : List Book) (scripts : List Script) where
  abbrev Tried : Option ScriptTry → Type 0
  Tried o = IfSome o (IsTriedBy t books scripts)

  pub nothing_in_front : (n : ℕ) (tries : List (Option ScriptTry)) → AreTriedBy t books scripts tries
      → AreTriedBy t books scripts (replicate n None ++ tries)
  nothing_in_front zero tries are = are
  nothing_in_front (suc n) tries are =
      let rest : AreTriedBy t books scripts (replicate n None ++ tries) = nothing_in_front n tries are in
      record { each = (tt, rest.each); once = (nothing_differs (replicate n None ++ tries), rest.once) }

  -- without the one in the middle
  each_without : {X : Type 0} (P : X → Type 0) (xs ys : List X) (x : X) → Each P (xs ++ x ∷ ys) → Each P (xs ++ ys)
  each_without P [] ys x each = each.1
  each_without P (z ∷ zs) ys x each = (each.0, each_without P zs ys x each.1)

  pairs_without : {X : Type 0} (R : X → X → Type 0) (xs ys : List X) (x : X) → ArePairs R (xs ++ x ∷ ys)
      → ArePairs R (xs ++ ys)
  pairs_without R [] ys x pairs = pairs.1
  pairs_without R (z ∷ zs) ys x pairs = (each_without (R z) zs ys x pairs.0, pairs_without R zs ys x pairs.1)

  pub one_left_out : (tries more : List (Option ScriptTry)) (o : Option ScriptTry)
      → AreTriedBy t books scripts (tries ++ o ∷ more) → AreTriedBy t books scripts (tries ++ more)
  one_left_out tries more o are = record {
    each = each_without Tried tries more o are.each;
    once = pairs_without DifferInAsk tries more o are.once;
  }

  -- with another in its place
  each_with : {X : Type 0} (P : X → Type 0) (xs ys : List X) (x y : X) → P y → Each P (xs ++ x ∷ ys)
      → Each P (xs ++ y ∷ ys)
  each_with P [] ys x y holds each = (holds, each.1)
  each_with P (z ∷ zs) ys x y holds each = (each.0, each_with P zs ys x y holds each.1)

  pairs_nothing : (xs ys : List (Option ScriptTry)) (o : Option ScriptTry) → ArePairs DifferInAsk (xs ++ o ∷ ys)
      → ArePairs DifferInAsk (xs ++ None ∷ ys)
  pairs_nothing [] ys o pairs = (nothing_differs ys, pairs.1)
  pairs_nothing (x ∷ xs) ys o pairs =
      (each_with (DifferInAsk x) xs ys o None (differs_none x) pairs.0, pairs_nothing xs ys o pairs.1)

  pub one_nothing : (tries more : List (Option ScriptTry)) (o : Option ScriptTry)
      → AreTriedBy t books scripts (tries ++ o ∷ more) → AreTriedBy t books scripts (tries ++ None ∷ more)
  one_nothing tries more o are = record {
    each = each_with Tried tries more o None tt are.each;
    once = pairs_nothing tries more o are.once;
  }
