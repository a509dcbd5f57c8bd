-- What lanes try by the scripts of their applications: each script's own call, once at most.
use Rattle.std.proofs.Common.{◌≡◌, ℕ, ◌+◌, ◌≤◌, ◌==◌, Bool, true, false, List, [], ◌∷◌, map, count_by}
use Rattle.std.proofs.Common.{refl, sym, ap, subst, ◌∙◌, arith, true≢false, cond}
use Rattle.std.specs.Prelude.{Option, Some, None, IfSome, ⊤}
use Rattle.std.specs.List.{find}
use Rattle.core_phase.specs.declared.lane.AppLane.{AppLane}
use Rattle.core_phase.specs.declared.lane.Lane.{Lane}
use Rattle.core_phase.specs.declared.lane.Lane.TheVariants as lanes
use Rattle.core_rounds.proofs.Filters.{tally, count_cons}
use Rattle.host_books.specs.Books.{Book}
use Rattle.host_books.specs.Words.{ArePairs}
use Rattle.host_rounds.specs.Lists.{Each}
use Rattle.libtas_sockets.specs.Apps.{Application}
use Rattle.scenario_runs.specs.Applications.{Script}
use Rattle.scenario_host.specs.Sound as rising
use Rattle.script_tries.specs.Names.{AreRising, AreOfDifferentFlows}
use Rattle.script_tries.specs.Tries.{ScriptTry, try_of, IsTriedBy, DifferInAsk, AreTriedBy}
use Rattle.script_tries.proofs.Together.{IsTryAs, tries_as}
use Rattle.sound_hosts.proofs.Leaving.{AreApart}
use Rattle.sound_phases.specs.Phased.{apps_in}
use Rattle.shared_scripts.specs.Begun.{has_number, try_in, lane_try}
use Rattle.shared_scripts.proofs.Rising.{same_number, is_number}

-- ----- one lane
-- the script of the lane's application, which tries this
pub record IsLaneTry (t : ℕ) (books : List Book) (scripts : List Script) (n : ℕ) (x : ScriptTry) : Type 0 where
  pub script : Script
  pub found : find (has_number n) scripts ≡ Some script
  pub tries : try_of t books script ≡ Some x
  pub number : script.number ≡ n
  pub ask : x.ask ≡ n
  pub app : x.app ≡ n

found_number : (k : ℕ) (bs : List Script) (x : Script) → find (has_number k) bs ≡ Some x → x.number ≡ k
found_number k [] x h = absurd (cc (h))
found_number k (b ∷ bs) x h = by_test (b.number == k) refl h (found_number k bs x) where
  by_test : (c : Bool) → (b.number == k) ≡ c
      → cond c (Some b) (find (has_number k) bs) ≡ Some x
      → (find (has_number k) bs ≡ Some x → x.number ≡ k) → x.number ≡ k
  by_test true e h rest =
      let same : b ≡ x = cc (h) in subst (λ (y : Script). y.number ≡ k) same (is_number b.number k e)
  by_test false e h rest = rest h

pub lane_inverse : (t : ℕ) (books : List Book) (scripts : List Script) (n : ℕ) (x : ScriptTry)
    → try_in t books (find (has_number n) scripts) ≡ Some x → IsLaneTry t books scripts n x
lane_inverse t books scripts n x e = by (find (has_number n) scripts) refl e where
  by : (o : Option Script) → find (has_number n) scripts ≡ o → try_in t books o ≡ Some x
      → IsLaneTry t books scripts n x
  by None found e = absurd (cc (e))
  by (Some s) found e =
      let number : s.number ≡ n = found_number n scripts s found in
      let at : IsTryAs t books s x = tries_as t books s x e in
      record {
        script = s;
        found = found;
        tries = e;
        number = number;
        ask = ap (λ (y : ScriptTry). y.ask) at.is ∙ number;
        app = ap (λ (y : ScriptTry). y.app) at.is ∙ number;
      }

-- ----- numbers of lanes
-- the lane is not of this application
abbrev pub IsOther : (app : ℕ) → Lane → Type 0
IsOther n (lanes.Core l) = ⊤
IsOther n (lanes.App l) = (l.app.number == n) ≡ false

abbrev pub AreOnce : List Lane → Type 0
AreOnce ls = (n : ℕ) → count_by (λ (a : Application). a.number == n) (apps_in ls) ≤ 1

none_counted : (n : ℕ) (ls : List Lane) → count_by (λ (a : Application). a.number == n) (apps_in ls) ≡ 0
    → Each (IsOther n) ls
none_counted n [] none = tt
none_counted n (lanes.Core l ∷ ls) none = (tt, none_counted n ls none)
none_counted n (lanes.App l ∷ ls) none =
    let c = count_cons (λ (a : Application). a.number == n) l.app (apps_in ls) in
    (not_it (l.app.number == n) (omega (arith, c, none)), none_counted n ls (omega (arith, c, none)))
  where
    not_it : (b : Bool) → tally b ≡ 0 → b ≡ false
    not_it true h = absurd (omega (arith, h))
    not_it false h = refl

pub once_later : (l : Lane) (ls : List Lane) → AreOnce (l ∷ ls) → AreOnce ls
once_later (lanes.Core l) ls once = once
once_later (lanes.App l) ls once =
    λ n. less n (count_cons (λ (a : Application). a.number == n) l.app (apps_in ls)) (once n)
  where
    less : (n : ℕ)
        → count_by (λ (a : Application). a.number == n) (l.app ∷ apps_in ls)
        ≡ tally (l.app.number == n) + count_by (λ (a : Application). a.number == n) (apps_in ls)
        → count_by (λ (a : Application). a.number == n) (l.app ∷ apps_in ls) ≤ 1
        → count_by (λ (a : Application). a.number == n) (apps_in ls) ≤ 1
    less n c few = omega (arith, c, few)

pub once_first : (l : AppLane) (ls : List Lane) → AreOnce (lanes.App l ∷ ls) → Each (IsOther l.app.number) ls
once_first l ls once =
    let n : ℕ = l.app.number in
    let c = count_cons (λ (a : Application). a.number == n) l.app (apps_in ls) in
    let it : tally (l.app.number == n) ≡ 1 = ap tally (same_number l.app.number n refl) in
    let few = once n in
    none_counted n ls (omega (arith, c, it, few))

-- ----- all lanes
module _ (t : ℕ) (books : List Book) (scripts : List Script) where
  abbrev tries : List Lane → List (Option ScriptTry)
  tries ls = map (lane_try t books scripts) ls

  each_tried : (ls : List Lane) → Each (λ (o : Option ScriptTry). IfSome o (IsTriedBy t books scripts)) (tries ls)
  each_tried [] = tt
  each_tried (lanes.Core l ∷ ls) = (tt, each_tried ls)
  each_tried (lanes.App l ∷ ls) = (
    by (try_in t books (find (has_number l.app.number) scripts)) refl,
    each_tried ls,
  )
    where
      by : (o : Option ScriptTry) → try_in t books (find (has_number l.app.number) scripts) ≡ o
          → IfSome o (IsTriedBy t books scripts)
      by None e = tt
      by (Some x) e =
          let lane = lane_inverse t books scripts l.app.number x e in
          record {
            script = lane.script;
            found = ap (λ (n : ℕ). find (has_number n) scripts) lane.ask ∙ lane.found;
            tries = lane.tries;
          }

  differ_later : (n : ℕ) (x : ScriptTry) → x.ask ≡ n → (ls : List Lane) → Each (IsOther n) ls
      → Each (DifferInAsk (Some x)) (tries ls)
  differ_later n x ask [] others = tt
  differ_later n x ask (lanes.Core l ∷ ls) others = (tt, differ_later n x ask ls others.1)
  differ_later n x ask (lanes.App l ∷ ls) others = (
    by (try_in t books (find (has_number l.app.number) scripts)) refl,
    differ_later n x ask ls others.1,
  )
    where
      by : (o : Option ScriptTry) → try_in t books (find (has_number l.app.number) scripts) ≡ o
          → DifferInAsk (Some x) o
      by None e = tt
      by (Some y) e = λ same.
          let lane = lane_inverse t books scripts l.app.number y e in
          let is : l.app.number ≡ n = sym lane.ask ∙ (sym same ∙ ask) in
          absurd (true≢false (sym (same_number l.app.number n is) ∙ others.0))

  none_differs : (os : List (Option ScriptTry)) → Each (DifferInAsk None) os
  none_differs [] = tt
  none_differs (o ∷ os) = (tt, none_differs os)

  all_differ : (ls : List Lane) → AreOnce ls → ArePairs DifferInAsk (tries ls)
  all_differ [] once = tt
  all_differ (lanes.Core l ∷ ls) once = (none_differs (tries ls), all_differ ls (once_later (lanes.Core l) ls once))
  all_differ (lanes.App l ∷ ls) once = (
    by (try_in t books (find (has_number l.app.number) scripts)) refl,
    all_differ ls (once_later (lanes.App l) ls once),
  )
    where
      by : (o : Option ScriptTry) → try_in t books (find (has_number l.app.number) scripts) ≡ o
          → Each (DifferInAsk o) (tries ls)
      by None e = none_differs (tries ls)
      by (Some x) e =
          differ_later l.app.number x (lane_inverse t books scripts l.app.number x e).ask ls (once_first l ls once)

  pub lanes_tried : (ls : List Lane) → AreOnce ls → AreTriedBy t books scripts (tries ls)
  lanes_tried ls once = record { each = each_tried ls; once = all_differ ls once }

-- ----- the same said otherwise
pub rising_pairs : (scripts : List Script) → rising.AreRising scripts → AreRising scripts
rising_pairs [] up = tt
rising_pairs (x ∷ xs) up = (up.0, rising_pairs xs up.1)

pub flows_apart : (books : List Book) → AreApart books → AreOfDifferentFlows books
flows_apart [] apart = tt
flows_apart (b ∷ bs) apart = (apart.0, flows_apart bs apart.1)
