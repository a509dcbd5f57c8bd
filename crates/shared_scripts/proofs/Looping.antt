-- Loops over scripts: what the first have left, and one script more. For the answers for `try_all` and `take_answers`.
use Rattle.std.proofs.Common.{◌≡◌, ◌<◌, ◌≤◌, ◌+◌, ◌==◌, ℕ, zero, suc, List, [], ◌∷◌, ◌++◌, take, drop, map, count_by}
use Rattle.std.proofs.Common.{Some, refl, sym, ap, subst, ◌∙◌, arith, slice_get}
use Rattle.std.specs.Prelude.{Option, Result, Ok, Err, IfOk}
use Rattle.core_phase.specs.declared.lane.Lane.{Lane}
use Rattle.flow_state.specs.declared.call.Answer.{Answer}
use Rattle.libtas_sockets.specs.Apps as libtas
use Rattle.host_rounds.specs.Lists.{Each}
use Rattle.scenario_host.specs.Sound.{AreRising}
use Rattle.scenario_runs.specs.Applications.{Script, has_ended}
use Rattle.script_tries.proofs.Lists.{each_at}
use Rattle.core_host.specs.Sound.{IsStaffSound}
use Rattle.core_host.specs.Views.{Staffed}
use Rattle.shared_scripts.specs.Answers.{answer_for, answer_unless, answer_to, IsAnswered}
use Rattle.shared_scripts.proofs.LaneTries.{AreOnce}
use Rattle.shared_scripts.proofs.Rising.{IsBelow}

-- ----- results
pub if_ok_made : {T E : Type 0} {P Q : T → Type 0} (r : Result T E) → ((x : T) → P x → Q x) → IfOk r P → IfOk r Q
if_ok_made (Ok x) f p = f x p
if_ok_made (Err e) f p = tt

-- ----- hosts
pub once_in : (h : Staffed) → IsStaffSound h → AreOnce h.lanes
once_in h sound =
    λ n. subst (λ xs. count_by (λ (a : libtas.Application). a.number == n) xs ≤ 1) sound.apps (sound.host.numbers n)

-- ----- lists
pub each_all : {X : Type 0} (P : X → Type 0) → ((x : X) → P x) → (xs : List X) → Each P xs
each_all P all [] = tt
each_all P all (x ∷ xs) = (all x, each_all P all xs)

next_taken : {X : Type 0} (xs : List X) (i : ℕ) (x : X) → slice_get xs i ≡ Some x
    → take (suc i) xs ≡ take i xs ++ x ∷ []
next_taken [] i x at = absurd (cc (at))
next_taken {X} (y ∷ ys) zero x at = let same : y ≡ x = cc (at) in ap (λ (z : X). z ∷ []) same
next_taken {X} (y ∷ ys) (suc i) x at = ap (λ (l : List X). y ∷ l) (next_taken ys i x at)

pub one_more : {X : Type 0} (xs : List X) (i : ℕ) (x : X) → slice_get xs i ≡ Some x
    → take (i + 1) xs ≡ take i xs ++ x ∷ []
one_more xs i x at =
    let more : i + 1 ≡ suc i = omega arith in ap (λ (m : ℕ). take m xs) more ∙ next_taken xs i x at

-- what holds of those that are left
each_left : {X : Type 0} (P : X → Type 0) (xs : List X) (i : ℕ) (x : X) → slice_get xs i ≡ Some x → Each P (drop i xs)
    → P x × Each P (drop (suc i) xs)
each_left P [] i x at each = absurd (cc (at))
each_left P (y ∷ ys) zero x at each = let same : y ≡ x = cc (at) in (subst P same each.0, each.1)
each_left P (y ∷ ys) (suc i) x at each = each_left P ys i x at each

mapped_more : {X Y : Type 0} (f : X → Y) (xs : List X) (x : X) → map f (xs ++ x ∷ []) ≡ map f xs ++ f x ∷ []
mapped_more f [] x = refl
mapped_more {X} {Y} f (y ∷ xs) x = ap (λ (l : List Y). f y ∷ l) (mapped_more f xs x)

-- ----- scripts, in the order of their numbers
pub below_it : (xs : List Script) (i : ℕ) (x : Script) → AreRising xs → slice_get xs i ≡ Some x
    → Each (λ (z : Script). z.number < x.number) (take i xs)
below_it [] i x rising at = absurd (cc (at))
below_it (y ∷ ys) zero x rising at = tt
below_it (y ∷ ys) (suc i) x rising at =
    (each_at (IsBelow y.number) ys i x rising.0 at, below_it ys i x rising.1 at)

later_above : (xs : List Script) (i : ℕ) (x : Script) → AreRising xs → slice_get xs i ≡ Some x
    → Each (IsBelow x.number) (drop (suc i) xs)
later_above [] i x rising at = absurd (cc (at))
later_above (y ∷ ys) zero x rising at =
    let same : y ≡ x = cc (at) in subst (λ (z : Script). Each (IsBelow z.number) ys) same rising.0
later_above (y ∷ ys) (suc i) x rising at = later_above ys i x rising.1 at

-- ----- answers
-- their answers stand in these lanes as they did in the first
abbrev pub StandAs : (start lanes : List Lane) → List Script → Type 0
StandAs start lanes xs = Each (λ (x : Script). answer_for x.number lanes ≡ answer_for x.number start) xs

still_stand : (start ls ms : List Lane) (x : Script) (xs : List Script)
    → ((n : ℕ) → (n ≡ x.number → ⊥) → answer_for n ms ≡ answer_for n ls) → Each (IsBelow x.number) xs
    → StandAs start ls xs → StandAs start ms xs
still_stand start ls ms x [] others above stand = tt
still_stand start ls ms x (y ∷ ys) others above stand = (
  others y.number (λ same. absurd (omega (arith, same, above.0))) ∙ stand.0,
  still_stand start ls ms x ys others above.1 stand.1,
)

module _ (start : List Lane) (before after : Staffed) (xs : List Script) (i : ℕ) (x : Script) (answer : Option Answer)
    (at : slice_get xs i ≡ Some x) (is : IsAnswered x answer before after)
    (stand : StandAs start before.lanes (drop i xs)) where
  pub answered_more : (got more : List (Option Answer)) → more ≡ got ++ answer ∷ []
      → got ≡ map (answer_to start) (take i xs) → more ≡ map (answer_to start) (take (i + 1) xs)
  answered_more got more pushed taken =
      let left =
      each_left (λ (z : Script). answer_for z.number before.lanes ≡ answer_for z.number start) xs i x at stand
      in
      let told : answer ≡ answer_to start x =
      is.told ∙ ap (λ (o : Option Answer). answer_unless (has_ended x) o) left.0 in
      pushed
      ∙ (ap (λ (l : List (Option Answer)). l ++ answer ∷ []) taken
      ∙ (ap (λ (o : Option Answer). map (answer_to start) (take i xs) ++ o ∷ []) told
      ∙ (sym (mapped_more (answer_to start) (take i xs) x)
      ∙ ap (λ (l : List Script). map (answer_to start) l) (sym (one_more xs i x at)))))

  pub others_stand : AreRising xs → StandAs start after.lanes (drop (i + 1) xs)
  others_stand rising =
      let more : suc i ≡ i + 1 = omega arith in
      let left =
      each_left (λ (z : Script). answer_for z.number before.lanes ≡ answer_for z.number start) xs i x at stand
      in
      subst (λ (m : ℕ). StandAs start after.lanes (drop m xs)) more
      (still_stand start before.lanes after.lanes x (drop (suc i) xs) is.others (later_above xs i x rising at) left.1)
