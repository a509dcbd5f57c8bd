-- One lane among those of a host, and what it is to another application there: for the answers for what applications
-- ask
-- alone.
use Rattle.std.proofs.Common.{◌≡◌, ℕ, zero, suc, ◌+◌, ◌==◌, Bool, true, false, List, [], ◌∷◌, ◌++◌, set, length}
use Rattle.std.proofs.Common.{refl, sym, ap, ◌∙◌, subst, arith, inl, inr}
use Rattle.std.proofs.lemmas.Bool.Decides.{nat_tests}
use Rattle.std.specs.Prelude.{Option, Some, None, position}
use Rattle.std.specs.List.{AllZip}
use Rattle.std.specs.Option.{option_map}
use Rattle.host_rounds.specs.Lists.{Each}
use Rattle.core_phase.specs.declared.lane.AppLane.{AppLane}
use Rattle.core_phase.specs.declared.lane.Lane.{Lane}
use Rattle.core_phase.specs.declared.lane.Lane.TheVariants as lanes
use Rattle.libtas_sockets.specs.Apps.{Application}
use Rattle.slow_rounds.proofs.Slots.{position_here, position_past}
use Rattle.sound_phases.specs.Phased.{apps_in}
use Rattle.core_host.specs.Asking.{lane_at, IsSameBut}
use Rattle.core_host.specs.Sound.{AreApps, AreStaff}

-- ----- one of a list is another
pub set_middle : {X : Type 0} (front : List X) (x y : X) (back : List X)
    → set (front ++ x ∷ back) (length front) y ≡ front ++ y ∷ back
set_middle [] x y back = refl
set_middle (z ∷ zs) x y back = ap (λ l. z ∷ l) (set_middle zs x y back)

pub each_swap : {X : Type 0} (P : X → Type 0) (front : List X) (x y : X) (back : List X) → Each P (front ++ x ∷ back)
    → P y → Each P (front ++ y ∷ back)
each_swap P [] x y back each new = (new, each.1)
each_swap P (z ∷ zs) x y back each new = (each.0, each_swap P zs x y back each.1 new)

-- ----- the lane of an application
pub record IsLaneAt (ls : List Lane) (at app : ℕ) : Type 0 where
  pub front : List Lane
  pub lane : AppLane
  pub back : List Lane
  pub is : ls ≡ front ++ lanes.App lane ∷ back
  pub long : length front ≡ at
  pub named : lane.app.number ≡ app

abbrev pub is_name : ℕ → ℕ → Bool
is_name app n = n == app

none_some : (k : ℕ) → ◌≡◌ {A = Option ℕ} None (Some k) → ⊥
none_some k e = absurd (cc (e))

some_is : (j k : ℕ) → ◌≡◌ {A = Option ℕ} (Some j) (Some k) → j ≡ k
some_is j k e = cc (e)

-- the place behind the first
past : (o : Option ℕ) (k : ℕ) → option_map (λ i. 1 + i) o ≡ Some k → (j : ℕ) × (o ≡ Some j) × (1 + j ≡ k)
past None k e = absurd (none_some k e)
past (Some j) k e = (j, refl, some_is (1 + j) k e)

apps_at : (names : List ℕ) (ls : List Lane) (k app : ℕ) → AreApps names ls → position (is_name app) names ≡ Some k
    → IsLaneAt ls k app
apps_at [] ls k app are e = absurd (none_some k e)
apps_at (n ∷ ns) [] k app are e = absurd are
apps_at (n ∷ ns) (lanes.Core l ∷ ls) k app are e = absurd are
apps_at (n ∷ ns) (lanes.App l ∷ ls) k app are e =
    by (n == app) refl (λ j at. apps_at ns ls j app are.1 at)
  where
    behind : ((j : ℕ) → position (is_name app) ns ≡ Some j → IsLaneAt ls j app)
        → (j : ℕ) × (position (is_name app) ns ≡ Some j) × (1 + j ≡ k) → IsLaneAt (lanes.App l ∷ ls) k app
    behind rest (j, at, more) =
        let r : IsLaneAt ls j app = rest j at in
        let long : length r.front ≡ j = r.long in
        record {
          front = lanes.App l ∷ r.front;
          lane = r.lane;
          back = r.back;
          is = ap (λ x. lanes.App l ∷ x) r.is;
          long = omega (arith, long, more);
          named = r.named;
        }

    by : (t : Bool) → (n == app) ≡ t → ((j : ℕ) → position (is_name app) ns ≡ Some j → IsLaneAt ls j app)
        → IsLaneAt (lanes.App l ∷ ls) k app
    by true q rest = record {
      front = [];
      lane = l;
      back = ls;
      is = refl;
      long = some_is 0 k (sym (position_here (is_name app) n ns q) ∙ e);
      named = are.0 ∙ same n app q;
    }
      where
        same : (x y : ℕ) → (x == y) ≡ true → x ≡ y
        same x y q = grind (arith, nat_tests, q)
    by false q rest =
        behind rest (past (position (is_name app) ns) k (sym (position_past (is_name app) n ns q) ∙ e))

staff_at : (n first : ℕ) (names : List ℕ) (ls : List Lane) (k app : ℕ) → AreStaff n first names ls
    → position (is_name app) names ≡ Some k → IsLaneAt ls (n + k) app
staff_at zero first names ls k app are e =
    let r : IsLaneAt ls k app = apps_at names ls k app are e in
    let long : length r.front ≡ k = r.long in
    record {
      front = r.front;
      lane = r.lane;
      back = r.back;
      is = r.is;
      long = omega (arith, long);
      named = r.named;
    }
staff_at (suc n) first names [] k app are e = absurd are
staff_at (suc n) first names (lanes.App l ∷ ls) k app are e = absurd are
staff_at (suc n) first names (lanes.Core l ∷ ls) k app are e =
    let r : IsLaneAt ls (n + k) app = staff_at n (suc first) names ls k app are.1 e in
    let long : length r.front ≡ n + k = r.long in
    record {
      front = lanes.Core l ∷ r.front;
      lane = r.lane;
      back = r.back;
      is = ap (λ x. lanes.Core l ∷ x) r.is;
      long = omega (arith, long);
      named = r.named;
    }

-- it stands where it is looked up
pub lane_there : (cores : ℕ) (names : List ℕ) (ls : List Lane) (at app : ℕ) → AreStaff cores 0 names ls
    → lane_at cores (position (λ (n : ℕ). n == app) names) ≡ Some at → IsLaneAt ls at app
lane_there cores names ls at app are e = by (position (is_name app) names) refl e
  where
    by : (o : Option ℕ) → position (is_name app) names ≡ o → lane_at cores o ≡ Some at → IsLaneAt ls at app
    by None q e = absurd (none_some at e)
    by (Some k) q e =
        subst (λ j. IsLaneAt ls j app) (some_is (cores + k) at e) (staff_at cores 0 names ls k app are q)

-- ----- another application there
pub apps_middle : (front : List Lane) (v : AppLane) (back : List Lane)
    → apps_in (front ++ lanes.App v ∷ back) ≡ apps_in front ++ v.app ∷ apps_in back
apps_middle [] v back = refl
apps_middle (lanes.Core l ∷ front) v back = apps_middle front v back
apps_middle (lanes.App l ∷ front) v back = ap (λ x. l.app ∷ x) (apps_middle front v back)

abbrev pub with_app : Application → AppLane → AppLane
with_app b v = record v { app = b }

apps_swap : (names : List ℕ) (front : List Lane) (v : AppLane) (b : Application) (back : List Lane)
    → AreApps names (front ++ lanes.App v ∷ back) → b.number ≡ v.app.number
    → AreApps names (front ++ lanes.App (with_app b v) ∷ back)
apps_swap [] [] v b back are e = absurd (cc (are))
apps_swap [] (l ∷ front) v b back are e = absurd (cc (are))
apps_swap (n ∷ ns) [] v b back are e = (e ∙ are.0, are.1)
apps_swap (n ∷ ns) (lanes.Core l ∷ front) v b back are e = absurd are
apps_swap (n ∷ ns) (lanes.App l ∷ front) v b back are e = (are.0, apps_swap ns front v b back are.1 e)

pub staff_swap : (n first : ℕ) (names : List ℕ) (front : List Lane) (v : AppLane) (b : Application) (back : List Lane)
    → AreStaff n first names (front ++ lanes.App v ∷ back) → b.number ≡ v.app.number
    → AreStaff n first names (front ++ lanes.App (with_app b v) ∷ back)
staff_swap zero first names front v b back are e = apps_swap names front v b back are e
staff_swap (suc n) first names [] v b back are e = absurd are
staff_swap (suc n) first names (lanes.App l ∷ front) v b back are e = absurd are
staff_swap (suc n) first names (lanes.Core l ∷ front) v b back are e =
    (are.0, staff_swap n (suc first) names front v b back are.1 e)

same_self : (app : ℕ) (l : Lane) → IsSameBut app l l
same_self app (lanes.Core l) = refl
same_self app (lanes.App l) = inl refl

pub all_self : (app : ℕ) (ls : List Lane) → AllZip (IsSameBut app) ls ls
all_self app [] = tt
all_self app (l ∷ ls) = (same_self app l, all_self app ls)

pub all_but : (app : ℕ) (front : List Lane) (v : AppLane) (b : Application) (back : List Lane) → v.app.number ≡ app
    → b.number ≡ app
    → AllZip (IsSameBut app) (front ++ lanes.App v ∷ back) (front ++ lanes.App (with_app b v) ∷ back)
all_but app [] v b back old new = (inr (old, new, refl), all_self app back)
all_but app (l ∷ front) v b back old new = (same_self app l, all_but app front v b back old new)
