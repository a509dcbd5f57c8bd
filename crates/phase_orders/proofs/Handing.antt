-- The frames that lanes were handed are a hand-out: for the law lanes_have_a_hand_out.
use Rattle.std.proofs.Common.{◌≡◌, ℕ, zero, suc, ◌+◌, ◌<◌, ◌≤◌, ◌==◌, cond, Bool, true, false, List, [], ◌∷◌, length}
use Rattle.std.proofs.Common.{map, refl, sym, ap, ◌∙◌, subst, arith}
use Rattle.std.specs.Prelude.{Option, ⊤}
use Rattle.std.specs.List.{AllZip}
use Rattle.host_rounds.specs.Lists.{Each}
use Rattle.host_rounds.specs.Scripts.{Scripts}
use Rattle.steering.specs.Tables.{Table}
use Rattle.frame_steering.specs.Handing.{AreHanded, moves_but}
use Rattle.frame_steering.specs.Giving.{given_to}
use Rattle.frame_steering.specs.declared.handing.GroupMove.{GroupMove}
use Rattle.host_books.specs.Tries.{Try}
use Rattle.core_worker.specs.declared.frames.Frame.{Frame}
use Rattle.core_phase.specs.Words.{arrival_of}
use Rattle.core_phase.specs.declared.lane.Lane.{Lane}
use Rattle.core_phase.specs.declared.lane.Lane.TheVariants as lanes
use Rattle.lane_orders.specs.Turns.{Did, AreGiven}
use Rattle.lane_orders.specs.Ticks.{Phase, IsHandOut}
use Rattle.phase_orders.specs.CoreTurns.{arrivals_of}
use Rattle.phase_orders.specs.Lanes.{AreSetOut, LanePhase, did_at, AreFramesOf, IsOfLanes}
use Rattle.phase_orders.specs.Handing.{AreDealt, AreHandedOver, IsInGroup}

-- ----- as many as came
handed_length : (cores : ℕ) (tables : List Table) (moves : List GroupMove) (groups handed : List ℕ)
    (left : List GroupMove) (now : List Table) → AreHanded cores tables moves groups handed left now
    → length handed ≡ length groups
handed_length cores tables moves [] [] left now are = refl
handed_length cores tables moves [] (c ∷ cs) left now are = absurd are
handed_length cores tables moves (g ∷ gs) [] left now are = absurd are
handed_length cores tables moves (g ∷ gs) (c ∷ cs) left now (next, one, more) =
    ap suc (handed_length cores next (moves_but g moves) gs cs left now more)

zip_length : {X Y : Type 0} (R : X → Y → Type 0) (xs : List X) (ys : List Y) → AllZip R xs ys → length ys ≡ length xs
zip_length R [] [] z = refl
zip_length R [] (y ∷ ys) z = absurd z
zip_length R (x ∷ xs) [] z = absurd z
zip_length R (x ∷ xs) (y ∷ ys) z = ap suc (zip_length R xs ys z.1)

map_length : {X Y : Type 0} (f : X → Y) (xs : List X) → length (map f xs) ≡ length xs
map_length f [] = refl
map_length f (x ∷ xs) = ap suc (map_length f xs)

-- those for a core, as they come to the host
given_map : {X Y : Type 0} (f : X → Y) (core : ℕ) (handed : List ℕ) (xs : List X)
    → map f (given_to core handed xs) ≡ given_to core handed (map f xs)
given_map f core [] xs = refl
given_map f core (c ∷ cs) [] = refl
given_map {X} {Y} f core (c ∷ cs) (x ∷ xs) = by (c == core) (given_map f core cs xs)
  where
    by : (b : Bool) → map f (given_to core cs xs) ≡ given_to core cs (map f xs)
        → map f (cond b (x ∷ given_to core cs xs) (given_to core cs xs))
        ≡ cond b (f x ∷ given_to core cs (map f xs)) (given_to core cs (map f xs))
    by true e = ap (λ (l : List Y). f x ∷ l) e
    by false e = e

-- ----- lanes
abbrev IsChecked : (check : Bool) → Lane → Type 0
IsChecked check (lanes.Core l) = l.worker.check_sums ≡ check
IsChecked check (lanes.App l) = ⊤

are_checked : {S A : Type 0} (check : Bool) (cores t : ℕ) (os : List (Option (Try S A))) (ls : List Lane)
    → AreSetOut check cores t os ls → Each (IsChecked check) ls
are_checked check cores t [] [] set = tt
are_checked check cores t [] (l ∷ ls) set = absurd set
are_checked check cores t (o ∷ os) [] set = absurd set
are_checked check cores t (o ∷ os) (lanes.Core l ∷ ls) set =
    (set.0.1.checks, are_checked check cores t os ls set.1)
are_checked check cores t (o ∷ os) (lanes.App l ∷ ls) set = (tt, are_checked check cores t os ls set.1)

module _ (check : Bool) (cores : ℕ) (handed : List ℕ) (frames : List Frame) where
  dealt_length : (core : ℕ) (ls : List Lane) → AreDealt cores handed frames core ls → cores ≤ core + length ls
  dealt_length core [] le = omega (arith, le)
  dealt_length core (lanes.Core l ∷ ls) dealt =
      let le : cores ≤ suc core + length ls = dealt_length (suc core) ls dealt.3 in omega (arith, le)
  dealt_length core (lanes.App l ∷ ls) dealt =
      let le : cores ≤ suc core + length ls = dealt_length (suc core) ls dealt.1 in omega (arith, le)

  module _ {S A : Type 0} where
    -- a core's turn has the frames of its core
    own_at : (core : ℕ) (ls : List Lane) (ds : List (Did S A)) → AreDealt cores handed frames core ls
        → Each (IsChecked check) ls → AreFramesOf ls ds → (n m : ℕ) → core + n ≡ m → m < cores
        → (did_at ds n).frames ≡ given_to m handed (arrivals_of check frames)
    own_at core [] [] dealt each are n m same lt = absurd (omega (arith, dealt, same, lt))
    own_at core [] (d ∷ ds) dealt each are n m same lt = absurd are
    own_at core (lanes.Core l ∷ ls) [] dealt each are n m same lt = absurd are
    own_at core (lanes.App l ∷ ls) [] dealt each are n m same lt = absurd are
    own_at core (lanes.Core l ∷ ls) (d ∷ ds) dealt each are zero m same lt =
        let here : core ≡ m = omega (arith, same) in
        are.0
        ∙ ((λ i. arrivals_of (each.0 i) (dealt.2 i))
        ∙ (given_map (arrival_of check) core handed frames
        ∙ ap (λ k. given_to k handed (arrivals_of check frames)) here))
    own_at core (lanes.Core l ∷ ls) (d ∷ ds) dealt each are (suc n) m same lt =
        own_at (suc core) ls ds dealt.3 each.1 are.1 n m (omega (arith, same)) lt
    own_at core (lanes.App l ∷ ls) (d ∷ ds) dealt each are n m same lt =
        let le : cores ≤ core = dealt.0 in absurd (omega (arith, le, same, lt))

    -- an application's has none
    none_at : (core : ℕ) (ls : List Lane) (ds : List (Did S A)) → AreDealt cores handed frames core ls
        → AreFramesOf ls ds → (n m : ℕ) → core + n ≡ m → cores ≤ m → (did_at ds n).frames ≡ []
    none_at core [] [] dealt are n m same le = refl
    none_at core [] (d ∷ ds) dealt are n m same le = absurd are
    none_at core (lanes.Core l ∷ ls) [] dealt are n m same le = absurd are
    none_at core (lanes.App l ∷ ls) [] dealt are n m same le = absurd are
    none_at core (lanes.Core l ∷ ls) (d ∷ ds) dealt are zero m same le =
        let lt : core < cores = dealt.0 in absurd (omega (arith, lt, same, le))
    none_at core (lanes.Core l ∷ ls) (d ∷ ds) dealt are (suc n) m same le =
        none_at (suc core) ls ds dealt.3 are.1 n m (omega (arith, same)) le
    none_at core (lanes.App l ∷ ls) (d ∷ ds) dealt are zero m same le = are.0
    none_at core (lanes.App l ∷ ls) (d ∷ ds) dealt are (suc n) m same le =
        none_at (suc core) ls ds dealt.1 are.1 n m (omega (arith, same)) le

-- ----- the hand-out
pub hand_out_of : {S A : Type 0} (scripts : Scripts S A) (check : Bool) (cores t : ℕ)
    (l : LanePhase scripts check cores t) (p : Phase scripts t) (tables : List Table) (moves : List GroupMove)
    (frames : List Frame) (now : List Table) → IsOfLanes l p
    → AreHandedOver cores tables moves frames now l.before
    → IsHandOut (arrivals_of check frames) cores p.turns p.did
hand_out_of {S} {A} scripts check cores t l p tables moves frames now of out =
    let checked = are_checked check cores t l.asks l.before l.set_out in
    let as_many : length out.handed ≡ length frames =
    handed_length cores tables moves out.groups out.handed out.steered.left out.steered.last out.steered.frames
    ∙ zip_length IsInGroup frames out.groups out.grouped in
    let long : cores ≤ 0 + length l.before = dealt_length check cores out.handed frames 0 l.before out.dealt in
    record {
      handed = out.handed;
      same = as_many ∙ sym (map_length (arrival_of check) frames);
      below = out.below;
      turned = subst (λ n. cores ≤ n) (sym of.turns) (omega (arith, long));
      given = subst
          (λ (did : ℕ → Did S A). AreGiven cores out.handed (arrivals_of check frames) did) (sym of.did)
          (record {
            own = λ core lt. own_at check cores out.handed frames 0 l.before of.dids out.dealt checked of.frames core
                core (omega arith) lt;
            others = λ n le. none_at check cores out.handed frames 0 l.before of.dids out.dealt of.frames n n
                (omega arith) le;
          });
    }
