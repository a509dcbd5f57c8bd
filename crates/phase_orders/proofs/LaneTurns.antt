-- What one lane did in its turn, in the words of a run: for the law phases_are_turns.
use Rattle.std.proofs.Common.{◌≡◌, ℕ, ◌<◌, Bool, true, false, cond, List, [], ◌∷◌, ◌++◌, map, refl, sym, ap}
use Rattle.std.proofs.Common.{subst, inl, inr}
use Rattle.std.specs.Prelude.{Option, Some, None, ◌⊎◌}
use Rattle.std.proofs.lemmas.List.Sorted.{IsPermutation-refl}
use Rattle.host_rounds.specs.Cores.{IsWorkerOf}
use Rattle.host_rounds.specs.Lists.{Each}
use Rattle.host_rounds.specs.Scripts.{Scripts}
use Rattle.flow_lock.specs.declared.view.Deed.{Deed}
use Rattle.host_books.specs.Books.{Book}
use Rattle.host_books.specs.Leavings.{Leaving, leavings_in, leaving_on, AreAlike, LeaveAlike}
use Rattle.host_books.specs.Tries.{Try, Word, MayPrecede, LetsPass, deed_of}
use Rattle.host_books.specs.Words.{ArePairs, joined}
use Rattle.libtas_sockets.specs.Apps.{flow_of}
use Rattle.core_phase.specs.Attempts.{AreOfTry}
use Rattle.core_phase.specs.Deeds.{IsTurnOf}
use Rattle.core_phase.specs.Lanes.{IsOf}
use Rattle.core_phase.specs.declared.attempt.Attempt.{Attempt}
use Rattle.core_phase.specs.declared.lane.CoreLane.{CoreLane}
use Rattle.core_phase.specs.declared.lane.AppLane.{AppLane}
use Rattle.core_phase.specs.declared.lane.Lane.{Lane}
use Rattle.core_phase.specs.declared.lane.Lane.TheVariants as lanes
use Rattle.lane_orders.specs.Turns.{Did, IsDone, IsByWorkers, ask_by}
use Rattle.phase_orders.specs.CoreTurns.{IsOfCore, IsCoreTurn}
use Rattle.phase_orders.specs.AppTurns.{is_made, asked_by, IsTold, IsLeftIf, app_did}
use Rattle.phase_orders.specs.Lanes.{IsCoreAt, IsTryBy, IsSetOut, handed_to, left_in, asked_in, IsLeavingIn}
use Rattle.phase_orders.specs.Lanes.{IsLaneTurn}
use Rattle.phase_orders.proofs.CoreTurns.{core_turn}
use Rattle.phase_orders.proofs.AppTurns.{IsMadeAs, made_as}

-- the tries of a word are what the script asks, or none
abbrev pub IsOfAsk : {S A : Type 0} → Option (Try S A) → Word S A → Type 0
IsOfAsk {S} {A} o w = (w.tries ≡ []) ⊎ ((x : Try S A) × (o ≡ Some x) × (w.tries ≡ x ∷ []))

-- ----- words that ask nothing
module _ {S A : Type 0} where
  pub lets_pass : (scripts : Scripts S A) (t : ℕ) (w v : Word S A) → w.tries ≡ [] → LetsPass scripts t w v
  lets_pass scripts t w v none =
      subst (λ (xs : List (Try S A)). Each (λ (x : Try S A). Each (MayPrecede scripts t x) v.tries) xs) (sym none) tt

  no_leaving : (t : ℕ) (w : Word S A) → w.tries ≡ [] → leavings_in t w ≡ []
  no_leaving t w none = ap (map (leaving_on t w.deed.before)) none

  pub leave_alike : (t : ℕ) (w v : Word S A) → w.tries ≡ [] → LeaveAlike t w v
  leave_alike t w v none =
      subst (λ (xs : List (Leaving S)). Each (λ (x : Leaving S). Each (AreAlike x) (leavings_in t v)) xs)
      (sym (no_leaving t w none)) tt

  module _ (core : ℕ) where
    pairs : (R : Word S A → Word S A → Type 0) → ((w v : Word S A) → w.tries ≡ [] → R w v) → (ws : List (Word S A))
        → Each (IsOfCore core) ws → ArePairs R ws
    pairs R of_none [] each = tt
    pairs R of_none (w ∷ ws) each = (before ws, pairs R of_none ws each.1)
      where
        before : (vs : List (Word S A)) → Each (R w) vs
        before [] = tt
        before (v ∷ vs) = (of_none w v each.0.2, before vs)

    ask_nothing : (o : Option (Try S A)) (ws : List (Word S A)) → Each (IsOfCore core) ws → Each (IsOfAsk o) ws
    ask_nothing o [] each = tt
    ask_nothing o (w ∷ ws) each = (inl each.0.2, ask_nothing o ws each.1)

    by_it : (cores : ℕ) → core < cores → (ws : List (Word S A)) → Each (IsOfCore core) ws
        → Each (λ (w : Word S A). IsWorkerOf cores w.told.by) ws
    by_it cores below [] each = tt
    by_it cores below (w ∷ ws) each =
        (subst (IsWorkerOf cores) (sym each.0.0) below, by_it cores below ws each.1)

    no_asks : (ws : List (Word S A)) → Each (IsOfCore core) ws → joined ask_by ws ≡ []
    no_asks [] each = refl
    no_asks (w ∷ ws) each = λ i. each.0.1 i ++ no_asks ws each.1 i

    no_leavings : (t : ℕ) (ws : List (Word S A)) → Each (IsOfCore core) ws → joined (leavings_in t) ws ≡ []
    no_leavings t [] each = refl
    no_leavings t (w ∷ ws) each = λ i. no_leaving t w each.0.2 i ++ no_leavings t ws each.1 i

-- ----- one lane
module _ {S A : Type 0} (scripts : Scripts S A) (check : Bool) (cores t : ℕ) (books : List Book) where
  -- what is said of its turn
  pub record One (o : Option (Try S A)) (v w : Lane) (ds : List Deed) : Type 0 where
    pub did : Did S A
    pub turn : IsLaneTurn t books o v w ds did
    pub deeds : map deed_of did.words ≡ ds
    pub done : IsDone t books did
    pub workers : IsByWorkers cores did
    pub passing : ArePairs (LetsPass scripts t) did.words
    pub alike : ArePairs (LeaveAlike t) did.words
    pub of_ask : Each (IsOfAsk o) did.words
    pub frames : did.frames ≡ handed_to v
    pub left : did.left ≡ left_in v w
    pub asked : joined ask_by did.words ≡ asked_in o w
    pub leave : IsLeavingIn t o v w (joined (leavings_in t) did.words)

  of_core : (o : Option (Try S A)) (v w : CoreLane) (ds : List Deed) → IsCoreAt check cores t v
      → IsTurnOf v.tick v.worker w.worker ds → One o (lanes.Core v) (lanes.Core w) ds
  of_core o v w ds at is =
      let r : (d : Did S A) × IsCoreTurn t books v.worker w.worker ds d =
      core_turn t books v.worker w.worker ds at.exceptions at.deferred
      (subst (λ (k : ℕ). IsTurnOf k v.worker w.worker ds) at.tick is) in
      record {
        did = r.0;
        turn = r.1;
        deeds = r.1.deeds;
        done = r.1.done;
        workers = by_it v.worker.core cores at.below r.0.words r.1.of_core;
        passing = pairs v.worker.core (LetsPass scripts t) (lets_pass scripts t) r.0.words r.1.of_core;
        alike = pairs v.worker.core (LeaveAlike t) (leave_alike t) r.0.words r.1.of_core;
        of_ask = ask_nothing v.worker.core o r.0.words r.1.of_core;
        frames = r.1.frames;
        left = r.1.left;
        asked = no_asks v.worker.core r.0.words r.1.of_core;
        leave = no_leavings v.worker.core t r.0.words r.1.of_core;
      }

  -- an application that made no call
  of_none : (o : Option (Try S A)) (v w : AppLane) (ds : List Deed) → ds ≡ [] → asked_by o w.answer ≡ []
      → IsLeavingIn t o (lanes.App v) (lanes.App w) [] → One o (lanes.App v) (lanes.App w) ds
  of_none o v w ds none asks leave = subst (One o (lanes.App v) (lanes.App w)) (sym none) (by o asks leave)
    where
      by : (q : Option (Try S A)) → asked_by q w.answer ≡ [] → IsLeavingIn t q (lanes.App v) (lanes.App w) []
          → One q (lanes.App v) (lanes.App w) []
      by None asks leave = record {
        did = app_did None [];
        turn = refl;
        deeds = refl;
        done = record { each = tt; frames = IsPermutation-refl [] };
        workers = tt;
        passing = tt;
        alike = tt;
        of_ask = tt;
        frames = refl;
        left = refl;
        asked = sym asks;
        leave = leave;
      }
      by (Some x) asks leave = record {
        did = app_did (Some x) [];
        turn = refl;
        deeds = refl;
        done = record { each = tt; frames = IsPermutation-refl [] };
        workers = tt;
        passing = tt;
        alike = tt;
        of_ask = tt;
        frames = refl;
        left = refl;
        asked = sym asks;
        leave = leave;
      }

  of_made : (x : Try S A) (v w : AppLane) (ds : List Deed) (b : Bool) → is_made w.answer ≡ b
      → IsMadeAs b t x (IsTold v.attempt w.attempt w.answer) ds → One (Some x) (lanes.App v) (lanes.App w) ds
  of_made x v w ds false e none =
      of_none (Some x) v w ds none (ap (λ (b : Bool). cond b (x.ask ∷ []) []) e)
      (subst (λ (b : Bool). IsLeftIf b t x v.attempt w.attempt w.answer []) (sym e) refl)
  of_made x v w ds true e (d, is, word, told) =
      subst (One (Some x) (lanes.App v) (lanes.App w)) (sym is)
      (record {
        did = app_did (Some x) (d ∷ []);
        turn = refl;
        deeds = refl;
        done = record { each = (inr (inr word), tt); frames = IsPermutation-refl [] };
        workers = (tt, tt);
        passing = (tt, tt);
        alike = (tt, tt);
        of_ask = (inr (x, refl, refl), tt);
        frames = refl;
        left = refl;
        asked = ap (λ (b : Bool). cond b (x.ask ∷ []) []) (sym e);
        leave = subst
            (λ (b : Bool). IsLeftIf b t x v.attempt w.attempt w.answer (leaving_on t d.before x ∷ [])) (sym e)
            (d.before, word.adds.legal, told, refl);
      })

  of_app : (o : Option (Try S A)) (v w : AppLane) (ds : List Deed) → IsTryBy o v
      → AreOfTry v.app.number (flow_of v.app v.socket) t v.attempt w.attempt w.answer ds
      → One o (lanes.App v) (lanes.App w) ds
  of_app None v w ds nothing are =
      of_none None v w ds
      (subst (λ (a : Attempt). AreOfTry v.app.number (flow_of v.app v.socket) t a w.attempt w.answer ds) nothing are)
      refl refl
  of_app (Some x) v w ds of_try are =
      of_made x v w ds (is_made w.answer) refl
      (made_as t x v.app.number (flow_of v.app v.socket) v.attempt w.attempt w.answer ds of_try are)

  pub lane_turn : (o : Option (Try S A)) (v w : Lane) (ds : List Deed) → IsSetOut check cores t o v → IsOf v w ds
      → One o v w ds
  lane_turn o (lanes.Core v) (lanes.Core w) ds set is = of_core o v w ds set.1 is
  lane_turn o (lanes.Core v) (lanes.App w) ds set is = absurd is
  lane_turn o (lanes.App v) (lanes.Core w) ds set is = absurd is
  lane_turn o (lanes.App v) (lanes.App w) ds set is =
      of_app o v w ds set.1
      (subst (λ (k : ℕ). AreOfTry v.app.number (flow_of v.app v.socket) k v.attempt w.attempt w.answer ds) set.0 is)
