-- A phase of lanes is one of turns: for the law phases_are_turns.
use Rattle.std.proofs.Common.{◌≡◌, ℕ, suc, ◌+◌, ◌≤◌, Bool, true, false, List, [], ◌∷◌, ◌++◌, length, map, refl, sym, ap}
use Rattle.std.proofs.Common.{◌∙◌, subst, arith, inl, inr, true≢false}
use Rattle.std.specs.Prelude.{Option, Some, None, ⊤}
use Rattle.std.proofs.lemmas.List.Sorted.{IsPermutation-refl}
use Rattle.tas_model.specs.declared.entry.FlowId.{FlowId}
use Rattle.host_rounds.specs.Lists.{Each}
use Rattle.host_rounds.specs.Scripts.{Scripts}
use Rattle.flow_lock.specs.Orders.{Order, of, same_flow}
use Rattle.flow_lock.specs.declared.view.Deed.{Deed}
use Rattle.flow_lock.specs.declared.view.View.{View}
use Rattle.host_books.specs.Books.{Book, Setting}
use Rattle.host_books.specs.Leavings.{Leaving, leavings_in, leaving_on, AreAlike, LeaveAlike}
use Rattle.host_books.specs.Tries.{Try, Word, IsTry, AreTries, MayPrecede, LetsPass}
use Rattle.host_books.specs.Words.{ArePairs, joined}
use Rattle.host_books.proofs.Indexing.{is_same_flow}
use Rattle.host_books.proofs.Orders.{same_self}
use Rattle.core_phase.specs.Phases.{AreParts}
use Rattle.core_phase.specs.declared.lane.Lane.{Lane}
use Rattle.lane_orders.specs.Turns.{Did, did_nothing, IsDone, IsByWorkers, AreTurns, ask_by, handed_below}
use Rattle.lane_orders.specs.Turns.{left_below, asked_below, leavings_below}
use Rattle.lane_orders.specs.Ticks.{Phase}
use Rattle.lane_orders.proofs.Beside.{beside}
use Rattle.phase_orders.specs.Lanes.{AreSetOut, IsAsk, AreApart, IsApart, AreAllApart, LanePhase, all_handed}
use Rattle.phase_orders.specs.Lanes.{all_left, all_asked, AreLeavings, did_at, AreLaneTurns, AreFramesOf}
use Rattle.phase_orders.specs.Lanes.{IsOfLanes}
use Rattle.phase_orders.proofs.LaneTurns.{IsOfAsk, One, lane_turn, lets_pass, leave_alike}
use Rattle.phase_orders.proofs.Gathering.{handed_in_list, left_in_list, joined_in_list, at_each, AreDeedsFrom, deeds_at}
use Rattle.phase_orders.proofs.Gathering.{AreAcross, AreTwoByTwo, all_pairs_at}

-- ----- words of different lanes
same_back : (f g : FlowId) → same_flow f g ≡ false → same_flow g f ≡ false
same_back f g e = by (same_flow g f) refl
  where
    by : (b : Bool) → same_flow g f ≡ b → same_flow g f ≡ false
    by false h = h
    by true h =
        absurd (true≢false (sym (same_self f) ∙ (ap (same_flow f) (sym (is_same_flow g f h)) ∙ e)))

module _ {S A : Type 0} (scripts : Scripts S A) (t : ℕ) where
  back : (o q : Option (Try S A)) → IsApart scripts t o q → IsApart scripts t q o
  back None None a = tt
  back None (Some y) a = tt
  back (Some x) None a = tt
  back (Some x) (Some y) a = record {
    first = a.second;
    second = a.first;
    flow = same_back x.flow y.flow a.flow;
    next = λ r q state. sym (a.next q r state);
  }

  -- the turns have the words of these asks
  abbrev pub AreOfAsks : List (Option (Try S A)) → List (Did S A) → Type 0
  AreOfAsks [] [] = ⊤
  AreOfAsks [] (d ∷ ds) = ⊥
  AreOfAsks (o ∷ os) [] = ⊥
  AreOfAsks (o ∷ os) (d ∷ ds) = Each (IsOfAsk o) d.words × AreOfAsks os ds

  -- two words, by what their scripts ask
  module _ (R : Word S A → Word S A → Type 0) (of_none : (w v : Word S A) → w.tries ≡ [] → R w v)
      (to_none : (w v : Word S A) → v.tries ≡ [] → R w v)
      (of_two : (w v : Word S A) (x y : Try S A) → w.tries ≡ x ∷ [] → v.tries ≡ y ∷ [] → AreApart scripts t x y
      → R w v) where
    two : (o q : Option (Try S A)) → IsApart scripts t o q → (w v : Word S A) → IsOfAsk o w → IsOfAsk q v → R w v
    two o q apart w v (inl none) of_q = of_none w v none
    two o q apart w v (inr (x, ox, wx)) (inl none) = to_none w v none
    two o q apart w v (inr (x, ox, wx)) (inr (y, qy, vy)) =
        of_two w v x y wx vy
        (subst (λ (k : Option (Try S A)). IsApart scripts t (Some x) k) qy
        (subst (λ (k : Option (Try S A)). IsApart scripts t k q) ox apart))

    across : (o q : Option (Try S A)) → IsApart scripts t o q → (ws vs : List (Word S A)) → Each (IsOfAsk o) ws
        → Each (IsOfAsk q) vs → Each (λ (m : Word S A). Each (R m) vs) ws
    across o q apart [] vs of_o of_q = tt
    across o q apart (w ∷ ws) vs of_o of_q = (one vs of_q, across o q apart ws vs of_o.1 of_q)
      where
        one : (us : List (Word S A)) → Each (IsOfAsk q) us → Each (R w) us
        one [] each = tt
        one (u ∷ us) each = (two o q apart w u of_o.0 each.0, one us each.1)

    rest_apart : (o : Option (Try S A)) (d : Did S A) → Each (IsOfAsk o) d.words → (qs : List (Option (Try S A)))
        (es : List (Did S A)) → Each (IsApart scripts t o) qs → AreOfAsks qs es → Each (AreAcross R d) es
    rest_apart o d of_o [] [] each of_qs = tt
    rest_apart o d of_o [] (e ∷ es) each of_qs = absurd of_qs
    rest_apart o d of_o (q ∷ qs) [] each of_qs = absurd of_qs
    rest_apart o d of_o (q ∷ qs) (e ∷ es) each of_qs = (
      (
        across o q each.0 d.words e.words of_o of_qs.0,
        across q o (back o q each.0) e.words d.words of_qs.0 of_o,
      ),
      rest_apart o d of_o qs es each.1 of_qs.1,
    )

    two_by_two : (os : List (Option (Try S A))) (ds : List (Did S A)) → AreAllApart scripts t os → AreOfAsks os ds
        → AreTwoByTwo R ds
    two_by_two [] [] apart are = tt
    two_by_two [] (d ∷ ds) apart are = absurd are
    two_by_two (o ∷ os) [] apart are = absurd are
    two_by_two (o ∷ os) (d ∷ ds) apart are =
        (rest_apart o d are.0 os ds apart.0 are.1, two_by_two os ds apart.1 are.1)

  -- the one lets the other pass
  passes_none : (w v : Word S A) → v.tries ≡ [] → LetsPass scripts t w v
  passes_none w v none = all w.tries
    where
      all : (xs : List (Try S A)) → Each (λ (x : Try S A). Each (MayPrecede scripts t x) v.tries) xs
      all [] = tt
      all (x ∷ xs) = (subst (Each (MayPrecede scripts t x)) (sym none) tt, all xs)

  passes_two : (w v : Word S A) (x y : Try S A) → w.tries ≡ x ∷ [] → v.tries ≡ y ∷ [] → AreApart scripts t x y
      → LetsPass scripts t w v
  passes_two w v x y wx vy apart =
      subst (λ (xs : List (Try S A)). Each (λ (z : Try S A). Each (MayPrecede scripts t z) v.tries) xs) (sym wx)
      (subst (Each (MayPrecede scripts t x)) (sym vy) (apart.first, tt), tt)

  -- and what they leave is the same in either order
  alike_none : (w v : Word S A) → v.tries ≡ [] → LeaveAlike t w v
  alike_none w v none = all (leavings_in t w)
    where
      all : (xs : List (Leaving S)) → Each (λ (x : Leaving S). Each (AreAlike x) (leavings_in t v)) xs
      all [] = tt
      all (x ∷ xs) =
          (subst (Each (AreAlike x)) (sym (ap (map (leaving_on t v.deed.before)) none)) tt, all xs)

  alike_two : (w v : Word S A) (x y : Try S A) → w.tries ≡ x ∷ [] → v.tries ≡ y ∷ [] → AreApart scripts t x y
      → LeaveAlike t w v
  alike_two w v x y wx vy apart =
      let left : Leaving S = leaving_on t w.deed.before x in
      subst (λ (xs : List (Leaving S)). Each (λ (z : Leaving S). Each (AreAlike z) (leavings_in t v)) xs)
      (sym (ap (map (leaving_on t w.deed.before)) wx)) (
        subst (Each (AreAlike left)) (sym (ap (map (leaving_on t v.deed.before)) vy))
            (record { flow = apart.flow; scripts = λ state. apart.next _ _ state }, tt),
        tt,
      )

  -- ----- what is asked stands
  module _ (s : Setting) (state : S) where
    stands : (o : Option (Try S A)) → IsAsk scripts t s state o → (w : Word S A) → IsOfAsk o w
        → Each (IsTry scripts t s state) w.tries
    stands o is w (inl none) = subst (Each (IsTry scripts t s state)) (sym none) tt
    stands o is w (inr (x, ox, wx)) =
        subst (Each (IsTry scripts t s state)) (sym wx) (subst (IsAsk scripts t s state) ox is, tt)

    all_stand : (o : Option (Try S A)) → IsAsk scripts t s state o → (ws : List (Word S A)) → Each (IsOfAsk o) ws
        → AreTries scripts t s state ws
    all_stand o is [] each = tt
    all_stand o is (w ∷ ws) each = (stands o is w each.0, all_stand o is ws each.1)

    asks_stand : (os : List (Option (Try S A))) (ds : List (Did S A)) → Each (IsAsk scripts t s state) os
        → AreOfAsks os ds → Each (λ (d : Did S A). AreTries scripts t s state d.words) ds
    asks_stand [] [] each are = tt
    asks_stand [] (d ∷ ds) each are = absurd are
    asks_stand (o ∷ os) [] each are = absurd are
    asks_stand (o ∷ os) (d ∷ ds) each are =
        (all_stand o each.0 d.words are.0, asks_stand os ds each.1 are.1)

  -- ----- all lanes
  module _ (check : Bool) (cores : ℕ) (books : List Book) (order : Order) where
    -- what is said of their turns
    record All (p : ℕ) (os : List (Option (Try S A))) (vs ws : List Lane) : Type 0 where
      dids : List (Did S A)
      long : length dids ≡ length vs
      turns : AreLaneTurns t books order p os vs ws dids
      deeds : AreDeedsFrom order p dids
      done : Each (IsDone t books) dids
      workers : Each (IsByWorkers cores) dids
      passing : Each (λ (d : Did S A). ArePairs (LetsPass scripts t) d.words) dids
      alike : Each (λ (d : Did S A). ArePairs (LeaveAlike t) d.words) dids
      of_asks : AreOfAsks os dids
      each_frames : AreFramesOf vs dids
      frames : joined (λ (d : Did S A). d.frames) dids ≡ all_handed vs
      left : joined (λ (d : Did S A). d.left) dids ≡ all_left vs ws
      asked : joined (λ (d : Did S A). joined ask_by d.words) dids ≡ all_asked os ws
      leave : AreLeavings t os vs ws (joined (λ (d : Did S A). joined (leavings_in t) d.words) dids)

    all_lanes : (p : ℕ) (os : List (Option (Try S A))) (vs ws : List Lane) → AreSetOut check cores t os vs
        → AreParts order p vs ws → ((q : ℕ) → p + length vs ≤ q → of q order ≡ []) → All p os vs ws
    all_lanes p [] [] ws set parts others = record {
      dids = [];
      long = refl;
      turns = (refl, parts, refl);
      deeds = λ q le. others q (omega (arith, le));
      done = tt;
      workers = tt;
      passing = tt;
      alike = tt;
      of_asks = tt;
      each_frames = tt;
      frames = refl;
      left = refl;
      asked = refl;
      leave = refl;
    }
    all_lanes p [] (v ∷ vs) ws set parts others = absurd set
    all_lanes p (o ∷ os) [] ws set parts others = absurd set
    all_lanes p (o ∷ os) (v ∷ vs) [] set parts others = absurd parts
    all_lanes p (o ∷ os) (v ∷ vs) (w ∷ ws) set parts others =
        let one : One scripts check cores t books o v w (of p order) =
        lane_turn scripts check cores t books o v w (of p order) set.0 parts.0.deeds in
        let more : All (suc p) os vs ws =
        all_lanes (suc p) os vs ws set.1 parts.1 (λ q le. others q (omega (arith, le))) in
        record {
          dids = one.did ∷ more.dids;
          long = ap suc more.long;
          turns = (one.turn, more.turns);
          deeds = (one.deeds, more.deeds);
          done = (one.done, more.done);
          workers = (one.workers, more.workers);
          passing = (one.passing, more.passing);
          alike = (one.alike, more.alike);
          of_asks = (one.of_ask, more.of_asks);
          each_frames = (one.frames, more.each_frames);
          frames = λ i. one.frames i ++ more.frames i;
          left = λ i. one.left i ++ more.left i;
          asked = λ i. one.asked i ++ more.asked i;
          leave = (
            joined (leavings_in t) one.did.words,
            joined (λ (d : Did S A). joined (leavings_in t) d.words) more.dids,
            refl,
            one.leave,
            more.leave,
          );
        }

  -- ----- a phase
  pub phase_of_turns : (check : Bool) (cores : ℕ) (l : LanePhase scripts check cores t)
      → (p : Phase scripts t) × IsOfLanes l p
  phase_of_turns check cores l =
      let order : Order = l.phase.order in
      let books : List Book = l.setting.books in
      let all : All check cores books order 0 l.asks l.before l.after =
      all_lanes check cores books order 0 l.asks l.before l.after l.set_out l.phase.parts
      (λ q le. l.phase.others q (omega (arith, le))) in
      let did : ℕ → Did S A = did_at all.dids in
      let alike =
      all_pairs_at (LeaveAlike t) all.dids all.alike
      (two_by_two (LeaveAlike t) (leave_alike t) alike_none alike_two l.asks all.dids l.apart all.of_asks) in
      let are : AreTurns scripts t l.setting l.state l.view.base order (length l.before) did = record {
        indexed = l.indexed;
        run = l.phase.run;
        below = l.phase.others;
        deeds = λ p. named p (deeds_at order 0 all.dids all.deeds p);
        done = at_each (IsDone t books) (nothing_done books) all.dids all.done;
        tries = at_each (λ (d : Did S A). AreTries scripts t l.setting l.state d.words) tt all.dids
            (asks_stand l.setting l.state l.asks all.dids l.stand all.of_asks);
        apart = all_pairs_at (LetsPass scripts t) all.dids all.passing
            (two_by_two (LetsPass scripts t) (lets_pass scripts t) passes_none passes_two l.asks all.dids l.apart
            all.of_asks);
      } in
      let b = beside scripts t l.setting l.state l.view.base order (length l.before) did are in (
        record {
          setting = l.setting;
          state = l.state;
          known = l.view.base;
          order = order;
          turns = length l.before;
          did = did;
          are = are;
          beside = b.0;
          of_turns = b.1;
        },
        record {
          setting = refl;
          state = refl;
          known = refl;
          learned = sym (ap (λ (x : View). x.base) l.phase.known);
          turns = refl;
          dids = all.dids;
          did = refl;
          lane_turns = all.turns;
          frames = all.each_frames;
          workers = at_each (IsByWorkers cores) tt all.dids all.workers;
          handed = ap (λ n. handed_below n did) (sym all.long) ∙ (handed_in_list all.dids ∙ all.frames);
          left = ap (λ n. left_below n did) (sym all.long) ∙ (left_in_list all.dids ∙ all.left);
          asked = ap (λ n. asked_below n did) (sym all.long) ∙ (joined_in_list ask_by all.dids ∙ all.asked);
          leave = subst (AreLeavings t l.asks l.before l.after)
              (sym (ap (λ n. leavings_below t n did) (sym all.long) ∙ joined_in_list (leavings_in t) all.dids))
              all.leave;
          alike = alike;
        },
      )
    where
      named : (p : ℕ) → {ds : List Deed} → ds ≡ of (p + 0) l.phase.order → ds ≡ of p l.phase.order
      named p e = let same : p + 0 ≡ p = omega arith in e ∙ ap (λ k. of k l.phase.order) same

      nothing_done : (books : List Book) → IsDone t books (did_nothing {S = S} {A = A})
      nothing_done books = record { each = tt; frames = IsPermutation-refl [] }
