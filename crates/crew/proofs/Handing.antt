-- Each step at a desk keeps its rule.
use Rattle.std.proofs.Common.{◌≡◌, ◌≢◌, ℕ, zero, suc, Bool, true, false, List, [], ◌∷◌, slice_set, slice_index, ◌++◌}
use Rattle.std.proofs.Common.{◌⊎◌, sym, refl, ap, ◌∙◌}
use Rattle.std.proofs.Common.{subst, inl, inr, arith, true≢false, eqb, ne_eqb}
use Rattle.std.specs.Prelude.{Option, Some, None}
use mathlib.Core.Option as O
use mathlib.Core.Option.{some-injective, some-ne-none}
use lib.ListN.{get_elem?}
use prog.Atomic.{either}
use Rattle.atomic_table.specs.Table.{State, Me, step, keeps, takes, gives, Allows, Splits, opening, Act, Valid}
use Rattle.atomic_table.specs.Table.{stepped, Step, carried_after}
use Rattle.crew.specs.declared.handover.View.{View}
use Rattle.crew.specs.declared.handover.View.TheVariants.{Whole, Both, Unmanned, Idle, Sent, Stopped}
use Rattle.crew.specs.declared.handover.View.TheVariants.{Away, Free, Works, Gone}
use Rattle.crew.specs.Desks.{Fits, IsNew, IsManned, Sides, Lawful, at_rest}
use Rattle.crew.specs.Desks.{clears, asks, hands_out, recalls, takes_back, stops, arrives, looks, claims, hands_back}

module _ {W : Type 0} where
  -- which side a view is
  abbrev is_dispatcher : View W → Bool
  is_dispatcher Unmanned = true
  is_dispatcher Idle = true
  is_dispatcher (Sent x) = true
  is_dispatcher Stopped = true
  is_dispatcher v = false

  abbrev is_worker : View W → Bool
  is_worker Away = true
  is_worker Free = true
  is_worker (Works x) = true
  is_worker Gone = true
  is_worker v = false

  module _ (can : W → Type 0) (made : W → W → Type 0) where
    new_is : (n : ℕ) (h : O.Option (Option W)) (v : View W) → IsNew can made n h v
        → (is_dispatcher v ≡ false) × (is_worker v ≡ false)
    new_is n h Whole f = (refl, refl)
    new_is n h Both f = (refl, refl)
    new_is n h Unmanned f = absurd f
    new_is n h Idle f = absurd f
    new_is n h (Sent x) f = absurd f
    new_is n h Stopped f = absurd f
    new_is n h Away f = absurd f
    new_is n h Free f = absurd f
    new_is n h (Works x) f = absurd f
    new_is n h Gone f = absurd f

    -- the dispatcher is the first of two
    dispatcher_at : (n m : ℕ) (h : O.Option (Option W)) (vs : List (View W)) (v : View W) → is_dispatcher v ≡ true
        → Sides can made n m h vs → get_elem? vs 0 ≡ O.some v
        → (w : View W) × (vs ≡ v ∷ w ∷ []) × Fits can made n h v w × IsManned m w
    dispatcher_at n m h [] v is s at = absurd s
    dispatcher_at n m h (x ∷ []) v is s at =
        absurd (true≢false (sym is ∙ (ap is_dispatcher (sym (some-injective _ _ at)) ∙ (new_is n h x s.0).0)))
    dispatcher_at n m h (x ∷ w ∷ []) v is s at =
        let e = some-injective _ _ at in
        (w, ap (λ b. b ∷ w ∷ []) e, subst (λ b. Fits can made n h b w) e s.0, s.1)
    dispatcher_at n m h (x ∷ w ∷ y ∷ ys) v is s at = absurd s

    first_is : (n : ℕ) (h : O.Option (Option W)) (d w : View W) → is_worker d ≡ true → Fits can made n h d w → ⊥
    first_is n h Whole w is f = true≢false (sym is)
    first_is n h Both w is f = true≢false (sym is)
    first_is n h Unmanned w is f = true≢false (sym is)
    first_is n h Idle w is f = true≢false (sym is)
    first_is n h (Sent x) w is f = true≢false (sym is)
    first_is n h Stopped w is f = true≢false (sym is)
    first_is n h Away w is f = f
    first_is n h Free w is f = f
    first_is n h (Works x) w is f = f
    first_is n h Gone w is f = f

    -- the worker is the second of two
    worker_at : (n m : ℕ) (h : O.Option (Option W)) (vs : List (View W)) (k : ℕ) (v : View W) → is_worker v ≡ true
        → Sides can made n m h vs → get_elem? vs k ≡ O.some v
        → (d : View W) × (vs ≡ d ∷ v ∷ []) × (k ≡ 1) × Fits can made n h d v × IsManned m v
    worker_at n m h [] k v is s at = absurd s
    worker_at n m h (x ∷ []) zero v is s at =
        absurd (true≢false (sym is ∙ (ap is_worker (sym (some-injective _ _ at)) ∙ (new_is n h x s.0).1)))
    worker_at n m h (x ∷ []) (suc k) v is s at = absurd (some-ne-none _ (sym at))
    worker_at n m h (x ∷ w ∷ []) zero v is s at =
        absurd (first_is n h x w (ap is_worker (some-injective _ _ at) ∙ is) s.0)
    worker_at n m h (x ∷ w ∷ []) (suc zero) v is s at =
        let e = some-injective _ _ at in
        (x, ap (λ b. x ∷ b ∷ []) e, refl, subst (λ b. Fits can made n h x b) e s.0, subst (IsManned m) e s.1)
    worker_at n m h (x ∷ w ∷ []) (suc (suc k)) v is s at = absurd (some-ne-none _ (sym at))
    worker_at n m h (x ∷ w ∷ y ∷ ys) k v is s at = absurd s

    abbrev pub Law : State (Option W) (View W) → Type 0
    Law = Lawful can made

    first_word : {ws : List ℕ} {n m : ℕ} → ws ≡ n ∷ m ∷ [] → slice_index ws 0 ≡ n
    first_word e = ap (λ ws. slice_index ws 0) e

    second_word : {ws : List ℕ} {n m : ℕ} → ws ≡ n ∷ m ∷ [] → slice_index ws 1 ≡ m
    second_word e = ap (λ ws. slice_index ws 1) e

    -- a word that is read stays
    first_same : {ws : List ℕ} {n m : ℕ} → ws ≡ n ∷ m ∷ [] → slice_set ws 0 (slice_index ws 0) ≡ n ∷ m ∷ []
    first_same e = λ i. slice_set (e i) 0 (first_word e i)

    -- one that is exchanged for another, where it was as expected, becomes what this makes of it
    first_exchanged : {ws : List ℕ} {n m : ℕ} (old new k : ℕ) → ws ≡ n ∷ m ∷ [] → either (eqb n old) new n ≡ k
        → slice_set ws 0 (either (eqb (slice_index ws 0) old) new (slice_index ws 0)) ≡ k ∷ m ∷ []
    first_exchanged {ws} {n} {m} old new k e is =
        (λ i. slice_set (e i) 0 (either (eqb (first_word e i) old) new (first_word e i))) ∙ ap (λ b. b ∷ m ∷ []) is

    second_same : {ws : List ℕ} {n m : ℕ} → ws ≡ n ∷ m ∷ [] → slice_set ws 1 (slice_index ws 1) ≡ n ∷ m ∷ []
    second_same e = λ i. slice_set (e i) 1 (second_word e i)

    -- ----- the beginning
    pub begins : Law (opening (0 ∷ 0 ∷ []) (None ∷ []) Whole)
    begins =
        record { word = 0; manned = 0; home = O.some None; words = refl; homes = refl; sides = ((refl, refl), refl) }

    -- both sides at once, at the first place
    new_at : (n m : ℕ) (h : O.Option (Option W)) (vs : List (View W)) (v : View W)
        → ((w : View W) → Fits can made n h v w → ⊥) → Sides can made n m h vs → get_elem? vs 0 ≡ O.some v
        → (vs ≡ v ∷ []) × IsNew can made n h v × (m ≡ 0)
    new_at n m h [] v none s at = absurd s
    new_at n m h (x ∷ []) v none s at =
        let e = some-injective _ _ at in (ap (λ b. b ∷ []) e, subst (IsNew can made n h) e s.0, s.1)
    new_at n m h (x ∷ w ∷ []) v none s at =
        absurd (none w (subst (λ b. Fits can made n h b w) (some-injective _ _ at) s.0))
    new_at n m h (x ∷ w ∷ y ∷ ys) v none s at = absurd s

    pub clears_it : (slots : ℕ)
        → Allows Law slots 0 (Whole, []) 0 (λ n. n) (clears (step slots 0 0 0 O.none) (Whole, []))
    clears_it slots s law wide at near =
        let p = new_at law.word law.manned law.home s.views Whole (λ w f. f) law.sides at in
        let homes : s.homes ≡ O.some None ∷ [] = law.homes ∙ ap (λ h. h ∷ []) p.1.1 in (
          Both,
          takes 0 None,
          ap (λ hs. get_elem? hs 0) homes,
          record {
            word = law.word;
            manned = law.manned;
            home = O.none;
            words = first_same law.words;
            homes = ap (λ hs. slice_set hs 0 O.none) homes;
            sides = subst (λ vs. Sides can made law.word law.manned O.none (slice_set vs 0 Both)) (sym p.0)
                ((p.1.0, refl), p.2);
          },
          refl,
        )

    pub parts_it : Splits Law 0 Both Unmanned Away
    parts_it s law at =
        let p = new_at law.word law.manned law.home s.views Both (λ w f. f) law.sides at in
        record {
          word = law.word;
          manned = law.manned;
          home = law.home;
          words = law.words;
          homes = law.homes;
          sides = subst (λ vs. Sides can made law.word law.manned law.home (slice_set vs 0 Unmanned ++ Away ∷ []))
              (sym p.0) (p.1, p.2);
        }

    -- ----- the dispatcher
    unmanned_asks : (n : ℕ) (h : O.Option (Option W)) (w : View W) → Fits can made n h Unmanned w → IsManned 1 w
        → Fits can made n h Idle w
    unmanned_asks n h Free f m =
        (inl f.0, f.1)
    unmanned_asks n h Away f m = absurd (omega arith)
    unmanned_asks n h Whole f m = absurd f
    unmanned_asks n h Both f m = absurd f
    unmanned_asks n h Unmanned f m = absurd f
    unmanned_asks n h Idle f m = absurd f
    unmanned_asks n h (Sent x) f m = absurd f
    unmanned_asks n h Stopped f m = absurd f
    unmanned_asks n h (Works x) f m = absurd f
    unmanned_asks n h Gone f m = absurd f

    -- what is known of the worker where the desk was idle
    idle_has : (n m : ℕ) (h : O.Option (Option W)) (w : View W) → Fits can made n h Idle w → IsManned m w
        → (w ≡ Free) × (m ≡ 1) × (h ≡ O.none)
    idle_has n m h Free f there = (refl, there, f.1)
    idle_has n m h Whole f there = absurd f
    idle_has n m h Both f there = absurd f
    idle_has n m h Unmanned f there = absurd f
    idle_has n m h Idle f there = absurd f
    idle_has n m h (Sent x) f there = absurd f
    idle_has n m h Stopped f there = absurd f
    idle_has n m h Away f there = absurd f
    idle_has n m h (Works x) f there = absurd f
    idle_has n m h Gone f there = absurd f

    pub asks_it : (slots : ℕ) (manned : Bool) (c : List (ℕ × Option W))
        → Allows Law slots 0 (at_rest manned, c) 1 (λ n. n) (asks (step slots 1 0 0 O.none) (at_rest manned, c))
    asks_it slots true c s law wide at near =
        let p = dispatcher_at law.word law.manned law.home s.views Idle refl law.sides at in
        let i = idle_has law.word law.manned law.home p.0 p.2 p.3 in (
          Idle,
          keeps,
          tt,
          record {
            word = law.word;
            manned = law.manned;
            home = law.home;
            words = second_same law.words;
            homes = law.homes;
            sides = subst (λ vs. Sides can made law.word law.manned law.home (slice_set vs 0 Idle)) (sym p.1)
                (p.2, p.3);
          },
          (second_word law.words ∙ i.1, refl),
        )
    asks_it slots false c s law wide at near =
        let p = dispatcher_at law.word law.manned law.home s.views Unmanned refl law.sides at in
        by_word p.0 p.1 p.2 p.3 law.manned refl
      where
        kept : (v w : View W) → s.views ≡ Unmanned ∷ w ∷ [] → Fits can made law.word law.home v w
            → IsManned law.manned w → Law (stepped s 1 (slice_index s.words 1) 0 c v keeps)
        kept v w vs f m =
            record {
              word = law.word;
              manned = law.manned;
              home = law.home;
              words = second_same law.words;
              homes = law.homes;
              sides = subst (λ vs. Sides can made law.word law.manned law.home (slice_set vs 0 v)) (sym vs) (f, m);
            }

        by_word : (w : View W) → s.views ≡ Unmanned ∷ w ∷ [] → Fits can made law.word law.home Unmanned w
            → IsManned law.manned w → (m : ℕ) → law.manned ≡ m
            → (v : View W) × (a : Act (Option W)) × Valid s.homes c a
            × Law (stepped s 1 (slice_index s.words 1) 0 c v a)
            × asks (step slots 1 0 0 O.none) (Unmanned, c) (slice_index s.words 1) (v, carried_after c a)
        by_word w vs f m zero e = (
          Unmanned,
          keeps,
          tt,
          kept Unmanned w vs f m,
          (λ n. refl, λ one. let z : 0 ≡ 1 = sym e ∙ (sym (second_word law.words) ∙ one) in absurd (omega arith)),
        )
        by_word w vs f m (suc zero) e = (
          Idle,
          keeps,
          tt,
          kept Idle w vs (unmanned_asks law.word law.home w f (subst (λ k. IsManned k w) e m)) m,
          (λ n. absurd (n (second_word law.words ∙ e)), λ one. refl),
        )
        by_word w vs f m (suc (suc k)) e = (
          Unmanned,
          keeps,
          tt,
          kept Unmanned w vs f m,
          (
            λ n. refl,
            λ one. let z : suc (suc k) ≡ 1 = sym e ∙ (sym (second_word law.words) ∙ one) in absurd (omega arith),
          ),
        )

    pub hands_out_it : (slots : ℕ) (x : W) → can x
        → Allows Law slots 0 (Idle, (0, Some x) ∷ []) 0 (λ _. 1)
        (hands_out (step slots 0 1 0 O.none) (Idle, (0, Some x) ∷ []))
    hands_out_it slots x may s law wide at near =
        let p = dispatcher_at law.word law.manned law.home s.views Idle refl law.sides at in
        let i = idle_has law.word law.manned law.home p.0 p.2 p.3 in
        let vs : s.views ≡ Idle ∷ Free ∷ [] = p.1 ∙ ap (λ w. Idle ∷ w ∷ []) i.0 in (
          Sent x,
          gives,
          tt,
          record {
            word = 1;
            manned = law.manned;
            home = O.some (Some x);
            words = ap (λ ws. slice_set ws 0 1) law.words;
            homes = ap (λ hs. slice_set hs 0 (O.some (Some x))) law.homes;
            sides = subst (λ vs. Sides can made 1 law.manned (O.some (Some x)) (slice_set vs 0 (Sent x))) (sym vs)
                (inl (refl, may, refl), i.1);
          },
          refl,
        )

    rest_stops : (n : ℕ) (h : O.Option (Option W)) (manned : Bool) (w : View W) → Fits can made n h (at_rest manned) w
        → Fits can made 3 h Stopped w
    rest_stops n h true Free f = (refl, f.1)
    rest_stops n h true Whole f = absurd f
    rest_stops n h true Both f = absurd f
    rest_stops n h true Unmanned f = absurd f
    rest_stops n h true Idle f = absurd f
    rest_stops n h true (Sent y) f = absurd f
    rest_stops n h true Stopped f = absurd f
    rest_stops n h true Away f = absurd f
    rest_stops n h true (Works y) f = absurd f
    rest_stops n h true Gone f = absurd f
    rest_stops n h false Free f = (refl, f.1)
    rest_stops n h false Away f = (refl, f.1)
    rest_stops n h false Whole f = absurd f
    rest_stops n h false Both f = absurd f
    rest_stops n h false Unmanned f = absurd f
    rest_stops n h false Idle f = absurd f
    rest_stops n h false (Sent y) f = absurd f
    rest_stops n h false Stopped f = absurd f
    rest_stops n h false (Works y) f = absurd f
    rest_stops n h false Gone f = absurd f

    rests : (manned : Bool) → is_dispatcher (at_rest {W = W} manned) ≡ true
    rests true = refl
    rests false = refl

    pub stops_it : (slots : ℕ) (manned : Bool) (c : List (ℕ × Option W))
        → Allows Law slots 0 (at_rest manned, c) 0 (λ _. 3) (stops (step slots 0 3 0 O.none) (at_rest manned, c))
    stops_it slots manned c s law wide at near =
        let p = dispatcher_at law.word law.manned law.home s.views (at_rest manned) (rests manned) law.sides at in (
          Stopped,
          keeps,
          tt,
          record {
            word = 3;
            manned = law.manned;
            home = law.home;
            words = ap (λ ws. slice_set ws 0 3) law.words;
            homes = law.homes;
            sides = subst (λ vs. Sides can made 3 law.manned law.home (slice_set vs 0 Stopped)) (sym p.1)
                (rest_stops law.word law.home manned p.0 p.2, p.3);
          },
          refl,
        )

    -- where this job is out, it is not done, or the desk has what work made of it
    out_is : (n : ℕ) (h : O.Option (Option W)) (x : W) (w : View W) → Fits can made n h (Sent x) w
        → (n ≢ 2) ⊎ ((n ≡ 2) × (w ≡ Free) × ((y : W) × made x y × (h ≡ O.some (Some y))))
    out_is n h x Free (inl f) = inl (λ e. let z = f.0 in absurd (omega arith))
    out_is n h x Free (inr f) = inr (f.0, refl, f.1)
    out_is n h x (Works y) f = inl (λ e. let z = f.0 in absurd (omega arith))
    out_is n h x Whole f = absurd f
    out_is n h x Both f = absurd f
    out_is n h x Unmanned f = absurd f
    out_is n h x Idle f = absurd f
    out_is n h x (Sent y) f = absurd f
    out_is n h x Stopped f = absurd f
    out_is n h x Away f = absurd f
    out_is n h x Gone f = absurd f

    pub takes_back_it : (slots : ℕ) (x : W)
        → Allows Law slots 0 (Sent x, []) 0 (λ n. n) (takes_back can made (step slots 0 0 0 O.none) (Sent x, []))
    takes_back_it slots x s law wide at near =
        let p = dispatcher_at law.word law.manned law.home s.views (Sent x) refl law.sides at in
        by_word p.0 p.1 p.2 p.3 (out_is law.word law.home x p.0 p.2)
      where
        by_word : (w : View W) → s.views ≡ Sent x ∷ w ∷ [] → Fits can made law.word law.home (Sent x) w
            → IsManned law.manned w
            → (law.word ≢ 2) ⊎ ((law.word ≡ 2) × (w ≡ Free) × ((y : W) × made x y × (law.home ≡ O.some (Some y))))
            → (v : View W) × (a : Act (Option W)) × Valid s.homes [] a
            × Law (stepped s 0 (slice_index s.words 0) 0 [] v a)
            × takes_back can made (step slots 0 0 0 O.none) (Sent x, []) (slice_index s.words 0) (v, carried_after [] a)
        by_word w vs f m (inl q) = (
          Sent x,
          keeps,
          tt,
          record {
            word = law.word;
            manned = law.manned;
            home = law.home;
            words = first_same law.words;
            homes = law.homes;
            sides = subst (λ vs. Sides can made law.word law.manned law.home (slice_set vs 0 (Sent x))) (sym vs) (f, m);
          },
          (λ n. refl, λ e. absurd (q (sym (first_word law.words) ∙ e))),
        )
        by_word w vs f m (inr q) =
            let y = q.2.0 in
            let homes : s.homes ≡ O.some (Some y) ∷ [] = law.homes ∙ ap (λ h. h ∷ []) q.2.2 in
            let two = q.0 in (
              Idle,
              takes 0 (Some y),
              ap (λ hs. get_elem? hs 0) homes,
              record {
                word = law.word;
                manned = law.manned;
                home = O.none;
                words = first_same law.words;
                homes = ap (λ hs. slice_set hs 0 O.none) homes;
                sides = subst (λ vs. Sides can made law.word law.manned O.none (slice_set vs 0 Idle))
                    (sym (vs ∙ ap (λ w. Sent x ∷ w ∷ []) q.1))
                    ((inr two, refl), subst (IsManned law.manned) q.1 m);
              },
              (λ n. absurd (n (first_word law.words ∙ q.0)), λ e. (y, q.2.1, refl)),
            )

    -- where this job is out, it waits, or it was begun
    waits_is : (n : ℕ) (h : O.Option (Option W)) (x : W) (w : View W) → Fits can made n h (Sent x) w
        → (n ≢ 1) ⊎ ((n ≡ 1) × (w ≡ Free) × can x × (h ≡ O.some (Some x)))
    waits_is n h x Free (inl f) = inr (f.0, refl, f.1, f.2)
    waits_is n h x Free (inr f) = inl (λ e. let z = f.0 in absurd (omega arith))
    waits_is n h x (Works y) f = inl (λ e. let z = f.0 in absurd (omega arith))
    waits_is n h x Whole f = absurd f
    waits_is n h x Both f = absurd f
    waits_is n h x Unmanned f = absurd f
    waits_is n h x Idle f = absurd f
    waits_is n h x (Sent y) f = absurd f
    waits_is n h x Stopped f = absurd f
    waits_is n h x Away f = absurd f
    waits_is n h x Gone f = absurd f

    -- a word that isn't 1 stays where 1 is exchanged for another
    missed : (n new : ℕ) → n ≢ 1 → either (eqb n 1) new n ≡ n
    missed n new ne = ap (λ b. either b new n) (ne_eqb n 1 ne)

    pub recalls_it : (slots : ℕ) (x : W)
        → Allows Law slots 0 (Sent x, []) 0 (λ n. either (eqb n 1) 0 n)
        (recalls (step slots 0 1 0 O.none) (Sent x, []))
    recalls_it slots x s law wide at near =
        let p = dispatcher_at law.word law.manned law.home s.views (Sent x) refl law.sides at in
        by_word p.0 p.1 p.2 p.3 (waits_is law.word law.home x p.0 p.2)
      where
        by_word : (w : View W) → s.views ≡ Sent x ∷ w ∷ [] → Fits can made law.word law.home (Sent x) w
            → IsManned law.manned w
            → (law.word ≢ 1) ⊎ ((law.word ≡ 1) × (w ≡ Free) × can x × (law.home ≡ O.some (Some x)))
            → (v : View W) × (a : Act (Option W)) × Valid s.homes [] a
            × Law (stepped s 0 (either (eqb (slice_index s.words 0) 1) 0 (slice_index s.words 0)) 0 [] v a)
            × recalls (step slots 0 1 0 O.none) (Sent x, []) (slice_index s.words 0) (v, carried_after [] a)
        by_word w vs f m (inl q) = (
          Sent x,
          keeps,
          tt,
          record {
            word = law.word;
            manned = law.manned;
            home = law.home;
            words = first_exchanged 1 0 law.word law.words (missed law.word 0 q);
            homes = law.homes;
            sides = subst (λ vs. Sides can made law.word law.manned law.home (slice_set vs 0 (Sent x))) (sym vs) (f, m);
          },
          (λ n. refl, λ e. absurd (q (sym (first_word law.words) ∙ e))),
        )
        by_word w vs f m (inr q) =
            let homes : s.homes ≡ O.some (Some x) ∷ [] = law.homes ∙ ap (λ h. h ∷ []) q.3 in (
              Idle,
              takes 0 (Some x),
              ap (λ hs. get_elem? hs 0) homes,
              record {
                word = 0;
                manned = law.manned;
                home = O.none;
                words = first_exchanged 1 0 0 law.words (ap (λ n. either (eqb n 1) 0 n) q.0);
                homes = ap (λ hs. slice_set hs 0 O.none) homes;
                sides = subst (λ vs. Sides can made 0 law.manned O.none (slice_set vs 0 Idle))
                    (sym (vs ∙ ap (λ w. Sent x ∷ w ∷ []) q.1))
                    ((inl refl, refl), subst (IsManned law.manned) q.1 m);
              },
              (λ n. absurd (n (first_word law.words ∙ q.0)), λ e. refl),
            )

    -- what taking back tells, where this job is out
    pub recalled : (st : Step (Option W)) (n : ℕ) (x : W) (m m' : Me (Option W) (View W)) → m ≡ (Sent x, [])
        → recalls st m n m' → (n ≢ 1 → m' ≡ (Sent x, [])) × (n ≡ 1 → m' ≡ (Idle, (0, Some x) ∷ []))
    recalled st n x m m' e told =
        let t : recalls st (Sent x, []) n m' =
        subst (λ (u : Me (Option W) (View W)). recalls st u n m') e told in t

    -- ----- the worker
    away_arrives : (n : ℕ) (h : O.Option (Option W)) (d : View W) → Fits can made n h d Away → Fits can made n h d Free
    away_arrives n h Unmanned f = f
    away_arrives n h Stopped f = f
    away_arrives n h Whole f = absurd f
    away_arrives n h Both f = absurd f
    away_arrives n h Idle f = absurd f
    away_arrives n h (Sent x) f = absurd f
    away_arrives n h Away f = absurd f
    away_arrives n h Free f = absurd f
    away_arrives n h (Works x) f = absurd f
    away_arrives n h Gone f = absurd f

    pub arrives_it : (slots k : ℕ)
        → Allows Law slots k (Away, []) 1 (λ _. 1) (arrives (step slots 1 1 0 O.none) (Away, []))
    arrives_it slots k s law wide at near =
        let p = worker_at law.word law.manned law.home s.views k Away refl law.sides at in
        let views : slice_set s.views k Free ≡ p.0 ∷ Free ∷ [] = (λ i. slice_set (p.1 i) (p.2 i) Free) in (
          Free,
          keeps,
          tt,
          record {
            word = law.word;
            manned = 1;
            home = law.home;
            words = ap (λ ws. slice_set ws 1 1) law.words;
            homes = law.homes;
            sides = subst (Sides can made law.word 1 law.home) (sym views)
                (away_arrives law.word law.home p.0 p.3, refl);
          },
          refl,
        )

    -- the worker's view where the dispatcher's is known
    views_with : {vs : List (View W)} {k : ℕ} (v d e : View W) → vs ≡ d ∷ Free ∷ [] → k ≡ 1 → d ≡ e
        → slice_set vs k v ≡ e ∷ v ∷ []
    views_with v d e is one same = (λ i. slice_set (is i) (one i) v) ∙ ap (λ b. b ∷ v ∷ []) same

    -- a job waits for the worker, or none does
    found_is : (n : ℕ) (h : O.Option (Option W)) (d : View W) → Fits can made n h d Free
        → (n ≢ 1) ⊎ ((n ≡ 1) × ((x : W) × (d ≡ Sent x) × can x × (h ≡ O.some (Some x))))
    found_is n h Unmanned f = let z = f.0 in inl (λ e. absurd (omega arith))
    found_is n h Idle (inl f, g) = inl (λ e. absurd (omega arith))
    found_is n h Idle (inr f, g) = inl (λ e. absurd (omega arith))
    found_is n h (Sent x) (inl f) = inr (f.0, (x, refl, f.1, f.2))
    found_is n h (Sent x) (inr f) = let z = f.0 in inl (λ e. absurd (omega arith))
    found_is n h Stopped f = let z = f.0 in inl (λ e. absurd (omega arith))
    found_is n h Whole f = absurd f
    found_is n h Both f = absurd f
    found_is n h Away f = absurd f
    found_is n h Free f = absurd f
    found_is n h (Works x) f = absurd f
    found_is n h Gone f = absurd f

    pub claims_at : (slots k : ℕ)
        → Allows Law slots k (Free, []) 0 (λ n. either (eqb n 1) 4 n)
        (claims can made (step slots 0 1 4 O.none) (Free, []))
    claims_at slots k s law wide at near =
        let p = worker_at law.word law.manned law.home s.views k Free refl law.sides at in
        by_word p.0 p.1 p.2 p.3 p.4 (found_is law.word law.home p.0 p.3)
      where
        by_word : (d : View W) → s.views ≡ d ∷ Free ∷ [] → k ≡ 1 → Fits can made law.word law.home d Free
            → law.manned ≡ 1
            → (law.word ≢ 1)
            ⊎ ((law.word ≡ 1) × ((x : W) × (d ≡ Sent x) × can x × (law.home ≡ O.some (Some x))))
            → (v : View W) × (a : Act (Option W)) × Valid s.homes [] a
            × Law (stepped s 0 (either (eqb (slice_index s.words 0) 1) 4 (slice_index s.words 0)) k [] v a)
            × claims can made (step slots 0 1 4 O.none) (Free, []) (slice_index s.words 0) (v, carried_after [] a)
        by_word d vs one f m (inl q) = (
          Free,
          keeps,
          tt,
          record {
            word = law.word;
            manned = law.manned;
            home = law.home;
            words = first_exchanged 1 4 law.word law.words (missed law.word 4 q);
            homes = law.homes;
            sides = subst (Sides can made law.word law.manned law.home) (sym (views_with Free d d vs one refl)) (f, m);
          },
          (λ n. refl, λ e. absurd (q (sym (first_word law.words) ∙ e))),
        )
        by_word d vs one f m (inr q) =
            let x = q.1.0 in
            let homes : s.homes ≡ O.some (Some x) ∷ [] = law.homes ∙ ap (λ h. h ∷ []) q.1.3 in (
              Works x,
              takes 0 (Some x),
              ap (λ hs. get_elem? hs 0) homes,
              record {
                word = 4;
                manned = law.manned;
                home = O.none;
                words = first_exchanged 1 4 4 law.words (ap (λ n. either (eqb n 1) 4 n) q.0);
                homes = ap (λ hs. slice_set hs 0 O.none) homes;
                sides = subst (Sides can made 4 law.manned O.none)
                    (sym (views_with (Works x) d (Sent x) vs one q.1.1)) ((refl, refl, refl), m);
              },
              (λ n. absurd (n (first_word law.words ∙ q.0)), λ e. (x, q.1.2, refl)),
            )

    -- no more jobs come, or some may
    stopped_is : (n : ℕ) (h : O.Option (Option W)) (d : View W) → Fits can made n h d Free
        → (n ≢ 3) ⊎ ((n ≡ 3) × (d ≡ Stopped) × (h ≡ O.none))
    stopped_is n h Unmanned f = let z = f.0 in inl (λ e. absurd (omega arith))
    stopped_is n h Idle (inl f, g) = inl (λ e. absurd (omega arith))
    stopped_is n h Idle (inr f, g) = inl (λ e. absurd (omega arith))
    stopped_is n h (Sent x) (inl f) = let z = f.0 in inl (λ e. absurd (omega arith))
    stopped_is n h (Sent x) (inr f) = let z = f.0 in inl (λ e. absurd (omega arith))
    stopped_is n h Stopped f = inr (f.0, refl, f.1)
    stopped_is n h Whole f = absurd f
    stopped_is n h Both f = absurd f
    stopped_is n h Away f = absurd f
    stopped_is n h Free f = absurd f
    stopped_is n h (Works x) f = absurd f
    stopped_is n h Gone f = absurd f

    pub looks_at : (slots k : ℕ)
        → Allows Law slots k (Free, []) 0 (λ n. n) (looks (step slots 0 0 0 O.none) (Free, []))
    looks_at slots k s law wide at near =
        let p = worker_at law.word law.manned law.home s.views k Free refl law.sides at in
        by_word p.0 p.1 p.2 p.3 p.4 (stopped_is law.word law.home p.0 p.3)
      where
        by_word : (d : View W) → s.views ≡ d ∷ Free ∷ [] → k ≡ 1 → Fits can made law.word law.home d Free
            → law.manned ≡ 1 → (law.word ≢ 3) ⊎ ((law.word ≡ 3) × (d ≡ Stopped) × (law.home ≡ O.none))
            → (v : View W) × (a : Act (Option W)) × Valid s.homes [] a
            × Law (stepped s 0 (slice_index s.words 0) k [] v a)
            × looks (step slots 0 0 0 O.none) (Free, []) (slice_index s.words 0) (v, carried_after [] a)
        by_word d vs one f m (inl q) = (
          Free,
          keeps,
          tt,
          record {
            word = law.word;
            manned = law.manned;
            home = law.home;
            words = first_same law.words;
            homes = law.homes;
            sides = subst (Sides can made law.word law.manned law.home) (sym (views_with Free d d vs one refl)) (f, m);
          },
          (λ n. refl, λ e. absurd (q (sym (first_word law.words) ∙ e))),
        )
        by_word d vs one f m (inr q) = (
          Gone,
          keeps,
          tt,
          record {
            word = law.word;
            manned = law.manned;
            home = law.home;
            words = first_same law.words;
            homes = law.homes;
            sides = subst (Sides can made law.word law.manned law.home)
                (sym (views_with Gone d Stopped vs one q.1)) ((q.0, q.2), m);
          },
          (λ n. absurd (n (first_word law.words ∙ q.0)), λ e. refl),
        )

    works_is : (n : ℕ) (h : O.Option (Option W)) (d : View W) (x : W) → Fits can made n h d (Works x) → d ≡ Sent x
    works_is n h (Sent y) x f = ap Sent (sym f.2)
    works_is n h Whole x f = absurd f
    works_is n h Both x f = absurd f
    works_is n h Unmanned x f = absurd f
    works_is n h Idle x f = absurd f
    works_is n h Stopped x f = absurd f
    works_is n h Away x f = absurd f
    works_is n h Free x f = absurd f
    works_is n h (Works y) x f = absurd f
    works_is n h Gone x f = absurd f

    pub hands_back_it : (slots k : ℕ) (x y : W) → made x y
        → Allows Law slots k (Works x, (0, Some y) ∷ []) 0 (λ _. 2)
        (hands_back (step slots 0 2 0 O.none) (Works x, (0, Some y) ∷ []))
    hands_back_it slots k x y it s law wide at near =
        let p = worker_at law.word law.manned law.home s.views k (Works x) refl law.sides at in
        let d = works_is law.word law.home p.0 x p.3 in
        let views : slice_set s.views k Free ≡ Sent x ∷ Free ∷ [] =
        (λ i. slice_set (p.1 i) (p.2 i) Free) ∙ ap (λ b. b ∷ Free ∷ []) d in (
          Free,
          gives,
          tt,
          record {
            word = 2;
            manned = law.manned;
            home = O.some (Some y);
            words = ap (λ ws. slice_set ws 0 2) law.words;
            homes = ap (λ hs. slice_set hs 0 (O.some (Some y))) law.homes;
            sides = subst (Sides can made 2 law.manned (O.some (Some y))) (sym views) (inr (refl, (y, it, refl)), p.4);
          },
          refl,
        )

    -- what the dispatcher's look tells, where this job is out
    pub taken_back : (st : Step (Option W)) (n : ℕ) (x : W) (m m' : Me (Option W) (View W)) → m ≡ (Sent x, [])
        → takes_back can made st m n m'
        → (n ≢ 2 → m' ≡ (Sent x, [])) × (n ≡ 2 → (y : W) × made x y × (m' ≡ (Idle, (0, Some y) ∷ [])))
    taken_back st n x m m' e told =
        let t : takes_back can made st (Sent x, []) n m' =
        subst (λ (u : Me (Option W) (View W)). takes_back can made st u n m') e told in t

    -- a step that is allowed where the seat is known by other names
    pub allowed_at : (slots i : ℕ) (f : ℕ → ℕ) (st : Step (Option W))
        → (play : Step (Option W) → Me (Option W) (View W) → ℕ → Me (Option W) (View W) → Type 0)
        → (id known : ℕ) (me knows : Me (Option W) (View W)) → id ≡ known → me ≡ knows
        → Allows Law slots known knows i f (play st knows) → Allows Law slots id me i f (play st me)
    allowed_at slots i f st play id known me knows e m it =
        subst (λ (q : ℕ × Me (Option W) (View W)). Allows Law slots q.0 q.1 i f (play st q.1))
        (λ j. (sym e j, sym m j)) it
