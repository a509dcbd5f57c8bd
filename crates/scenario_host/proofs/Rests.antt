-- Turns of scripts that rest are counted, and not made: what is left is as if they were made one by one.
use Rattle.std.proofs.Common.{◌≡◌, ◌<◌, ◌≤◌, ◌+◌, ◌==◌, ℕ, zero, suc, Bool, true, false, List, [], ◌∷◌, ◌++◌}
use Rattle.std.proofs.Common.{length, drop, set, slice_get, Option, Some, None, unwrap_or, refl, sym, ap, subst}
use Rattle.std.proofs.Common.{◌∙◌, ◌&&◌, arith, length-append}
use Rattle.std.specs.List.{list_all}
use Rattle.std.proofs.lemmas.Bool.Decides.{nat_tests}
use Rattle.tas_model.specs.declared.entry.HostParams.{HostParams}
use Rattle.host_rounds.specs.Hosts.{Host, Starts}
use Rattle.host_rounds.specs.Scripts.{Site}
use Rattle.scenario_text.specs.declared.scenario.Step.{Step}
use Rattle.scenario_text.specs.declared.scenario.Step.TheVariants as steps
use Rattle.scenario_runs.specs.Applications.{Bound, Script, has_ended, turn}
use Rattle.scenario_host.specs.declared.resting.AppScripts.{AppScripts}
use Rattle.scenario_host.specs.Resting.{waited, rested, IsLongerThan, MayRest, seen, AreResting, awake_from}
use Rattle.scenario_host.specs.Resting.{scripts_in, AreKept}
use Rattle.scenario_host.specs.Sound.{IsFit, IsSound}
use Rattle.scenario_host.specs.Turns.{turn_of, site_with}
use Rattle.scenario_host.proofs.Walking.{Walks, walks_start, walks_more, walks_end, asked_all, numbers_in, each_at}

-- ----- one script
longer_less : (left : List Step) (fewer more : ℕ) → fewer ≤ more → IsLongerThan left more → IsLongerThan left fewer
longer_less [] fewer more less longer = tt
longer_less (steps.Wait ticks ∷ rest) fewer more less longer = omega (arith, less, longer)
longer_less (step ∷ rest) fewer more less longer = absurd (longer)

pub rests_less : (fewer more : ℕ) (s : Script) → fewer ≤ more → MayRest more s → MayRest fewer s
rests_less fewer more s less may = record {
  spared = may.spared;
  waits = longer_less s.left (s.done + fewer) (s.done + more) (omega (arith, less)) may.waits;
}

pub rested_none : (s : Script) → rested 0 s ≡ s
rested_none s = ap (λ (d : ℕ). record s { done = d }) (by_left s.left) where
  by_left : (left : List Step) → waited left 0 s.done ≡ s.done
  by_left [] = refl
  by_left (step ∷ rest) = omega arith

-- The turn of a script that rests is counted.
pub rest_turn : (starts : Starts) (address : List ℕ → ℕ) (t n turns : ℕ) (host : Host) (s : Script)
    → MayRest turns s → n < turns
    → turn_of host (rested (suc n) s) ≡ turn starts address t (turn_of host (rested n s))
rest_turn starts address t n turns host s may below =
    by_left s.number s.kill s.left s.done s.begun s.names may.spared may.waits
  where
    by_left : (number : ℕ) (kill : Option ℕ) (left : List Step) (done : ℕ) (begun : Bool)
        (names : List (List ℕ × Bound)) → kill ≡ None → IsLongerThan left (done + turns)
        → turn_of host (rested (suc n) (record {
          number = number;
          kill = kill;
          left = left;
          done = done;
          begun = begun;
          names = names;
        })) ≡ turn starts address t (turn_of host (rested n (record {
          number = number;
          kill = kill;
          left = left;
          done = done;
          begun = begun;
          names = names;
        })))
    by_left number (Some at) left done begun names spared longer = absurd (cc (spared))
    by_left number None [] done begun names spared longer = refl
    by_left number None (steps.Wait ticks ∷ rest) done begun names spared longer =
        let under : ((done + n) + 1 == ticks) ≡ false = grind (arith, nat_tests, longer, below) in
        let next : done + suc n ≡ (done + n) + 1 = omega arith in
        rw under (ap (λ (d : ℕ). turn_of host (record {
          number = number;
          kill = None;
          left = steps.Wait ticks ∷ rest;
          done = d;
          begun = begun;
          names = names;
        })) next)
    by_left number None (step ∷ rest) done begun names spared longer = absurd (longer)

-- ----- scripts of which those before a place rested for other turns
abbrev pub both : (before later place : ℕ) → List Bool → List Script → List Script
both m n zero bs ss = seen n bs ss
both m n (suc p) [] ss = ss
both m n (suc p) (b ∷ bs) [] = []
both m n (suc p) (true ∷ bs) (s ∷ ss) = rested m s ∷ both m n p bs ss
both m n (suc p) (false ∷ bs) (s ∷ ss) = s ∷ both m n p bs ss

abbrev pub is_asleep : List Bool → (place : ℕ) → Bool
is_asleep bs p = unwrap_or (slice_get bs p) false

pub seen_none : (bs : List Bool) (ss : List Script) → seen 0 bs ss ≡ ss
seen_none [] ss = refl
seen_none (b ∷ bs) [] = refl
seen_none (true ∷ bs) (s ∷ ss) =
    ap (λ (r : Script). r ∷ seen 0 bs ss) (rested_none s) ∙ ap (λ (rs : List Script). s ∷ rs) (seen_none bs ss)
seen_none (false ∷ bs) (s ∷ ss) = ap (λ (rs : List Script). s ∷ rs) (seen_none bs ss)

pub both_all : (m n p : ℕ) (bs : List Bool) (ss : List Script) → length ss ≤ p → both m n p bs ss ≡ seen m bs ss
both_all m n zero [] ss past = refl
both_all m n zero (b ∷ bs) [] past = refl
both_all m n zero (b ∷ bs) (s ∷ ss) past = absurd (omega (arith, past))
both_all m n (suc p) [] ss past = refl
both_all m n (suc p) (b ∷ bs) [] past = refl
both_all m n (suc p) (true ∷ bs) (s ∷ ss) past =
    ap (λ (rs : List Script). rested m s ∷ rs) (both_all m n p bs ss (omega (arith, past)))
both_all m n (suc p) (false ∷ bs) (s ∷ ss) past =
    ap (λ (rs : List Script). s ∷ rs) (both_all m n p bs ss (omega (arith, past)))

-- the script at the place itself, where the later ones did not rest
pub both_here : (m p : ℕ) (bs : List Bool) (ss : List Script) → slice_get (both m 0 p bs ss) p ≡ slice_get ss p
both_here m zero bs ss = ap (λ (rs : List Script). slice_get rs 0) (seen_none bs ss)
both_here m (suc p) [] ss = refl
both_here m (suc p) (b ∷ bs) [] = refl
both_here m (suc p) (true ∷ bs) (s ∷ ss) = both_here m p bs ss
both_here m (suc p) (false ∷ bs) (s ∷ ss) = both_here m p bs ss

-- a sleeper at the place
pub asleep_get : (m n p : ℕ) (bs : List Bool) (ss : List Script) (s : Script) → is_asleep bs p ≡ true
    → slice_get ss p ≡ Some s → slice_get (both m n p bs ss) p ≡ Some (rested n s)
asleep_get m n p [] ss s sleeps here = absurd (cc (sleeps))
asleep_get m n p (b ∷ bs) [] s sleeps here = absurd (cc (here))
asleep_get m n zero (true ∷ bs) (r ∷ rs) s sleeps here =
    let same : r ≡ s = cc (here) in ap (λ (x : Script). Some (rested n x)) same
asleep_get m n zero (false ∷ bs) (r ∷ rs) s sleeps here = absurd (cc (sleeps))
asleep_get m n (suc p) (true ∷ bs) (r ∷ rs) s sleeps here = asleep_get m n p bs rs s sleeps here
asleep_get m n (suc p) (false ∷ bs) (r ∷ rs) s sleeps here = asleep_get m n p bs rs s sleeps here

pub asleep_set : (m n p : ℕ) (bs : List Bool) (ss : List Script) (s : Script) → is_asleep bs p ≡ true
    → slice_get ss p ≡ Some s → set (both m n p bs ss) p (rested m s) ≡ both m n (suc p) bs ss
asleep_set m n p [] ss s sleeps here = absurd (cc (sleeps))
asleep_set m n p (b ∷ bs) [] s sleeps here = absurd (cc (here))
asleep_set m n zero (true ∷ bs) (r ∷ rs) s sleeps here =
    let same : s ≡ r = cc (here) in ap (λ (x : Script). rested m x ∷ seen n bs rs) same
asleep_set m n zero (false ∷ bs) (r ∷ rs) s sleeps here = absurd (cc (sleeps))
asleep_set m n (suc p) (true ∷ bs) (r ∷ rs) s sleeps here =
    ap (λ (xs : List Script). rested m r ∷ xs) (asleep_set m n p bs rs s sleeps here)
asleep_set m n (suc p) (false ∷ bs) (r ∷ rs) s sleeps here =
    ap (λ (xs : List Script). r ∷ xs) (asleep_set m n p bs rs s sleeps here)

-- one that is awake there
pub awake_get : (m n p : ℕ) (bs : List Bool) (ss : List Script) → is_asleep bs p ≡ false
    → slice_get (both m n p bs ss) p ≡ slice_get ss p
awake_get m n zero [] ss wakes = refl
awake_get m n (suc p) [] ss wakes = refl
awake_get m n zero (b ∷ bs) [] wakes = refl
awake_get m n (suc p) (b ∷ bs) [] wakes = refl
awake_get m n zero (true ∷ bs) (r ∷ rs) wakes = absurd (cc (wakes))
awake_get m n zero (false ∷ bs) (r ∷ rs) wakes = refl
awake_get m n (suc p) (true ∷ bs) (r ∷ rs) wakes = awake_get m n p bs rs wakes
awake_get m n (suc p) (false ∷ bs) (r ∷ rs) wakes = awake_get m n p bs rs wakes

pub awake_set : (m n p : ℕ) (bs : List Bool) (ss : List Script) (y : Script) → is_asleep bs p ≡ false
    → set (both m n p bs ss) p y ≡ both m n (suc p) bs (set ss p y)
awake_set m n zero [] ss y wakes = refl
awake_set m n (suc p) [] ss y wakes = refl
awake_set m n zero (b ∷ bs) [] y wakes = refl
awake_set m n (suc p) (b ∷ bs) [] y wakes = refl
awake_set m n zero (true ∷ bs) (r ∷ rs) y wakes = absurd (cc (wakes))
awake_set m n zero (false ∷ bs) (r ∷ rs) y wakes = refl
awake_set m n (suc p) (true ∷ bs) (r ∷ rs) y wakes =
    ap (λ (xs : List Script). rested m r ∷ xs) (awake_set m n p bs rs y wakes)
awake_set m n (suc p) (false ∷ bs) (r ∷ rs) y wakes =
    ap (λ (xs : List Script). r ∷ xs) (awake_set m n p bs rs y wakes)

pub awake_past : (m n p : ℕ) (bs : List Bool) (ss : List Script) → is_asleep bs p ≡ false
    → both m n p bs ss ≡ both m n (suc p) bs ss
awake_past m n zero [] ss wakes = refl
awake_past m n (suc p) [] ss wakes = refl
awake_past m n zero (b ∷ bs) [] wakes = refl
awake_past m n (suc p) (b ∷ bs) [] wakes = refl
awake_past m n zero (true ∷ bs) (r ∷ rs) wakes = absurd (cc (wakes))
awake_past m n zero (false ∷ bs) (r ∷ rs) wakes = refl
awake_past m n (suc p) (true ∷ bs) (r ∷ rs) wakes =
    ap (λ (xs : List Script). rested m r ∷ xs) (awake_past m n p bs rs wakes)
awake_past m n (suc p) (false ∷ bs) (r ∷ rs) wakes =
    ap (λ (xs : List Script). r ∷ xs) (awake_past m n p bs rs wakes)

-- ----- all that rest
pub resting_at : (turns p : ℕ) (bs : List Bool) (ss : List Script) (s : Script) → AreResting turns bs ss
    → is_asleep bs p ≡ true → slice_get ss p ≡ Some s → MayRest turns s
resting_at turns p [] ss s are sleeps here = absurd (cc (sleeps))
resting_at turns p (b ∷ bs) [] s are sleeps here = absurd (cc (here))
resting_at turns zero (true ∷ bs) (r ∷ rs) s are sleeps here =
    let same : r ≡ s = cc (here) in subst (MayRest turns) same are.0
resting_at turns zero (false ∷ bs) (r ∷ rs) s are sleeps here = absurd (cc (sleeps))
resting_at turns (suc p) (true ∷ bs) (r ∷ rs) s are sleeps here = resting_at turns p bs rs s are.1 sleeps here
resting_at turns (suc p) (false ∷ bs) (r ∷ rs) s are sleeps here = resting_at turns p bs rs s are sleeps here

pub resting_set : (turns p : ℕ) (bs : List Bool) (ss : List Script) (y : Script) → AreResting turns bs ss
    → is_asleep bs p ≡ false → AreResting turns bs (set ss p y)
resting_set turns p [] ss y are wakes = tt
resting_set turns p (b ∷ bs) [] y are wakes = tt
resting_set turns zero (true ∷ bs) (r ∷ rs) y are wakes = absurd (cc (wakes))
resting_set turns zero (false ∷ bs) (r ∷ rs) y are wakes = are
resting_set turns (suc p) (true ∷ bs) (r ∷ rs) y are wakes = (are.0, resting_set turns p bs rs y are.1 wakes)
resting_set turns (suc p) (false ∷ bs) (r ∷ rs) y are wakes = resting_set turns p bs rs y are wakes

pub resting_less : (fewer more : ℕ) (bs : List Bool) (ss : List Script) → fewer ≤ more → AreResting more bs ss
    → AreResting fewer bs ss
resting_less fewer more [] ss less are = tt
resting_less fewer more (b ∷ bs) [] less are = tt
resting_less fewer more (true ∷ bs) (s ∷ ss) less are =
    (rests_less fewer more s less are.0, resting_less fewer more bs ss less are.1)
resting_less fewer more (false ∷ bs) (s ∷ ss) less are = resting_less fewer more bs ss less are

-- one more mark
pub resting_more : (turns : ℕ) (b : Bool) (bs : List Bool) (ss : List Script) (s : Script) → AreResting turns bs ss
    → slice_get ss (length bs) ≡ Some s → (b ≡ true → MayRest turns s) → AreResting turns (bs ++ b ∷ []) ss
resting_more turns b [] [] s are here may = tt
resting_more turns true [] (r ∷ rs) s are here may =
    let same : s ≡ r = cc (here) in (subst (MayRest turns) same (may refl), tt)
resting_more turns false [] (r ∷ rs) s are here may = tt
resting_more turns b (c ∷ bs) [] s are here may = tt
resting_more turns b (true ∷ bs) (r ∷ rs) s are here may = (are.0, resting_more turns b bs rs s are.1 here may)
resting_more turns b (false ∷ bs) (r ∷ rs) s are here may = resting_more turns b bs rs s are here may

pub places_asleep : (i : ℕ) (bs : List Bool) → awake_from i (bs ++ true ∷ []) ≡ awake_from i bs
places_asleep i [] = refl
places_asleep i (true ∷ bs) = places_asleep (suc i) bs
places_asleep i (false ∷ bs) = ap (λ (ps : List ℕ). i ∷ ps) (places_asleep (suc i) bs)

pub places_awake : (i : ℕ) (bs : List Bool) → awake_from i (bs ++ false ∷ []) ≡ awake_from i bs ++ (i + length bs) ∷ []
places_awake i [] = ap (λ (k : ℕ). k ∷ []) (omega arith)
places_awake i (true ∷ bs) =
    places_awake (suc i) bs ∙ ap (λ (k : ℕ). awake_from (suc i) bs ++ k ∷ []) (omega arith)
places_awake i (false ∷ bs) =
    ap (λ (ps : List ℕ). i ∷ ps)
    (places_awake (suc i) bs ∙ ap (λ (k : ℕ). awake_from (suc i) bs ++ k ∷ []) (omega arith))

-- ----- marks from a place on
head_at : (p : ℕ) (bs ds : List Bool) (d : Bool) → drop p bs ≡ d ∷ ds → slice_get bs p ≡ Some d
head_at zero [] ds d are = absurd (cc (are))
head_at zero (b ∷ bs) ds d are = let same : b ≡ d = cc (are) in ap Some same
head_at (suc p) [] ds d are = absurd (cc (are))
head_at (suc p) (b ∷ bs) ds d are = head_at p bs ds d are

rest_at : (p : ℕ) (bs ds : List Bool) (d : Bool) → drop p bs ≡ d ∷ ds → drop (suc p) bs ≡ ds
rest_at zero [] ds d are = absurd (cc (are))
rest_at zero (b ∷ bs) ds d are = cc (are)
rest_at (suc p) [] ds d are = absurd (cc (are))
rest_at (suc p) (b ∷ bs) ds d are = rest_at p bs ds d are

below_at : (p : ℕ) (bs : List Bool) (d : Bool) → slice_get bs p ≡ Some d → p < length bs
below_at p [] d here = absurd (cc (here))
below_at zero (b ∷ bs) d here = omega arith
below_at (suc p) (b ∷ bs) d here = let below : p < length bs = below_at p bs d here in omega (arith, below)

past_at : (p : ℕ) (bs : List Bool) → drop p bs ≡ [] → length bs ≤ p
past_at p [] are = omega arith
past_at zero (b ∷ bs) are = absurd (cc (are))
past_at (suc p) (b ∷ bs) are = let past : length bs ≤ p = past_at p bs are in omega (arith, past)

some_at : (ss : List Script) (p : ℕ) → p < length ss → (s : Script) × (slice_get ss p ≡ Some s)
some_at [] p below = absurd (omega (arith, below))
some_at (s ∷ ss) zero below = (s, refl)
some_at (s ∷ ss) (suc p) below = some_at ss p (omega (arith, below))

-- ----- a walk over those that are awake
-- The scripts before this place had their turns, some of which were counted alone; of the others these are awake.
pub record Turning (starts : Starts) (address : List ℕ → ℕ) (t n turns p : ℕ) (bs : List Bool)
    (start : Site (List Script)) (left : List ℕ) (host : Host) (ss : List Script) : Type 0 where
  pub walks : Walks starts address t p start host (both (suc n) n p bs ss)
  pub awake : left ≡ awake_from p (drop p bs)
  pub resting : AreResting turns bs ss
  pub marks : length bs ≡ length ss

-- the turn of a sleeper is counted
one_rests : (starts : Starts) (address : List ℕ → ℕ) (t n turns p : ℕ) (bs ds : List Bool)
    (start : Site (List Script)) (left : List ℕ) (host : Host) (ss : List Script) → n < turns
    → drop p bs ≡ true ∷ ds → Turning starts address t n turns p bs start left host ss
    → Turning starts address t n turns (suc p) bs start left host ss
one_rests starts address t n turns p bs ds start left host ss below at turning =
    let here : slice_get bs p ≡ Some true = head_at p bs ds true at in
    let sleeps : is_asleep bs p ≡ true = ap (λ (o : Option Bool). unwrap_or o false) here in
    let within : p < length bs = below_at p bs true here in
    let some = some_at ss p (omega (arith, within, turning.marks)) in
    let s : Script = some.0 in
    let next : p + 1 ≡ suc p = omega arith in
    record {
      walks = subst (λ (q : ℕ). Walks starts address t q start host (both (suc n) n (suc p) bs ss)) next
          (subst (Walks starts address t (p + 1) start host) (asleep_set (suc n) n p bs ss s sleeps some.1)
          (walks_more starts address t p start host host (both (suc n) n p bs ss) (rested n s) (rested (suc n) s)
          turning.walks (asleep_get (suc n) n p bs ss s sleeps some.1)
          (rest_turn starts address t n turns host s (resting_at turns p bs ss s turning.resting sleeps some.1)
          below)));
      awake = turning.awake ∙ (ap (awake_from p) at ∙ ap (awake_from (suc p)) (sym (rest_at p bs ds true at)));
      resting = turning.resting;
      marks = turning.marks;
    }

-- those before the next that is awake
pub turning_to : (starts : Starts) (address : List ℕ → ℕ) (t n turns p q : ℕ) (bs ds : List Bool)
    (start : Site (List Script)) (left : List ℕ) (host : Host) (ss : List Script) → n < turns
    → drop p bs ≡ ds → Turning starts address t n turns p bs start (q ∷ left) host ss
    → Turning starts address t n turns q bs start (q ∷ left) host ss × (slice_get bs q ≡ Some false)
turning_to starts address t n turns p q bs [] start left host ss below at turning =
    absurd (cc (turning.awake, ap (awake_from p) at))
turning_to starts address t n turns p q bs (true ∷ ds) start left host ss below at turning =
    turning_to starts address t n turns (suc p) q bs ds start left host ss below (rest_at p bs ds true at)
    (one_rests starts address t n turns p bs ds start (q ∷ left) host ss below at turning)
turning_to starts address t n turns p q bs (false ∷ ds) start left host ss below at turning =
    let same : p ≡ q = cc (turning.awake, ap (awake_from p) at) in (
      subst (λ (k : ℕ). Turning starts address t n turns k bs start (q ∷ left) host ss) same turning,
      subst (λ (k : ℕ). slice_get bs k ≡ Some false) same (head_at p bs ds false at),
    )

-- and its turn
pub turning_on : (starts : Starts) (address : List ℕ → ℕ) (t n turns q : ℕ) (bs : List Bool)
    (start : Site (List Script)) (left : List ℕ) (host after : Host) (ss : List Script) (s y : Script)
    → Turning starts address t n turns q bs start (q ∷ left) host ss → slice_get bs q ≡ Some false
    → slice_get ss q ≡ Some s → turn_of after y ≡ turn starts address t (turn_of host s)
    → Turning starts address t n turns (suc q) bs start left after (set ss q y)
turning_on starts address t n turns q bs start left host after ss s y turning mark here made =
    let wakes : is_asleep bs q ≡ false = ap (λ (o : Option Bool). unwrap_or o false) mark in
    let next : q + 1 ≡ suc q = omega arith in
    record {
      walks = subst (λ (k : ℕ). Walks starts address t k start after (both (suc n) n (suc q) bs (set ss q y))) next
          (subst (Walks starts address t (q + 1) start after) (awake_set (suc n) n q bs ss y wakes)
          (walks_more starts address t q start host after (both (suc n) n q bs ss) s y turning.walks
          (awake_get (suc n) n q bs ss wakes ∙ here) made));
      awake = ap (drop 1) turning.awake ∙ by_marks q bs mark;
      resting = resting_set turns q bs ss y turning.resting wakes;
      marks = turning.marks ∙ sym (set_length q ss y);
    }
  where
    by_drop : (k i : ℕ) (cs : List Bool) → slice_get cs k ≡ Some false
        → drop 1 (awake_from i (drop k cs)) ≡ awake_from (suc i) (drop (suc k) cs)
    by_drop k i [] is = absurd (cc (is))
    by_drop zero i (true ∷ cs) is = absurd (cc (is))
    by_drop zero i (false ∷ cs) is = refl
    by_drop (suc k) i (c ∷ cs) is = by_drop k i cs is

    by_marks : (k : ℕ) (cs : List Bool) → slice_get cs k ≡ Some false
        → drop 1 (awake_from k (drop k cs)) ≡ awake_from (suc k) (drop (suc k) cs)
    by_marks k cs is = by_drop k k cs is

    set_length : (k : ℕ) (xs : List Script) (x : Script) → length (set xs k x) ≡ length xs
    set_length k [] x = refl
    set_length zero (z ∷ zs) x = refl
    set_length (suc k) (z ∷ zs) x = ap suc (set_length k zs x)

-- those behind the last that is awake
pub turning_past : (starts : Starts) (address : List ℕ → ℕ) (t n turns p : ℕ) (bs ds : List Bool)
    (start : Site (List Script)) (host : Host) (ss : List Script) → n < turns
    → drop p bs ≡ ds → Turning starts address t n turns p bs start [] host ss
    → (q : ℕ) × Turning starts address t n turns q bs start [] host ss × (length bs ≤ q)
turning_past starts address t n turns p bs [] start host ss below at turning = (p, turning, past_at p bs at)
turning_past starts address t n turns p bs (true ∷ ds) start host ss below at turning =
    turning_past starts address t n turns (suc p) bs ds start host ss below (rest_at p bs ds true at)
    (one_rests starts address t n turns p bs ds start [] host ss below at turning)
turning_past starts address t n turns p bs (false ∷ ds) start host ss below at turning =
    absurd (cc (turning.awake, ap (awake_from p) at))

-- ----- the walk of a turn
pub turning_start : (starts : Starts) (address : List ℕ → ℕ) (t : ℕ) (k : AppScripts) (host : Host)
    → IsSound (site_with host (scripts_in k)) → AreKept k → k.passed < k.turns
    → Turning starts address t k.passed k.turns 0 k.asleep.items (site_with host (scripts_in k)) k.awake.items host
    k.items.items
turning_start starts address t k host sound kept left = record {
  walks = walks_start starts address t (site_with host (scripts_in k)) sound.numbers sound.scripts;
  awake = (kept.marked left).places;
  resting = kept.resting;
  marks = (kept.marked left).marks;
}

drop_here : {X : Type 0} (xs : List X) (i : ℕ) (x : X) → slice_get xs i ≡ Some x → drop i xs ≡ x ∷ drop (suc i) xs
drop_here [] i x here = absurd (cc (here))
drop_here {X} (y ∷ ys) zero x here = let same : y ≡ x = cc (here) in ap (λ (z : X). z ∷ ys) same
drop_here (y ∷ ys) (suc i) x here = drop_here ys i x here

pub drop_end : (xs : List ℕ) (i : ℕ) → length xs ≤ i → drop i xs ≡ []
drop_end [] zero past = refl
drop_end [] (suc i) past = refl
drop_end (x ∷ xs) zero past = absurd (omega (arith, past))
drop_end (x ∷ xs) (suc i) past = drop_end xs i (omega (arith, past))

-- The walk is at this script, which is awake.
pub record IsNext (starts : Starts) (address : List ℕ → ℕ) (t n turns q : ℕ) (bs : List Bool)
    (start : Site (List Script)) (left : List ℕ) (host : Host) (ss : List Script) : Type 0 where
  pub walk : Turning starts address t n turns q bs start (q ∷ left) host ss
  pub mark : slice_get bs q ≡ Some false
  pub below : q < length ss

pub next_awake : (starts : Starts) (address : List ℕ → ℕ) (t n turns p k q : ℕ) (bs : List Bool)
    (start : Site (List Script)) (awake : List ℕ) (host : Host) (ss : List Script) → n < turns
    → slice_get awake k ≡ Some q → Turning starts address t n turns p bs start (drop k awake) host ss
    → IsNext starts address t n turns q bs start (drop (suc k) awake) host ss
next_awake starts address t n turns p k q bs start awake host ss below here turning =
    let to = turning_to starts address t n turns p q bs (drop p bs) start (drop (suc k) awake) host ss below refl
    (subst (λ (left : List ℕ). Turning starts address t n turns p bs start left host ss) (drop_here awake k q here)
    turning) in
    record {
      walk = to.0;
      mark = to.1;
      below = omega (arith, below_at q bs false to.1, turning.marks);
    }

pub next_fit : (starts : Starts) (address : List ℕ → ℕ) (t n turns q : ℕ) (bs : List Bool)
    (start : Site (List Script)) (left : List ℕ) (host : Host) (ss : List Script) (s : Script)
    → IsNext starts address t n turns q bs start left host ss → slice_get ss q ≡ Some s → IsFit (length host.flows) s
next_fit starts address t n turns q bs start left host ss s next here =
    each_at (IsFit (length host.flows)) (both (suc n) n q bs ss) q s next.walk.walks.fit
    (awake_get (suc n) n q bs ss (ap (λ (o : Option Bool). unwrap_or o false) next.mark) ∙ here)

-- ----- what is left of a turn of all
length_seen : (n : ℕ) (bs : List Bool) (ss : List Script) → length (seen n bs ss) ≡ length ss
length_seen n [] ss = refl
length_seen n (b ∷ bs) [] = refl
length_seen n (true ∷ bs) (s ∷ ss) = ap suc (length_seen n bs ss)
length_seen n (false ∷ bs) (s ∷ ss) = ap suc (length_seen n bs ss)

-- All had their turns, and the host is sound.
pub record Turned (starts : Starts) (address : List ℕ → ℕ) (t : ℕ) (start : Site (List Script)) (host : Host)
    (ss : List Script) : Type 0 where
  pub made : ◌≡◌ {A = Site (List Script)} (site_with host ss)
      (asked_all starts address t start (numbers_in start.scripts))
  pub params : host.params ≡ start.host.params
  pub sound : IsSound (site_with host ss)

pub turned : (starts : Starts) (address : List ℕ → ℕ) (t n turns p : ℕ) (bs : List Bool)
    (start : Site (List Script)) (host : Host) (ss : List Script) → IsSound start → n < turns
    → Turning starts address t n turns p bs start [] host ss
    → Turned starts address t start host (seen (n + 1) bs ss)
turned starts address t n turns p bs start host ss sound below turning =
    let end = turning_past starts address t n turns p bs (drop p bs) start host ss below refl turning in
    let q : ℕ = end.0 in
    let past : length ss ≤ q = omega (arith, end.2, (end.1).marks) in
    let next : suc n ≡ n + 1 = omega arith in
    let walks : Walks starts address t q start host (seen (n + 1) bs ss) =
    subst (λ (k : ℕ). Walks starts address t q start host (seen k bs ss)) next
    (subst (Walks starts address t q start host) (both_all (suc n) n q bs ss past) (end.1).walks) in
    record {
      made = walks_end starts address t q start host (seen (n + 1) bs ss) walks
          (omega (arith, past, length_seen (n + 1) bs ss));
      params = walks.lasts.params;
      sound = record {
        listens = ap (λ (p : HostParams). p.fixed) walks.lasts.params ∙ sound.listens;
        numbers = walks.rising;
        scripts = walks.fit;
      };
    }

-- what was looked at alone tells whether all have ended
pub seen_ended : (n : ℕ) (bs : List Bool) (ss : List Script)
    → list_all has_ended ss ≡ list_all has_ended (seen n bs ss)
seen_ended n [] ss = refl
seen_ended n (b ∷ bs) [] = refl
seen_ended n (true ∷ bs) (s ∷ ss) = ap (λ (e : Bool). has_ended s && e) (seen_ended n bs ss)
seen_ended n (false ∷ bs) (s ∷ ss) = ap (λ (e : Bool). has_ended s && e) (seen_ended n bs ss)

-- ----- marks that are gathered
-- So many scripts are marked, and those that are awake listed.
pub record Marking (turns k : ℕ) (bs : List Bool) (listed : List ℕ) (ss : List Script) : Type 0 where
  pub resting : AreResting turns bs ss
  pub some : 0 < turns
  pub count : length bs ≡ k
  pub places : listed ≡ awake_from 0 bs

pub marks_asleep : (turns rest next k : ℕ) (bs : List Bool) (places : List ℕ) (ss : List Script) (s : Script)
    → Marking turns k bs places ss → slice_get ss k ≡ Some s → MayRest rest s → 0 < next → next ≤ turns → next ≤ rest
    → Marking next (k + 1) (bs ++ true ∷ []) places ss
marks_asleep turns rest next k bs places ss s marking here may some first then = record {
  resting = resting_more next true bs ss s (resting_less next turns bs ss first marking.resting)
      (ap (slice_get ss) marking.count ∙ here) (λ is. rests_less next rest s then may);
  some = some;
  count = length-append bs (true ∷ []) ∙ ap (λ (n : ℕ). n + 1) marking.count;
  places = marking.places ∙ sym (places_asleep 0 bs);
}

pub marks_awake : (turns k : ℕ) (bs : List Bool) (places : List ℕ) (ss : List Script) (s : Script)
    → Marking turns k bs places ss → slice_get ss k ≡ Some s
    → Marking turns (k + 1) (bs ++ false ∷ []) (places ++ k ∷ []) ss
marks_awake turns k bs places ss s marking here =
    let at : k ≡ 0 + length bs = omega (arith, marking.count) in
    record {
      resting = resting_more turns false bs ss s marking.resting (ap (slice_get ss) marking.count ∙ here)
          (λ is. absurd (cc (is)));
      some = marking.some;
      count = length-append bs (false ∷ []) ∙ ap (λ (n : ℕ). n + 1) marking.count;
      places = ap (λ (ps : List ℕ). ps ++ k ∷ []) marking.places
          ∙ (ap (λ (n : ℕ). awake_from 0 bs ++ n ∷ []) at ∙ sym (places_awake 0 bs));
    }
