-- Lists of lanes cut by hosts.
use Rattle.std.proofs.Common.{◌≡◌, ℕ, zero, suc, ◌≤◌, List, [], ◌∷◌, ◌++◌, length, take, drop, sym, refl, ap, ◌∙◌}
use Rattle.std.proofs.Common.{subst, arith}
use Rattle.std.specs.List.{AllZip}
use Rattle.flow_lock.specs.Steps.{HasAll}
use Rattle.flow_lock.specs.Orders.{Order}
use Rattle.flow_lock.specs.Plays.{IsOrdered, IsCounted}
use Rattle.flow_lock.specs.declared.view.View.{View}
use Rattle.core_worker.specs.Workers.{Common}
use Rattle.core_phase.specs.declared.lane.Lane.{Lane}
use Rattle.core_phase.specs.declared.hosts.HostPart.{HostPart}
use Rattle.core_phase.specs.Lanes.{IsIdle, MayPlay, IsReady, CanPlay, HasPlayed, Works}
use Rattle.core_phase.specs.Phases.{AreLent}
use Rattle.core_phase.specs.Hosts.{common_in, ByHosts, BetweenHosts, IsIdleHost, IsLentHost, back_in, IsReadyHost}
use Rattle.core_phase.specs.Hosts.{IsLearnedHost, IsHostPhase}
use Rattle.core_phase.proofs.Numbers.{Every, every, of_every, AreDone, are_done, can_play, done_ready, has_all}
use Rattle.core_phase.proofs.Numbers.{all_back, back_view, is_phase, idle_again}

-- ----- lists
pub zip_take : {X : Type 0} (R : X → X → Type 0) (n : ℕ) (xs ys : List X) → AllZip R xs ys
    → AllZip R (take n xs) (take n ys)
zip_take R zero xs ys z = tt
zip_take R (suc n) [] [] z = tt
zip_take R (suc n) [] (y ∷ ys) z = absurd z
zip_take R (suc n) (x ∷ xs) [] z = absurd z
zip_take R (suc n) (x ∷ xs) (y ∷ ys) z = (z.0, zip_take R n xs ys z.1)

pub zip_drop : {X : Type 0} (R : X → X → Type 0) (n : ℕ) (xs ys : List X) → AllZip R xs ys
    → AllZip R (drop n xs) (drop n ys)
zip_drop R zero xs ys z = z
zip_drop R (suc n) [] [] z = tt
zip_drop R (suc n) [] (y ∷ ys) z = absurd z
zip_drop R (suc n) (x ∷ xs) [] z = absurd z
zip_drop R (suc n) (x ∷ xs) (y ∷ ys) z = zip_drop R n xs ys z.1

pub zip_length : {X : Type 0} (R : X → X → Type 0) (xs ys : List X) → AllZip R xs ys → length ys ≡ length xs
zip_length R [] [] z = refl
zip_length R [] (y ∷ ys) z = absurd z
zip_length R (x ∷ xs) [] z = absurd z
zip_length R (x ∷ xs) (y ∷ ys) z = ap suc (zip_length R xs ys z.1)

every_take : {X : Type 0} (P : X → Type 0) (n : ℕ) (xs : List X) → Every P xs → Every P (take n xs)
every_take P zero xs e = tt
every_take P (suc n) [] e = tt
every_take P (suc n) (x ∷ xs) e = (e.0, every_take P n xs e.1)

every_drop : {X : Type 0} (P : X → Type 0) (n : ℕ) (xs : List X) → Every P xs → Every P (drop n xs)
every_drop P zero xs e = e
every_drop P (suc n) [] e = tt
every_drop P (suc n) (x ∷ xs) e = every_drop P n xs e.1

every_cut : {X : Type 0} (P : X → Type 0) (n : ℕ) (xs : List X) → Every P (take n xs) → Every P (drop n xs) → Every P xs
every_cut P zero xs a b = b
every_cut P (suc n) [] a b = tt
every_cut P (suc n) (x ∷ xs) a b = (a.0, every_cut P n xs a.1 b)

drop_length : {X : Type 0} (n : ℕ) (xs ys : List X) → length xs ≡ length ys → length (drop n xs) ≡ length (drop n ys)
drop_length zero xs ys e = e
drop_length (suc n) [] [] e = refl
drop_length (suc n) [] (y ∷ ys) e = absurd (omega arith)
drop_length (suc n) (x ∷ xs) [] e = absurd (omega arith)
drop_length (suc n) (x ∷ xs) (y ∷ ys) e = drop_length n xs ys (omega arith)

take_front : {X : Type 0} (n : ℕ) (xs ys : List X) → length xs ≡ n → take n (xs ++ ys) ≡ xs
take_front zero [] ys e = refl
take_front zero (x ∷ xs) ys e = absurd (omega arith)
take_front (suc n) [] ys e = absurd (omega arith)
take_front (suc n) (x ∷ xs) ys e = ap (λ l. x ∷ l) (take_front n xs ys (omega arith))

drop_front : {X : Type 0} (n : ℕ) (xs ys : List X) → length xs ≡ n → drop n (xs ++ ys) ≡ ys
drop_front zero [] ys e = refl
drop_front zero (x ∷ xs) ys e = absurd (omega arith)
drop_front (suc n) [] ys e = absurd (omega arith)
drop_front (suc n) (x ∷ xs) ys e = drop_front n xs ys (omega arith)

-- ----- one host more
pub between_more : (P : HostPart → HostPart → List Lane → List Lane → Type 0) (h g : HostPart) (hs gs : List HostPart)
    (ls a b : List Lane) → length a ≡ h.lanes → P h g (take h.lanes ls) a → BetweenHosts P hs gs (drop h.lanes ls) b
    → BetweenHosts P (h ∷ hs) (g ∷ gs) ls (a ++ b)
between_more P h g hs gs ls a b n one more = (
  subst (P h g (take h.lanes ls)) (sym (take_front h.lanes a b n)) one,
  subst (BetweenHosts P hs gs (drop h.lanes ls)) (sym (drop_front h.lanes a b n)) more,
)

-- ----- before the lanes play
pub all_can : (hs gs : List HostPart) (vs ls : List Lane) → ByHosts IsIdleHost hs vs → Every MayPlay vs
    → BetweenHosts IsLentHost hs gs vs ls → Every CanPlay ls
all_can [] gs vs ls idle may lent = subst (Every CanPlay) (sym lent.1) tt
all_can (h ∷ hs) [] vs ls idle may lent = absurd lent
all_can (h ∷ hs) (g ∷ gs) vs ls idle may lent =
    let n : ℕ = h.lanes in
    every_cut CanPlay n ls
    (can_play (common_in h) h.slow.view.made (take n vs) (take n ls)
    (every (IsIdle (common_in h)) (take n vs) idle.1.lanes) (every_take MayPlay n vs may) lent.0.lent)
    (all_can hs gs (drop n vs) (drop n ls) idle.2 (every_drop MayPlay n vs may) lent.1)

-- ----- one host's part
done_in : (h g : HostPart) (vs ls ms : List Lane) → IsIdleHost h vs → IsLentHost h g vs ls → AllZip HasPlayed ls ms
    → Every Works ms → AreDone (common_in h) 0 vs ms
done_in h g vs ls ms idle lent did fine =
    are_done (common_in h) 0 vs ls ms (every (IsIdle (common_in h)) vs idle.lanes)
    (subst (λ k. AreLent k vs ls) idle.alone.2 lent.lent) did fine

-- the view with all turns back
backed : (h g : HostPart) (vs ls ms : List Lane) → IsIdleHost h vs → IsLentHost h g vs ls
    → back_in g ms ≡ all_back h.slow.view (length vs) ms
backed h g vs ls ms idle lent =
    back_view h.slow.view (back_in g ms) (length vs) ms idle.alone (ap (λ x. back_in x ms) lent.slow)

ready_in : (h g : HostPart) (vs ls ms : List Lane) → IsIdleHost h vs → IsLentHost h g vs ls → AllZip HasPlayed ls ms
    → Every Works ms → IsReadyHost g ms
ready_in h g vs ls ms idle lent did fine =
    let done = done_in h g vs ls ms idle lent did fine in
    let common : common_in g ≡ common_in h = ap common_in lent.slow in
    record {
      table = ap (λ (x : HostPart). x.slow.table) lent.slow ∙ (idle.table ∙ ap (λ (x : Common). x.table) (sym common));
      baton = ap (λ (x : HostPart). x.slow.view.baton) lent.slow ∙ idle.alone.0;
      all = subst HasAll (sym (backed h g vs ls ms idle lent)) (has_all (common_in h) h.slow.view vs ms done);
      lanes = of_every (IsReady (common_in g)) ms
          (subst (λ c. Every (IsReady c) ms) (sym common) (done_ready (common_in h) 0 vs ms done));
    }

phase_in : (h g k : HostPart) (vs ls ms ws : List Lane) → IsIdleHost h vs → IsLentHost h g vs ls
    → AllZip HasPlayed ls ms → Every Works ms → IsLearnedHost g k ms ws → IsHostPhase h k vs ws
phase_in h g k vs ls ms ws idle lent did fine told =
    let done = done_in h g vs ls ms idle lent did fine in
    let view = backed h g vs ls ms idle lent in
    record {
      same = told.same
          ∙ ap (λ (x : HostPart). record x { slow = record (x.slow) { view = k.slow.view } }) lent.slow;
      phase = is_phase (common_in h) h.slow.view k.slow.view vs ms ws idle.alone done told.back
          (subst (λ (x : View). (order : Order) × IsOrdered order x k.slow.view) view told.order)
          (subst (λ (x : View). IsCounted x k.slow.view) view told.words);
    }

-- the host is idle again
idle_in : (h g k : HostPart) (vs ls ms ws : List Lane) → IsIdleHost h vs → IsLentHost h g vs ls
    → AllZip HasPlayed ls ms → Every Works ms → IsLearnedHost g k ms ws → IsIdleHost k ws
idle_in h g k vs ls ms ws idle lent did fine told =
    let done = done_in h g vs ls ms idle lent did fine in
    let p = phase_in h g k vs ls ms ws idle lent did fine told in
    let common : common_in k ≡ common_in h = ap common_in p.same in
    let known = p.phase.known in
    record {
      table = ap (λ (x : HostPart). x.slow.table) p.same ∙ (idle.table ∙ ap (λ (x : Common). x.table) (sym common));
      alone = (
        ap (λ (x : View). x.baton) known ∙ idle.alone.0,
        ap (λ (x : View). x.turns) known ∙ idle.alone.1,
        ap (λ (x : View). x.made) known ∙ idle.alone.2,
      );
      lanes = of_every (IsIdle (common_in k)) ws
          (subst (λ c. Every (IsIdle c) ws) (sym common)
          (idle_again (common_in h) ms ws (done_ready (common_in h) 0 vs ms done) told.back));
    }

lanes_same : (h g : HostPart) (vs ls : List Lane) → IsLentHost h g vs ls → g.lanes ≡ h.lanes
lanes_same h g vs ls lent = ap (λ (x : HostPart). x.lanes) lent.slow

-- ----- all hosts
pub all_ready : (hs gs : List HostPart) (vs ls ms : List Lane) → length ls ≡ length vs → ByHosts IsIdleHost hs vs
    → BetweenHosts IsLentHost hs gs vs ls → AllZip HasPlayed ls ms → Every Works ms → ByHosts IsReadyHost gs ms
all_ready [] gs vs ls ms len idle lent did fine =
    subst (λ xs. ByHosts IsReadyHost xs ms) (sym lent.0) (none ms (zip_length HasPlayed ls ms did ∙ ap length lent.1))
  where
    none : (xs : List Lane) → length xs ≡ 0 → xs ≡ []
    none [] e = refl
    none (x ∷ xs) e = absurd (omega arith)
all_ready (h ∷ hs) [] vs ls ms len idle lent did fine = absurd lent
all_ready (h ∷ hs) (g ∷ gs) vs ls ms len idle lent did fine =
    let n : ℕ = h.lanes in
    let same : g.lanes ≡ n = lanes_same h g (take n vs) (take n ls) lent.0 in
    let long = zip_length HasPlayed ls ms did in
    let near : n ≤ length vs = idle.0 in
    subst (λ k. (k ≤ length ms) × IsReadyHost g (take k ms) × ByHosts IsReadyHost gs (drop k ms)) (sym same) (
      omega arith,
      ready_in h g (take n vs) (take n ls) (take n ms) idle.1 lent.0 (zip_take HasPlayed n ls ms did)
          (every_take Works n ms fine),
      all_ready hs gs (drop n vs) (drop n ls) (drop n ms) (drop_length n ls vs len) idle.2 lent.1
          (zip_drop HasPlayed n ls ms did) (every_drop Works n ms fine),
    )

-- the lists of a learned host, by the number of lanes that it had
learned_as : (g k : HostPart) (gs ks : List HostPart) (ms ws : List Lane) (n : ℕ) → g.lanes ≡ n
    → BetweenHosts IsLearnedHost (g ∷ gs) (k ∷ ks) ms ws
    → IsLearnedHost g k (take n ms) (take n ws) × BetweenHosts IsLearnedHost gs ks (drop n ms) (drop n ws)
learned_as g k gs ks ms ws n same told =
    subst (λ j. IsLearnedHost g k (take j ms) (take j ws) × BetweenHosts IsLearnedHost gs ks (drop j ms) (drop j ws))
    same told

pub all_phases : (hs gs ks : List HostPart) (vs ls ms ws : List Lane) → ByHosts IsIdleHost hs vs
    → BetweenHosts IsLentHost hs gs vs ls → AllZip HasPlayed ls ms → Every Works ms
    → BetweenHosts IsLearnedHost gs ks ms ws → BetweenHosts IsHostPhase hs ks vs ws
all_phases [] gs ks vs ls ms ws idle lent did fine told =
    subst (λ xs. BetweenHosts IsLearnedHost xs ks ms ws) lent.0 told
all_phases (h ∷ hs) [] ks vs ls ms ws idle lent did fine told = absurd lent
all_phases (h ∷ hs) (g ∷ gs) [] vs ls ms ws idle lent did fine told = absurd told
all_phases (h ∷ hs) (g ∷ gs) (k ∷ ks) vs ls ms ws idle lent did fine told =
    let n : ℕ = h.lanes in
    let t = learned_as g k gs ks ms ws n (lanes_same h g (take n vs) (take n ls) lent.0) told in (
      phase_in h g k (take n vs) (take n ls) (take n ms) (take n ws) idle.1 lent.0 (zip_take HasPlayed n ls ms did)
          (every_take Works n ms fine) t.0,
      all_phases hs gs ks (drop n vs) (drop n ls) (drop n ms) (drop n ws) idle.2 lent.1 (zip_drop HasPlayed n ls ms did)
          (every_drop Works n ms fine) t.1,
    )

pub all_idle : (hs gs ks : List HostPart) (vs ls ms ws : List Lane) → length ws ≡ length vs → ByHosts IsIdleHost hs vs
    → BetweenHosts IsLentHost hs gs vs ls → AllZip HasPlayed ls ms → Every Works ms
    → BetweenHosts IsLearnedHost gs ks ms ws → ByHosts IsIdleHost ks ws
all_idle [] gs ks vs ls ms ws len idle lent did fine told =
    let t : BetweenHosts IsLearnedHost [] ks ms ws = subst (λ xs. BetweenHosts IsLearnedHost xs ks ms ws) lent.0 told in
    subst (λ xs. ByHosts IsIdleHost xs ws) (sym t.0) t.1
all_idle (h ∷ hs) [] ks vs ls ms ws len idle lent did fine told = absurd lent
all_idle (h ∷ hs) (g ∷ gs) [] vs ls ms ws len idle lent did fine told = absurd told
all_idle (h ∷ hs) (g ∷ gs) (k ∷ ks) vs ls ms ws len idle lent did fine told =
    let n : ℕ = h.lanes in
    let t = learned_as g k gs ks ms ws n (lanes_same h g (take n vs) (take n ls) lent.0) told in
    let did' = zip_take HasPlayed n ls ms did in
    let fine' = every_take Works n ms fine in
    let p = phase_in h g k (take n vs) (take n ls) (take n ms) (take n ws) idle.1 lent.0 did' fine' t.0 in
    let same : k.lanes ≡ n = ap (λ (x : HostPart). x.lanes) p.same in
    let near : n ≤ length vs = idle.0 in
    subst (λ j. (j ≤ length ws) × IsIdleHost k (take j ws) × ByHosts IsIdleHost ks (drop j ws)) (sym same) (
      omega arith,
      idle_in h g k (take n vs) (take n ls) (take n ms) (take n ws) idle.1 lent.0 did' fine' t.0,
      all_idle hs gs ks (drop n vs) (drop n ls) (drop n ms) (drop n ws) (drop_length n ws vs len) idle.2 lent.1
          (zip_drop HasPlayed n ls ms did) (every_drop Works n ms fine) t.1,
    )
