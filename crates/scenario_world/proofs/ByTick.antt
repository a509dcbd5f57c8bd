-- Frames by their ticks: what a tick adds to those that were sent.
use Rattle.std.proofs.Common.{◌≡◌, ℕ, ◌<◌, ◌≤◌, ◌||◌, Bool, true, false, cond, eqb, List, [], ◌∷◌, ◌++◌}
use Rattle.std.proofs.Common.{refl, sym, ap, ◌∙◌, subst, arith, append-nil, true≢false}
use Rattle.std.specs.List.{list_any}
use Rattle.std.proofs.lemmas.Bool.Decides.{nat_tests}
use Rattle.std.proofs.lemmas.List.Elements.{filter-append}
use Rattle.link_script.specs.declared.frames.Sent.{Sent}
use Rattle.sent_frames.specs.Sending.{of_tick}
use Rattle.scenario_world.specs.Playing.{FramesBefore}

same_tick : (n t : ℕ) → eqb n t ≡ true → n ≡ t
same_tick n t e = grind (arith, nat_tests, e)

-- ----- frames of a tick among them
twice : (t : ℕ) (fs : List Sent) → of_tick t (of_tick t fs) ≡ of_tick t fs
twice t [] = refl
twice t (f ∷ fs) = by_tick (eqb f.tick t) refl (twice t fs)
  where
    by_tick : (b : Bool) → eqb f.tick t ≡ b → of_tick t (of_tick t fs) ≡ of_tick t fs
        → of_tick t (cond b (f ∷ of_tick t fs) (of_tick t fs)) ≡ cond b (f ∷ of_tick t fs) (of_tick t fs)
    by_tick true e r = rw e (ap (λ gs. f ∷ gs) r)
    by_tick false e r = r

other : (t k : ℕ) (fs : List Sent) → eqb t k ≡ false → of_tick k (of_tick t fs) ≡ []
other t k [] h = refl
other t k (f ∷ fs) h = by_tick (eqb f.tick t) refl (other t k fs h)
  where
    by_tick : (b : Bool) → eqb f.tick t ≡ b → of_tick k (of_tick t fs) ≡ []
        → of_tick k (cond b (f ∷ of_tick t fs) (of_tick t fs)) ≡ []
    by_tick true e r =
        let apart : eqb f.tick k ≡ false = subst (λ n. eqb n k ≡ false) (sym (same_tick f.tick t e)) h in rw apart r
    by_tick false e r = r

pub none_at : (t : ℕ) (fs : List Sent) → FramesBefore t fs → of_tick t fs ≡ []
none_at t [] before = refl
none_at t (f ∷ fs) before =
    let here : f.tick < t = before.0 in
    let e : eqb f.tick t ≡ false = grind (arith, nat_tests, here) in
    rw e (none_at t fs before.1)

-- ----- a tick more
-- all but the tick's frames are as they were
abbrev pub SameBut : (t : ℕ) → (before after : List Sent) → Type 0
SameBut t before after = (k : ℕ) → eqb t k ≡ false → of_tick k after ≡ of_tick k before

-- what was kept of the frames, and those of the tick
pub same_next : (t low : ℕ) (kept before after : List Sent) → FramesBefore t kept
    → ((k : ℕ) → low ≤ k → of_tick k kept ≡ of_tick k before) → SameBut t before after
    → (k : ℕ) → low ≤ k → of_tick k (kept ++ of_tick t after) ≡ of_tick k after
same_next t low kept before after early same but k le =
    filter-append (λ (f : Sent). eqb f.tick k) kept (of_tick t after) ∙ by_tick (eqb t k) refl
  where
    by_tick : (b : Bool) → eqb t k ≡ b → of_tick k kept ++ of_tick k (of_tick t after) ≡ of_tick k after
    by_tick true e =
        subst (λ n. of_tick n kept ++ of_tick n (of_tick t after) ≡ of_tick n after) (same_tick t k e)
        (ap (λ fs. fs ++ of_tick t (of_tick t after)) (none_at t kept early) ∙ twice t after)
    by_tick false e =
        ap (λ fs. of_tick k kept ++ fs) (other t k after e)
        ∙ (append-nil (of_tick k kept) ∙ (same k le ∙ sym (but k e)))

-- of which those of the tick are the new ones
pub tick_frames : (t : ℕ) (kept after : List Sent) → FramesBefore t kept
    → of_tick t (kept ++ of_tick t after) ≡ of_tick t after
tick_frames t kept after early =
    filter-append (λ (f : Sent). eqb f.tick t) kept (of_tick t after)
    ∙ (ap (λ fs. fs ++ of_tick t (of_tick t after)) (none_at t kept early) ∙ twice t after)

-- ----- tests of frames
-- one that passes has a tick
passing_tick : (p : Sent → Bool) (fs : List Sent) → list_any p fs ≡ true → (k : ℕ) × (list_any p (of_tick k fs) ≡ true)
passing_tick p [] h = absurd (true≢false (sym h))
passing_tick p (f ∷ fs) h = by_first (p f) refl h (λ g. passing_tick p fs g)
  where
    at_its_own : p f ≡ true → list_any p (of_tick f.tick (f ∷ fs)) ≡ true
    at_its_own e = let here : eqb f.tick f.tick ≡ true = grind (arith, nat_tests) in rw (here, e) refl

    more : (k : ℕ) (b : Bool) → list_any p (of_tick k fs) ≡ true
        → list_any p (cond b (f ∷ of_tick k fs) (of_tick k fs)) ≡ true
    more k true g = by_either (p f) g
      where
        by_either : (a : Bool) → list_any p (of_tick k fs) ≡ true → a || list_any p (of_tick k fs) ≡ true
        by_either true g = refl
        by_either false g = g
    more k false g = g

    by_first : (b : Bool) → p f ≡ b → b || list_any p fs ≡ true
        → (list_any p fs ≡ true → (k : ℕ) × (list_any p (of_tick k fs) ≡ true))
        → (k : ℕ) × (list_any p (of_tick k (f ∷ fs)) ≡ true)
    by_first true e g rest = (f.tick, at_its_own e)
    by_first false e g rest = let found = rest g in (found.0, more found.0 (eqb f.tick found.0) found.1)

-- one that passes among those of a tick passes among all
passing_all : (p : Sent → Bool) (k : ℕ) (fs : List Sent) → list_any p (of_tick k fs) ≡ true → list_any p fs ≡ true
passing_all p k [] h = h
passing_all p k (f ∷ fs) h = by_tick (eqb f.tick k) h (λ g. passing_all p k fs g)
  where
    right : (a b : Bool) → b ≡ true → a || b ≡ true
    right true b g = refl
    right false b g = g

    either : (a : Bool) → a || list_any p (of_tick k fs) ≡ true
        → (list_any p (of_tick k fs) ≡ true → list_any p fs ≡ true) → a || list_any p fs ≡ true
    either true g rest = refl
    either false g rest = rest g

    by_tick : (b : Bool) → list_any p (cond b (f ∷ of_tick k fs) (of_tick k fs)) ≡ true
        → (list_any p (of_tick k fs) ≡ true → list_any p fs ≡ true) → p f || list_any p fs ≡ true
    by_tick true g rest = either (p f) g rest
    by_tick false g rest = right (p f) (list_any p fs) (rest g)

same_test : (a b : Bool) → (a ≡ true → b ≡ true) → (b ≡ true → a ≡ true) → a ≡ b
same_test true b f g = sym (f refl)
same_test false true f g = g refl
same_test false false f g = refl

-- A frame that passes was one before, or is one of the tick.
pub any_next : (t : ℕ) (p : Sent → Bool) (before after : List Sent) → of_tick t before ≡ [] → SameBut t before after
    → list_any p after ≡ (list_any p before || list_any p (of_tick t after))
any_next t p before after none but =
    same_test (list_any p after) (list_any p before || list_any p (of_tick t after)) there back
  where
    left : (a b : Bool) → a ≡ true → a || b ≡ true
    left true b h = refl
    left false b h = absurd (true≢false (sym h))

    right : (a b : Bool) → b ≡ true → a || b ≡ true
    right true b h = refl
    right false b h = h

    in_tick : (k : ℕ) (b : Bool) → eqb t k ≡ b → list_any p (of_tick k after) ≡ true
        → list_any p before || list_any p (of_tick t after) ≡ true
    in_tick k true e h =
        right (list_any p before) (list_any p (of_tick t after))
        (subst (λ n. list_any p (of_tick n after) ≡ true) (sym (same_tick t k e)) h)
    in_tick k false e h =
        left (list_any p before) (list_any p (of_tick t after))
        (passing_all p k before (subst (λ fs. list_any p fs ≡ true) (but k e) h))

    there : list_any p after ≡ true → list_any p before || list_any p (of_tick t after) ≡ true
    there h = let found = passing_tick p after h in in_tick found.0 (eqb t found.0) refl found.1

    was : (k : ℕ) (b : Bool) → eqb t k ≡ b → list_any p (of_tick k before) ≡ true → list_any p after ≡ true
    was k true e h =
        absurd (true≢false (sym (subst (λ fs. list_any p fs ≡ true) none
        (subst (λ n. list_any p (of_tick n before) ≡ true) (sym (same_tick t k e)) h))))
    was k false e h = passing_all p k after (subst (λ fs. list_any p fs ≡ true) (sym (but k e)) h)

    either : (a b : Bool) → a || b ≡ true → (a ≡ true → list_any p after ≡ true) → (b ≡ true → list_any p after ≡ true)
        → list_any p after ≡ true
    either true b h f g = f refl
    either false b h f g = g h

    back : list_any p before || list_any p (of_tick t after) ≡ true → list_any p after ≡ true
    back h =
        either (list_any p before) (list_any p (of_tick t after)) h
        (λ g. let found = passing_tick p before g in was found.0 (eqb t found.0) refl found.1)
        (λ g. passing_all p t after g)
