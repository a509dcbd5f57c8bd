-- Scripts of a list go on, or have their turns, one after the other by their places.
use Rattle.std.proofs.Common.{◌≡◌, ℕ, zero, suc, ◌+◌, ◌<◌, ◌≤◌, false, List, [], ◌∷◌, ◌++◌, length, drop, take, set}
use Rattle.std.proofs.Common.{slice_get, Option, Some, IfSome, refl, sym, ap, subst, ◌∙◌, arith}
use Rattle.std.specs.Option.{is_some}
use Rattle.flow_state.specs.declared.call.Answer.{Answer}
use Rattle.scenario_host.specs.Tries.{IsAnswerWithin}
use Rattle.scenario_host.proofs.Walking.{drop_place, drop_set}
use Rattle.scenario_runs.specs.Applications.{Script}
use Rattle.scenario_text.specs.declared.scenario.Scenario.{Scenario}
use Rattle.tas_model.specs.declared.entry.HostParams.{HostParams}
use Rattle.core_host.specs.Sound.{IsStaffSound}
use Rattle.core_host.specs.Views.{Staffed, seen_by}
use Rattle.shared_scripts.specs.Answers.{goes_by, heard_by, told_at, AreWithin}
use Rattle.shared_scripts.specs.Going.{IsReadyFor}
use Rattle.shared_scripts.specs.Turns.{HaveHadTurns, HasHadTurn}
use Rattle.shared_scripts.proofs.Rows.{none_had, either_had, either_ready, either_sound, either_params}

-- ----- places
at_drop : {X : Type 0} (i : ℕ) (xs : List X) → slice_get (drop i xs) 0 ≡ slice_get xs i
at_drop zero xs = refl
at_drop (suc i) [] = refl
at_drop (suc i) (x ∷ xs) = at_drop i xs

drop_one : {X : Type 0} (i : ℕ) (xs : List X) → drop 1 (drop i xs) ≡ drop (suc i) xs
drop_one zero xs = refl
drop_one (suc i) [] = refl
drop_one (suc i) (x ∷ xs) = drop_one i xs

drop_past : {X : Type 0} (i : ℕ) (xs : List X) → length xs ≤ i → drop i xs ≡ []
drop_past zero [] past = refl
drop_past (suc i) [] past = refl
drop_past zero (x ∷ xs) past = absurd (omega (arith, past))
drop_past (suc i) (x ∷ xs) past = drop_past i xs (omega (arith, past))

take_past : (i : ℕ) (xs : List Script) → length xs ≤ i → take i xs ++ [] ≡ xs
take_past zero [] past = refl
take_past zero (x ∷ xs) past = absurd (omega (arith, past))
take_past (suc i) [] past = refl
take_past (suc i) (x ∷ xs) past = ap (λ (zs : List Script). x ∷ zs) (take_past i xs (omega (arith, past)))

-- one more stands in front when it was put at its place
take_more : (i : ℕ) (xs : List Script) (x y : Script) (zs : List Script) → slice_get xs i ≡ Some x
    → take i xs ++ y ∷ zs ≡ take (suc i) (set xs i y) ++ zs
take_more i [] x y zs here = absurd (cc (here))
take_more zero (w ∷ ws) x y zs here = refl
take_more (suc i) (w ∷ ws) x y zs here = ap (λ (vs : List Script). w ∷ vs) (take_more i ws x y zs here)

told_first : (i : ℕ) (os : List (Option Answer)) → i < length os
    → drop i os ≡ told_at (slice_get os i) ∷ drop (suc i) os
told_first i [] inside = absurd (omega (arith, inside))
told_first zero (o ∷ os) inside = refl
told_first (suc i) (o ∷ os) inside = told_first i os (omega (arith, inside))

-- ----- scripts that go on
-- the scripts from this place on
abbrev pub heard_from : (place : ℕ) → List (Option Answer) → List Script → List Script
heard_from zero os xs = heard_by os xs
heard_from (suc i) os [] = []
heard_from (suc i) os (x ∷ xs) = x ∷ heard_from i os xs

heard_one : (i : ℕ) (o : Option Answer) (os : List (Option Answer)) (xs : List Script) (x : Script)
    → slice_get xs i ≡ Some x → heard_from i (o ∷ os) xs ≡ heard_from (suc i) os (set xs i (goes_by o x))
heard_one i o os [] x here = absurd (cc (here))
heard_one zero o os (w ∷ ws) x here =
    let first : w ≡ x = cc (here) in ap (λ (z : Script). goes_by o z ∷ heard_by os ws) first
heard_one (suc i) o os (w ∷ ws) x here = ap (λ (zs : List Script). w ∷ zs) (heard_one i o os ws x here)

heard_past : (i : ℕ) (os : List (Option Answer)) (xs : List Script) → length xs ≤ i → heard_from i os xs ≡ xs
heard_past zero [] xs past = refl
heard_past zero (o ∷ os) [] past = refl
heard_past zero (o ∷ os) (x ∷ xs) past = absurd (omega (arith, past))
heard_past (suc i) os [] past = refl
heard_past (suc i) os (x ∷ xs) past = ap (λ (zs : List Script). x ∷ zs) (heard_past i os xs (omega (arith, past)))

-- The scripts before this place went on; the others can, and lead to the same end.
pub record HeardTo (i : ℕ) (os : List (Option Answer)) (start xs : List Script) : Type 0 where
  pub made : heard_from i (drop i os) xs ≡ heard_by os start
  pub within : AreWithin (drop i os) (drop i xs)
  pub count : length os ≡ length xs

length_set : (i : ℕ) (xs : List Script) (y : Script) → length (set xs i y) ≡ length xs
length_set i [] y = refl
length_set zero (x ∷ xs) y = refl
length_set (suc i) (x ∷ xs) y = ap suc (length_set i xs y)

inside_at : (i : ℕ) (xs : List Script) (x : Script) → slice_get xs i ≡ Some x → i < length xs
inside_at i [] x here = absurd (cc (here))
inside_at zero (w ∷ ws) x here = omega arith
inside_at (suc i) (w ∷ ws) x here = omega (arith, inside_at i ws x here)

within_here : (i : ℕ) (os : List (Option Answer)) (start xs : List Script) (x : Script) → HeardTo i os start xs
    → slice_get xs i ≡ Some x → AreWithin (told_at (slice_get os i) ∷ drop (suc i) os) (x ∷ drop (suc i) xs)
within_here i os start xs x so_far here =
    subst (AreWithin (told_at (slice_get os i) ∷ drop (suc i) os)) (drop_place xs i x here)
    (subst (λ (ps : List (Option Answer)). AreWithin ps (drop i xs))
    (told_first i os (omega (arith, so_far.count, inside_at i xs x here))) so_far.within)

-- the script at this place can go on
pub may_hear : (i : ℕ) (os : List (Option Answer)) (start xs : List Script) (x : Script) (a : Answer)
    → HeardTo i os start xs → slice_get xs i ≡ Some x → told_at (slice_get os i) ≡ Some a → IsAnswerWithin a x
may_hear i os start xs x a so_far here told =
    subst (λ (o : Option Answer). IfSome o (λ (b : Answer). IsAnswerWithin b x)) told
    (within_here i os start xs x so_far here).0

-- and one more did
pub heard_more : (i : ℕ) (os : List (Option Answer)) (start xs : List Script) (x : Script)
    → HeardTo i os start xs → slice_get xs i ≡ Some x
    → HeardTo (i + 1) os start (set xs i (goes_by (told_at (slice_get os i)) x))
heard_more i os start xs x so_far here =
    let o : Option Answer = told_at (slice_get os i) in
    let y : Script = goes_by o x in
    let next : suc i ≡ i + 1 = omega arith in
    let inside : i < length os = omega (arith, so_far.count, inside_at i xs x here) in
    subst (λ (n : ℕ). HeardTo n os start (set xs i y)) next (record {
      made = sym (heard_one i o (drop (suc i) os) xs x here)
          ∙ (ap (λ (ps : List (Option Answer)). heard_from i ps xs) (sym (told_first i os inside)) ∙ so_far.made);
      within = subst (AreWithin (drop (suc i) os)) (sym (drop_set xs i y)) (within_here i os start xs x so_far here).1;
      count = so_far.count ∙ sym (length_set i xs y);
    })

pub heard_all : (i : ℕ) (os : List (Option Answer)) (start xs : List Script) → HeardTo i os start xs → length xs ≤ i
    → xs ≡ heard_by os start
heard_all i os start xs so_far past = sym (heard_past i (drop i os) xs past) ∙ so_far.made

-- ----- scripts that have their turns
module _ (s : Scenario) (p : HostParams) (t : ℕ) (os : List (Option Answer)) (before : Staffed)
    (start : List Script) where
  -- The scripts before this place had their turns; those from it on are as they were and may have theirs, and with
  -- them all have had theirs.
  pub record TurnsTo (i : ℕ) (h : Staffed) (xs : List Script) : Type 0 where
    pub sound : IsStaffSound h
    pub listens : (seen_by h).params.fixed ≡ false
    pub ready : IsReadyFor t h (drop i xs)
    pub count : length os ≡ length xs
    pub rest : (after : Staffed) (next : List Script) → HaveHadTurns s p t (drop i os) h after (drop i xs) next
        → HaveHadTurns s p t os before after start (take i xs ++ next)

module _ (s : Scenario) (p : HostParams) (t : ℕ) (os : List (Option Answer)) (before : Staffed)
    (start : List Script) where
  ready_here : (i : ℕ) (h : Staffed) (xs : List Script) (x : Script) → TurnsTo s p t os before start i h xs
      → slice_get xs i ≡ Some x → IsReadyFor t h (x ∷ drop (suc i) xs)
  ready_here i h xs x so_far here = subst (IsReadyFor t h) (drop_place xs i x here) so_far.ready

  -- the script at this place may have its turn
  pub may_turn : (i : ℕ) (h : Staffed) (xs : List Script) (x : Script) → TurnsTo s p t os before start i h xs
      → slice_get xs i ≡ Some x → IsReadyFor t h (x ∷ [])
  may_turn i h xs x so_far here =
      let ready : IsReadyFor t h (x ∷ drop (suc i) xs) = ready_here i h xs x so_far here in
      record { numbers = (tt, tt); steps = (ready.steps.0, tt); own = (ready.own.0, tt); runs = (ready.runs.0, tt) }

  -- and one more had it
  pub turns_more : (i : ℕ) (h mid : Staffed) (xs : List Script) (x y : Script)
      → TurnsTo s p t os before start i h xs → slice_get xs i ≡ Some x
      → HasHadTurn (is_some (told_at (slice_get os i))) s p t h mid x y
      → TurnsTo s p t os before start (i + 1) mid (set xs i y)
  turns_more i h mid xs x y so_far here had =
      let o : Option Answer = told_at (slice_get os i) in
      let next : suc i ≡ i + 1 = omega arith in
      let inside : i < length os = omega (arith, so_far.count, inside_at i xs x here) in
      let ready : IsReadyFor t h (x ∷ drop (suc i) xs) = ready_here i h xs x so_far here in
      subst (λ (n : ℕ). TurnsTo s p t os before start n mid (set xs i y)) next (record {
        sound = either_sound s p t h mid x y (is_some o) so_far.sound had;
        listens = ap (λ (q : HostParams). q.fixed)
            (either_params s p t h mid x y (is_some o) ready.steps.0 ready.own.0 had) ∙ so_far.listens;
        ready = subst (IsReadyFor t mid) (sym (drop_set xs i y))
            (either_ready s p t h mid x y (drop (suc i) xs) (is_some o) ready had);
        count = so_far.count ∙ sym (length_set i xs y);
        rest = λ after zs have.
            subst (HaveHadTurns s p t os before after start) (take_more i xs x y zs here)
            (so_far.rest after (y ∷ zs)
            (subst (λ (ps : List (Option Answer)). HaveHadTurns s p t ps h after (drop i xs) (y ∷ zs))
            (sym (told_first i os inside))
            (subst (λ (ws : List Script). HaveHadTurns s p t (o ∷ drop (suc i) os) h after ws (y ∷ zs))
            (sym (drop_place xs i x here))
            (either_had s p t h mid after x y (drop (suc i) xs) zs o (drop (suc i) os) ready had
            (subst (λ (ws : List Script). HaveHadTurns s p t (drop (suc i) os) mid after ws zs) (drop_set xs i y)
            have)))));
      })

  -- up to the last
  pub turns_all : (i : ℕ) (h : Staffed) (xs : List Script) → TurnsTo s p t os before start i h xs → length xs ≤ i
      → HaveHadTurns s p t os before h start xs
  turns_all i h xs so_far past =
      subst (HaveHadTurns s p t os before h start) (take_past i xs past)
      (so_far.rest h []
      (subst (λ (ws : List Script). HaveHadTurns s p t (drop i os) h h ws []) (sym (drop_past i xs past))
      (subst (λ (ps : List (Option Answer)). HaveHadTurns s p t ps h h [] [])
      (sym (drop_past i os (omega (arith, so_far.count, past)))) (none_had s p t h so_far.sound [] refl))))
