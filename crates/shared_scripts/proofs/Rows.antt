-- Applications have their turns alone on a host of shared flows: for the answers for `take_one` and `take_turns`.
use Rattle.std.proofs.Common.{◌≡◌, ℕ, suc, ◌<◌, ◌==◌, Bool, true, false, List, [], ◌∷◌, refl, sym, ap, subst}
use Rattle.std.proofs.Common.{◌∙◌, arith, inl, inr}
use Rattle.std.specs.Prelude.{Option, Some, None, is_some}
use Rattle.flow_state.specs.declared.call.Answer.{Answer}
use Rattle.host_rounds.specs.Hosts.{Host}
use Rattle.host_rounds.specs.Lists.{Each}
use Rattle.scenario_host.specs.Sound.{AreNamesOf, IsFitFor}
use Rattle.scenario_host.specs.Tries.{IsAtStep}
use Rattle.scenario_host.specs.Turns.{turn_of}
use Rattle.scenario_laws.proofs.Goes as steps
use Rattle.scenario_laws.proofs.Sockets.{own_still}
use Rattle.scenario_runs.specs.Applications.{Script, Turn, turn, turn_where, goes_on, is_killed_at, has_ended}
use Rattle.scenario_runs.specs.Worlds.{starts_of, address_in}
use Rattle.scenario_text.specs.declared.scenario.Scenario.{Scenario}
use Rattle.scenario_text.specs.declared.scenario.Step.{Step}
use Rattle.tas_model.specs.declared.entry.HostParams.{HostParams}
use Rattle.core_host.specs.Asked.{IsAskedOf, IsAskedLess, asked_itself, asked_on, runs_on}
use Rattle.core_host.specs.Asking.{HasApp, HasSocket}
use Rattle.core_host.specs.Sound.{IsStaffSound}
use Rattle.core_host.specs.Views.{Staffed, seen_by}
use Rattle.shared_scripts.specs.Answers.{later_by}
use Rattle.shared_scripts.specs.Going.{IsReadyFor}
use Rattle.shared_scripts.specs.Playing.{IsGone, RunsOn, Owns}
use Rattle.shared_scripts.specs.Turns.{AreOthers, HadTurns, StaysAsked, HadTurnOn, HasHadTurn}
use Rattle.shared_scripts.specs.Turns.{HaveHadTurns}
use Rattle.shared_scripts.proofs.Holders.{names_of}
use Rattle.shared_scripts.proofs.Rising.{later_differ, IsBelow, is_number}
use Rattle.shared_scripts.proofs.Turning.{HadTurn, had_turn, no_turns, turns_more, turns_passed}

-- ----- before a turn
-- an application that is killed now, or whose script hasn't ended, runs
killed_past : (t : ℕ) (o : Option ℕ) → ((at : ℕ) → o ≡ Some at → at < t) → is_killed_at t o ≡ true → ⊥
killed_past t None past killed = absurd (cc (killed))
killed_past t (Some at) past killed =
    let same : at ≡ t = is_number at t killed in
    let below : at < t = past at refl in
    absurd (omega (arith, same, below))

pub runs_killed : (t : ℕ) (h : Staffed) (x : Script) → RunsOn t h x → is_killed_at t x.kill ≡ true → HasApp x.number h
runs_killed t h x (inl has) killed = has
runs_killed t h x (inr gone) killed = absurd (killed_past t x.kill gone.past killed)

ended_so : (x : Script) → x.left ≡ [] → has_ended x ≡ true
ended_so x left = ap (λ (l : List Step). elim l [ [] ↦ true | step ∷ rest ↦ false ]) left

pub runs_living : (t : ℕ) (h : Staffed) (x : Script) → RunsOn t h x → has_ended x ≡ false → HasApp x.number h
runs_living t h x (inl has) lives = has
runs_living t h x (inr gone) lives = absurd (cc (lives, ended_so x gone.left))

-- it has the sockets that its names stand for
pub fit_for : (t : ℕ) (h : Staffed) (x : Script) → IsAtStep x → Owns (seen_by h).flows x → RunsOn t h x
    → IsFitFor (λ (k : ℕ). HasSocket x.number k h) x
fit_for t h x at own (inl has) =
    record { steps = at.steps; part = at.part; names = names_of h x.number x.names has own.held }
fit_for t h x at own (inr gone) = record {
  steps = at.steps;
  part = at.part;
  names = subst (λ names. AreNamesOf (λ (k : ℕ). HasSocket x.number k h) names)
      (sym gone.names) tt;
}

-- ----- one turn
module _ (s : Scenario) (p : HostParams) (t : ℕ) where
  abbrev turned : Host → Script → Turn
  turned host x = turn (starts_of p) (address_in s.hosts) t (turn_of host x)

  -- a script that is killed has ended
  killed_gone : (before after : Host) (x y : Script) → turn_of after y ≡ turned before x
      → is_killed_at t x.kill ≡ true → IsGone (suc t) y
  killed_gone before after x y made killed =
      subst (IsGone (suc t)) (sym is) (record {
        left = refl;
        names = refl;
        past = λ at kill. past at x.kill kill killed;
      })
    where
      is : y ≡ record x { left = []; names = [] }
      is = ap (λ (z : Turn). z.script) (made
          ∙ ap (λ (b : Bool). turn_where b (starts_of p) (address_in s.hosts) t (turn_of before x)) killed)

      past : (at : ℕ) (o : Option ℕ) → o ≡ Some at → is_killed_at t o ≡ true → at < suc t
      past at o kill killed =
          let now : (at == t) ≡ true = ap (is_killed_at t) (sym kill) ∙ killed in
          let same : at ≡ t = is_number at t now in
          omega (arith, same)

  -- one that has ended stays
  ended_stays : (before after : Host) (x y : Script) → turn_of after y ≡ turned before x
      → is_killed_at t x.kill ≡ false → x.left ≡ [] → y ≡ x
  ended_stays before after x y made spared left =
      ap (λ (z : Turn). z.script) (made
      ∙ (ap (λ (b : Bool). turn_where b (starts_of p) (address_in s.hosts) t (turn_of before x)) spared
      ∙ ap (λ (l : List Step). goes_on (starts_of p) (address_in s.hosts) t l (turn_of before x)) left))

  same_app : (before after : Host) (x y : Script) → turn_of after y ≡ turned before x → y.number ≡ x.number
  same_app before after x y made =
      ap (λ (z : Turn). z.script.number) made
      ∙ (steps.turn_goes (starts_of p) (address_in s.hosts) t (turn_of before x)).number

  later_gone : (x : Script) → IsGone t x → IsGone (suc t) x
  later_gone x gone = record {
    left = gone.left;
    names = gone.names;
    past = λ at kill. let below : at < t = gone.past at kill in omega (arith, below);
  }

  pub one_turn : (before after : Staffed) (x y : Script) → RunsOn t before x
      → turn_of (seen_by after) y ≡ turned (seen_by before) x
      → (is_killed_at t x.kill ≡ false → IsAskedOf before after)
      → (is_killed_at t x.kill ≡ true → IsAskedLess x.number before after)
      → HadTurnOn s p t before after x y
  one_turn before after x y runs made kept lost = by (is_killed_at t x.kill) refl where
    still : is_killed_at t x.kill ≡ false → IsAskedOf before after → RunsOn t before x → RunsOn (suc t) after y
    still spared of (inl has) =
        inl (subst (λ (n : ℕ). HasApp n after) (sym (same_app (seen_by before) (seen_by after) x y made))
        (runs_on before after x.number of has))
    still spared of (inr gone) =
        inr (subst (IsGone (suc t)) (sym (ended_stays (seen_by before) (seen_by after) x y made spared gone.left))
        (later_gone x gone))

    by : (b : Bool) → is_killed_at t x.kill ≡ b → HadTurnOn s p t before after x y
    by false spared =
        let of = kept spared in
        record {
          made = made;
          stays = record { asked = of.asked; time = of.time; filed = of.filed };
          others = λ n other has. runs_on before after n of has;
          runs = still spared of runs;
        }
    by true killed =
        let less = lost killed in
        record {
          made = made;
          stays = record { asked = less.asked; time = less.time; filed = less.filed };
          others = λ n other has. less.others n other has;
          runs = inr (killed_gone (seen_by before) (seen_by after) x y made killed);
        }

  -- ----- all
  stays_itself : (h : Staffed) → IsStaffSound h → StaysAsked h h
  stays_itself h sound = record { asked = asked_itself h sound; time = refl; filed = refl }

  stays_on : (f g h : Staffed) → StaysAsked f g → StaysAsked g h → StaysAsked f h
  stays_on f g h one two = record {
    asked = asked_on f g h one.asked two.asked;
    time = two.time ∙ one.time;
    filed = two.filed ∙ one.filed;
  }

  pub none_had : (h : Staffed) → IsStaffSound h → (answers : List (Option Answer))
      → later_by answers [] ≡ [] → HaveHadTurns s p t answers h h [] []
  none_had h sound answers none = record {
    turns = subst (HadTurns s p t (seen_by h) (seen_by h) [] []) (sym none) (no_turns s p t (seen_by h));
    stays = stays_itself h sound;
    others = λ n others has. has;
    runs = tt;
  }

  runs_later : (h : Staffed) (x : Script) → RunsOn t h x → RunsOn (suc t) h x
  runs_later h x (inl has) = inl has
  runs_later h x (inr gone) = inr (later_gone x gone)

  -- the script in front runs still when the others had their turns
  runs_then : (mid after : Staffed) (y : Script) (xs : List Script) → Each (IsBelow y.number) xs
      → ((n : ℕ) → AreOthers n xs → HasApp n mid → HasApp n after) → RunsOn (suc t) mid y → RunsOn (suc t) after y
  runs_then mid after y xs below others (inl has) = inl (others y.number (later_differ y.number xs below) has)
  runs_then mid after y xs below others (inr gone) = inr gone

  -- the others are ready still when one had its turn
  pub ready_on : (before mid : Staffed) (x y : Script) (xs : List Script) → IsReadyFor t before (x ∷ xs)
      → HadTurnOn s p t before mid x y → IsReadyFor t mid xs
  ready_on before mid x y xs ready one =
      let had = had_turn s p t (seen_by before) (seen_by mid) x y one.made ready.steps.0 ready.own.0 in
      record {
        numbers = ready.numbers.1;
        steps = ready.steps.1;
        own = owns xs had (later_differ x.number xs ready.numbers.0) ready.own.1;
        runs = runs xs (later_differ x.number xs ready.numbers.0) ready.runs.1;
      }
    where
      owns : (ys : List Script) → HadTurn s p t (seen_by before) (seen_by mid) x y
          → Each (λ (z : Script). z.number ≡ x.number → ⊥) ys → Each (Owns (seen_by before).flows) ys
          → Each (Owns (seen_by mid).flows) ys
      owns [] had other own = tt
      owns (z ∷ zs) had other own = (
        own_still (seen_by before).flows (seen_by mid).flows z.number z.names
            (λ k held. had.others z.number other.0 k held) own.0,
        owns zs had other.1 own.1,
      )

      runs : (ys : List Script) → Each (λ (z : Script). z.number ≡ x.number → ⊥) ys → Each (RunsOn t before) ys
          → Each (RunsOn t mid) ys
      runs [] other has = tt
      runs (z ∷ zs) other has = (one_runs z other.0 has.0, runs zs other.1 has.1) where
        one_runs : (w : Script) → (w.number ≡ x.number → ⊥) → RunsOn t before w → RunsOn t mid w
        one_runs w other (inl has) = inl (one.others w.number other has)
        one_runs w other (inr gone) = inr gone

  pub more_had : (before mid after : Staffed) (x y : Script) (xs ys : List Script) (answers : List (Option Answer))
      → IsReadyFor t before (x ∷ xs) → HadTurnOn s p t before mid x y
      → HaveHadTurns s p t answers mid after xs ys
      → HaveHadTurns s p t (None ∷ answers) before after (x ∷ xs) (y ∷ ys)
  more_had before mid after x y xs ys answers ready one rest =
      let had = had_turn s p t (seen_by before) (seen_by mid) x y one.made ready.steps.0 ready.own.0 in
      record {
        turns = turns_more s p t (seen_by before) (seen_by mid) (seen_by after) x y xs ys _ one.made had ready.numbers
            rest.turns;
        stays = stays_on before mid after one.stays rest.stays;
        others = λ n others has. rest.others n others.1 (one.others n (λ same. others.0 (sym same)) has);
        runs = (
          runs_then mid after y xs (subst (λ (n : ℕ). Each (IsBelow n) xs) (sym had.number) ready.numbers.0) rest.others
              one.runs,
          rest.runs,
        );
      }

  pub passed_had : (before after : Staffed) (x : Script) (xs ys : List Script) (a : Answer)
      (answers : List (Option Answer)) → IsReadyFor t before (x ∷ xs)
      → HaveHadTurns s p t answers before after xs ys
      → HaveHadTurns s p t (Some a ∷ answers) before after (x ∷ xs) (x ∷ ys)
  passed_had before after x xs ys a answers ready rest = record {
    turns = turns_passed s p t (seen_by before) (seen_by after) x xs ys _ ready.steps.0 ready.own.0 ready.numbers
        rest.turns;
    stays = rest.stays;
    others = λ n others has. rest.others n others.1 has;
    runs = (
      runs_then before after x xs ready.numbers.0 rest.others (runs_later before x ready.runs.0),
      rest.runs,
    );
  }

  -- one of them by whether it was answered
  pub either_had : (before mid after : Staffed) (x y : Script) (xs ys : List Script) (o : Option Answer)
      (answers : List (Option Answer)) → IsReadyFor t before (x ∷ xs)
      → HasHadTurn (is_some o) s p t before mid x y → HaveHadTurns s p t answers mid after xs ys
      → HaveHadTurns s p t (o ∷ answers) before after (x ∷ xs) (y ∷ ys)
  either_had before mid after x y xs ys None answers ready one rest =
      more_had before mid after x y xs ys answers ready one rest
  either_had before mid after x y xs ys (Some a) answers ready one rest =
      subst (λ (z : Script). HaveHadTurns s p t (Some a ∷ answers) before after (x ∷ xs) (z ∷ ys)) (sym one.1)
      (passed_had before after x xs ys a answers ready
      (subst (λ (h : Staffed). HaveHadTurns s p t answers h after xs ys) one.0 rest))

  pub either_ready : (before mid : Staffed) (x y : Script) (xs : List Script) (answered : Bool)
      → IsReadyFor t before (x ∷ xs) → HasHadTurn answered s p t before mid x y → IsReadyFor t mid xs
  either_ready before mid x y xs true ready one = subst (λ (h : Staffed). IsReadyFor t h xs) (sym one.0) (record {
    numbers = ready.numbers.1;
    steps = ready.steps.1;
    own = ready.own.1;
    runs = ready.runs.1;
  })
  either_ready before mid x y xs false ready one = ready_on before mid x y xs ready one

  -- and the host may be asked
  pub either_sound : (before mid : Staffed) (x y : Script) (answered : Bool) → IsStaffSound before
      → HasHadTurn answered s p t before mid x y → IsStaffSound mid
  either_sound before mid x y true sound one = subst IsStaffSound (sym one.0) sound
  either_sound before mid x y false sound one = one.stays.asked.sound

  pub either_params : (before mid : Staffed) (x y : Script) (answered : Bool) → IsAtStep x
      → Owns (seen_by before).flows x → HasHadTurn answered s p t before mid x y
      → (seen_by mid).params ≡ (seen_by before).params
  either_params before mid x y true at own one = ap (λ (h : Staffed). (seen_by h).params) one.0
  either_params before mid x y false at own one =
      (had_turn s p t (seen_by before) (seen_by mid) x y one.made at own).params
