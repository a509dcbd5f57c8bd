-- What applications were answered beside the cores, and how their scripts go on by that.
use Rattle.std.specs.Prelude.{◌≡◌, ℕ, ◌==◌, Bool, true, false, List, [], ◌∷◌, map, Option, Some, None, IfSome, ⊤}
use Rattle.core_phase.specs.declared.lane.Lane.{Lane}
use Rattle.core_phase.specs.declared.lane.Lane.TheVariants as lanes
use Rattle.flow_state.specs.declared.call.Answer.{Answer}
use Rattle.scenario_host.specs.Tries.{answered_by, IsAnswerWithin}
use Rattle.scenario_runs.specs.Applications.{Script, has_ended}
use Rattle.core_host.specs.Attempts.{answer_told}
use Rattle.core_host.specs.Emission.{AreTriesSet}
use Rattle.core_host.specs.Views.{Staffed}

-- ----- answers
-- what the application with this number was told
abbrev pub answer_for : (app : ℕ) → List Lane → Option Answer
answer_for n [] = None
answer_for n (lanes.Core l ∷ ls) = answer_for n ls
answer_for n (lanes.App l ∷ ls) = elim (l.app.number == n) [ true ↦ answer_told l.answer | false ↦ answer_for n ls ]

-- A script that has ended tried nothing.
abbrev pub answer_unless : (ended : Bool) → Option Answer → Option Answer
answer_unless true answer = None
answer_unless false answer = answer

abbrev pub answer_to : List Lane → Script → Option Answer
answer_to ls x = answer_unless (has_ended x) (answer_for x.number ls)

abbrev pub answers_in : List Lane → List Script → List (Option Answer)
answers_in ls scripts = map (answer_to ls) scripts

-- the one at a place
abbrev pub told_at : Option (Option Answer) → Option Answer
told_at None = None
told_at (Some answer) = answer

-- ----- scripts
-- by its answer, where it has one
abbrev pub goes_by : Option Answer → Script → Script
goes_by None x = x
goes_by (Some a) x = answered_by a x

-- so each goes on
abbrev pub heard_by : List (Option Answer) → List Script → List Script
heard_by [] xs = xs
heard_by (o ∷ os) [] = []
heard_by (o ∷ os) (x ∷ xs) = goes_by o x ∷ heard_by os xs

-- of these applications those that have none
abbrev pub later_by : List (Option Answer) → (numbers : List ℕ) → List ℕ
later_by [] ns = ns
later_by (o ∷ os) [] = []
later_by (o ∷ os) (n ∷ ns) = elim o [ None ↦ n ∷ later_by os ns | Some a ↦ later_by os ns ]

-- With its answer no more of a step is done than there is of it.
abbrev pub AreWithin : List (Option Answer) → List Script → Type 0
AreWithin [] xs = ⊤
AreWithin (o ∷ os) [] = ⊤
AreWithin (o ∷ os) (x ∷ xs) = IfSome o (λ (a : Answer). IsAnswerWithin a x) × AreWithin os xs

-- ----- one answer
-- The application of the script was asked for its answer, and tries nothing more; what others were told stays.
pub record IsAnswered (x : Script) (answer : Option Answer) (before after : Staffed) : Type 0 where
  pub told : answer ≡ answer_to before.lanes x
  pub set : AreTriesSet before after
  pub others : (n : ℕ) → (n ≡ x.number → ⊥) → answer_for n after.lanes ≡ answer_for n before.lanes
