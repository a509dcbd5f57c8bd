-- Tries that were answered, and those that were not: what they leave, and how the scripts go on.
use Rattle.std.specs.Prelude.{ℕ, ◌==◌, Bool, true, false, not, List, [], ◌∷◌, ◌++◌, map, filter, Option, Some, None}
use Rattle.std.specs.Prelude.{is_some}
use Rattle.tas_model.specs.declared.entry.Reply.{Reply}
use Rattle.host_books.specs.Leavings.{Leaving, leaving_by}
use Rattle.host_books.specs.Tries.{Try}
use Rattle.scenario_runs.specs.Applications.{Script}
use Rattle.script_tries.specs.Steps.{goes_by}
use Rattle.script_tries.specs.Tries.{ScriptTry}

-- ----- what they leave
-- with its reply, where it has one, as a list of one, or none
abbrev pub leaving_in : {S A : Type 0} → Option (Try S A) → Option Reply → List (Leaving S)
leaving_in None reply = []
leaving_in (Some x) None = []
leaving_in (Some x) (Some reply) = leaving_by x reply ∷ []

-- all of them, each with the reply at its place
abbrev pub leavings_of : {S A : Type 0} → List (Option (Try S A)) → List (Option Reply) → List (Leaving S)
leavings_of [] replies = []
leavings_of (o ∷ os) [] = []
leavings_of (o ∷ os) (r ∷ rs) = leaving_in o r ++ leavings_of os rs

-- ----- which were answered
abbrev pub answered_in : {S A : Type 0} → Option (Try S A) → Option Reply → List A
answered_in None reply = []
answered_in (Some x) None = []
answered_in (Some x) (Some reply) = x.ask ∷ []

-- those who asked them
abbrev pub answered_of : {S A : Type 0} → List (Option (Try S A)) → List (Option Reply) → List A
answered_of [] replies = []
answered_of (o ∷ os) [] = []
answered_of (o ∷ os) (r ∷ rs) = answered_in o r ++ answered_of os rs

-- ----- by the number of a script
abbrev pub is_of : (number : ℕ) → Option ScriptTry → Bool
is_of n None = false
is_of n (Some x) = x.ask == n

-- the reply to the try of the script with this number
abbrev pub reply_to : (number : ℕ) → List (Option ScriptTry) → List (Option Reply) → Option Reply
reply_to n [] replies = None
reply_to n (o ∷ os) [] = None
reply_to n (o ∷ os) (r ∷ rs) = elim (is_of n o) [ true ↦ r | false ↦ reply_to n os rs ]

-- Scripts whose tries were answered went on by the replies, and all others are as they were, in their order.
abbrev pub gone_on : List (Option ScriptTry) → List (Option Reply) → List Script → List Script
gone_on tries replies scripts = map (λ (s : Script). goes_by (reply_to s.number tries replies) s) scripts

-- The applications with these numbers whose tries weren't answered, or who tried nothing, in their order.
abbrev pub later_of : List (Option ScriptTry) → List (Option Reply) → (numbers : List ℕ) → List ℕ
later_of tries replies numbers = filter (λ (n : ℕ). not (is_some (reply_to n tries replies))) numbers
