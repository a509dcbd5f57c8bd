-- How a script goes on by the answer that its call got.
use Rattle.std.specs.Prelude.{ℕ, ◌+◌, ◌<◌, ◌≤◌, ◌==◌, Option, Some, None, ⊤}
use Rattle.flow_state.specs.declared.call.Answer.{Answer}
use Rattle.flow_state.specs.declared.call.Answer.TheVariants as answers
use Rattle.scenario_runs.specs.Applications.{Script, stepped, done_or}

-- ----- counts
-- so much is not all, where that is a number
abbrev pub IsBelow : (all : Option ℕ) → (done : ℕ) → Type 0
IsBelow None done = ⊤
IsBelow (Some all) done = done < all

-- so much is no more than all
abbrev pub IsWithin : (all : Option ℕ) → (done : ℕ) → Type 0
IsWithin None done = ⊤
IsWithin (Some all) done = done ≤ all

-- how many bytes a Recv with this answer gave
abbrev pub gave : Answer → ℕ
gave (answers.Got len update) = len
gave _ = 0

-- ----- the script goes on
abbrev pub waited_by : Answer → Script → Script
waited_by answers.NotYet s = s
waited_by _ s = stepped s

abbrev pub sent_by : Answer → (all : ℕ) → Script → Script
sent_by (answers.Took len) all s = done_or (s.done + len == all) (s.done + len) s
sent_by answers.NotYet all s = s
sent_by _ all s = stepped s

abbrev pub received_by : Answer → (all : Option ℕ) → Script → Script
received_by (answers.Got len update) None s = s
received_by (answers.Got len update) (Some all) s = done_or (s.done + len == all) (s.done + len) s
received_by answers.NotYet all s = s
received_by _ all s = stepped s
