-- What applications try while cores take frames, and how their scripts go on by the answers.
use Rattle.std.specs.Prelude.{◌≡◌, ℕ, ◌+◌, ◌^◌, ◌<◌, ◌≤◌, Bool, true, false, List, [], ◌∷◌, length, take, drop}
use Rattle.std.specs.Prelude.{Option, Some, None, ⊤}
use Rattle.tas_model.specs.declared.entry.Call.{Call}
use Rattle.tas_model.specs.declared.entry.Call.TheVariants as calls
use Rattle.flow_state.specs.Calls.{call_of, offer_of}
use Rattle.flow_state.specs.declared.call.CallIn.{CallIn}
use Rattle.flow_state.specs.declared.call.Answer.{Answer}
use Rattle.host_rounds.specs.Lists.{Each}
use Rattle.local_host.specs.declared.attempts.Attempt.{Attempt}
use Rattle.local_host.specs.Live.{took}
use Rattle.scenario_text.specs.declared.scenario.Step.{Step}
use Rattle.scenario_text.specs.declared.scenario.Step.TheVariants as steps
use Rattle.scenario_ranges.specs.Ranges.{IsStepInRange}
use Rattle.scenario_runs.specs.Applications.{Script, unbind, stepped, bound_in, flow_of, is_killed_at}
use Rattle.scenario_runs.specs.Applications.{most, filling, asks_for}
use Rattle.scenario_host.specs.Answers.{IsWithin, gave, sent_by, received_by}
use Rattle.scenario_host.specs.Sound.{IsPartOfFirst}

-- ----- the script goes on
-- by the answer to the call of this step
abbrev pub answered_at : Step → Answer → Script → Script
answered_at (steps.Send socket text) a s = sent_by a (length text) s
answered_at (steps.Fill socket count) a s = sent_by a count s
answered_at (steps.Recv socket count) a s = received_by a (Some count) s
answered_at (steps.Drain socket) a s = received_by a None s
answered_at (steps.Shut socket) a s = stepped s
answered_at (steps.Close socket) a s = stepped (unbind socket s)
answered_at (steps.Abort socket) a s = stepped (unbind socket s)
answered_at _ a s = s

abbrev pub answered_first : List Step → Answer → Script → Script
answered_first [] a s = s
answered_first (step ∷ rest) a s = answered_at step a s

abbrev pub answered_by : Answer → Script → Script
answered_by a s = answered_first s.left a s

-- with the answer no more is done than the step has, whose text can be counted
abbrev pub IsAnswerAt : Step → Answer → Script → Type 0
IsAnswerAt (steps.Send socket text) a s = (length text < 2 ^ 32) × (s.done + took a ≤ length text)
IsAnswerAt (steps.Fill socket count) a s = s.done + took a ≤ count
IsAnswerAt (steps.Recv socket count) a s = IsWithin (Some count) (s.done + gave a)
IsAnswerAt _ a s = ⊤

abbrev pub IsAnswerFirst : List Step → Answer → Script → Type 0
IsAnswerFirst [] a s = ⊤
IsAnswerFirst (step ∷ rest) a s = IsAnswerAt step a s

abbrev pub IsAnswerWithin : Answer → Script → Type 0
IsAnswerWithin a s = IsAnswerFirst s.left a s

-- ----- one attempt
-- The steps that are not over are in their ranges, and the first of them is under way.
pub record IsAtStep (s : Script) : Type 0 where
  pub steps : Each IsStepInRange s.left
  pub part : IsPartOfFirst s.left s.done

-- The application has this call for the socket of this name.
pub record IsTryOn (socket : List ℕ) (call : CallIn) (s : Script) (x : Attempt) : Type 0 where
  pub found : flow_of (bound_in s.names socket) ≡ Some x.place
  pub app : x.app ≡ s.number
  pub calls : x.call ≡ call
  pub fresh : x.answer ≡ None

-- The attempt is this call on the socket of this name; there is none where the name stands for no socket.
abbrev pub IsTrialOn : (socket : List ℕ) → Call → (offer : List ℕ) → Script → Option Attempt → Type 0
IsTrialOn socket call offer s None = flow_of (bound_in s.names socket) ≡ None
IsTrialOn socket call offer s (Some x) =
    (flow_of (bound_in s.names socket) ≡ Some x.place) × (call_of x.call ≡ call) × (offer_of x.call ≡ offer)

-- The call of this step, with the bytes that it offers, where it is one on a socket.
abbrev pub IsTrialAt : Step → Script → Option Attempt → Type 0
IsTrialAt (steps.Send socket text) s o =
    IsTrialOn socket (calls.Send (length (take most (drop s.done text)))) (take most (drop s.done text)) s o
IsTrialAt (steps.Fill socket count) s o =
    IsTrialOn socket (calls.Send (length (take most (drop s.done (filling count)))))
    (take most (drop s.done (filling count))) s o
IsTrialAt (steps.Recv socket count) s o = IsTrialOn socket (calls.Recv (asks_for (Some count) s.done)) [] s o
IsTrialAt (steps.Drain socket) s o = IsTrialOn socket (calls.Recv (asks_for None s.done)) [] s o
IsTrialAt (steps.Shut socket) s o = IsTrialOn socket calls.Shut [] s o
IsTrialAt (steps.Close socket) s o = IsTrialOn socket calls.Close [] s o
IsTrialAt (steps.Abort socket) s o = IsTrialOn socket calls.Abort [] s o
IsTrialAt _ s o = o ≡ None

abbrev pub IsTrialFirst : List Step → Script → Option Attempt → Type 0
IsTrialFirst [] s o = o ≡ None
IsTrialFirst (step ∷ rest) s o = IsTrialAt step s o

abbrev pub IsTrialWhere : (killed_now : Bool) → Script → Option Attempt → Type 0
IsTrialWhere true s o = o ≡ None
IsTrialWhere false s o = IsTrialFirst s.left s o

-- What the application tries in the tick: the call of its step, or nothing where it is killed or has ended.
abbrev pub IsTrialIn : (tick : ℕ) → Script → Option Attempt → Type 0
IsTrialIn t s o = IsTrialWhere (is_killed_at t s.kill) s o
