-- What comes of a call that is tried.
use Rattle.std.specs.Prelude.{◌≡◌, ℕ, Bool, true, false, ◌<◌, ◌^◌, List, [], ◌∷◌, ◌++◌, length, Option, Some, None}
use Rattle.tas_model.specs.declared.entry.Call.{Call}
use Rattle.tas_model.specs.declared.entry.Caller.{Caller}
use Rattle.tas_model.specs.declared.entry.Entry.{Entry}
use Rattle.tas_model.specs.declared.entry.Reply.{Reply}
use Rattle.tas_model.specs.Endpoint.{Endpoint}
use Rattle.tas_model.specs.LegalHistory.{step, replay, extended_by, last_tick, Legal, MayFollow}
use Rattle.flow_state.specs.Calls.{call_of, offer_of, answer_of}
use Rattle.flow_state.specs.Flow.{Flow, reply_to}
use Rattle.flow_state.specs.declared.call.Answer.{Answer}
use Rattle.flow_state.specs.declared.call.Answer.TheVariants as answers
use Rattle.flow_state.specs.declared.call.CallIn.{CallIn}
use Rattle.flow_state.specs.declared.stage.Stage.{Stage}
use Rattle.flow_state.specs.declared.stage.Stage.TheVariants as stages
use Rattle.flow_judge.specs.Trials.{trial, offer, IsWithin, Answers, tried_entry}

-- The call is no step of the endpoint, at whatever tick.
abbrev pub HasNoStep : Endpoint → Call → Type 0
HasNoStep e call = (tick : ℕ) (reply : Reply) → step e tick call reply ≡ None

-- the connection stands
abbrev pub is_running_stage : Stage → Bool
is_running_stage stages.Running = true
is_running_stage _ = false

-- The call made its entry, and got its answer.
pub record Makes (answer : Answer) (before after : Flow) (caller : Caller) (tick : ℕ) (call : CallIn) : Type 0 where
  pub entries : after.entries ≡ extended_by before.params before.entries caller tick (call_of call) (offer_of call)
  pub answers : answer ≡ answer_of (reply_to before.params before.entries tick (call_of call) (offer_of call))

-- Either it did, or it is no step.
abbrev pub IsMade : Option Answer → (before after : Flow) → Caller → (tick : ℕ) → CallIn → Type 0
IsMade None before after caller tick call = HasNoStep (replay before.params before.entries) (call_of call)
IsMade (Some answer) before after caller tick call = Makes answer before after caller tick call

-- ----- of an entry
-- The call by which the entry is tried made its own entry, and got its answer.
pub record Tries (answer : Answer) (before after : Flow) (x : Entry) : Type 0 where
  pub within : IsWithin x.call x.reply
  pub entries : after.entries ≡ extended_by before.params before.entries x.caller x.tick (trial x) (offer x)
  pub answers : answer ≡ answer_of (reply_to before.params before.entries x.tick (trial x) (offer x))

-- Either it did, or the endpoint never answers so.
abbrev pub IsTried : Option Answer → (before after : Flow) → Entry → Type 0
IsTried None before after x = (tick : ℕ) → Answers (replay before.params before.entries) tick x → ⊥
IsTried (Some answer) before after x = Tries answer before after x

-- ----- of a history
-- The tried call got the reply that the entry shows.
pub record Confirms (before after : Flow) (x : Entry) : Type 0 where
  pub within : IsWithin x.call x.reply
  pub legal : Legal before.params before.entries
  pub more : Legal before.params after.entries
  pub entries : after.entries ≡ before.entries ++ tried_entry before.params before.entries x ∷ []
  pub reply : (tried_entry before.params before.entries x).reply ≡ x.reply
  pub few : length after.entries < 2 ^ 64

-- The entry may follow no history that leads where this one does.
abbrev pub Denies : Flow → Entry → Type 0
Denies f x = (h : List Entry) → replay f.params f.entries ≡ replay f.params h
    → last_tick 0 f.entries ≡ last_tick 0 h → MayFollow f.params h x → ⊥

-- ----- answers
-- an answer without the number of its bytes
abbrev pub bare_of : Answer → Answer
bare_of (answers.Sent head len) = answers.Sent head 0
bare_of (answers.Took len) = answers.Took 0
bare_of (answers.Got len update) = answers.Got 0 update
bare_of answer = answer
