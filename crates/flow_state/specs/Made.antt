-- When a call was made: the parts stand for the model's next endpoint, and the answer is the model's reply.
use Rattle.std.specs.Prelude.{◌≡◌, ◌≤◌, ◌+◌, ℕ, zero, suc, Bool, true, false, List, [], length, Option, Some, None}
use Rattle.tas_model.specs.declared.entry.Caller.{Caller}
use Rattle.tas_model.specs.declared.entry.Reply.{Reply}
use Rattle.tas_model.specs.declared.entry.Reply.TheVariants as replies
use Rattle.tas_model.specs.Endpoint.{Endpoint}
use Rattle.tas_model.specs.Segments.{Outcome}
use Rattle.tas_model.specs.LegalHistory.{step, shown}
use Rattle.tas_model.specs.Valid.{Valid}
use Rattle.flow_state.specs.declared.parts.Parts.{Parts}
use Rattle.flow_state.specs.declared.call.CallIn.{CallIn}
use Rattle.flow_state.specs.declared.call.CallIn.TheVariants as ins
use Rattle.flow_state.specs.declared.call.Answer.{Answer}
use Rattle.flow_state.specs.declared.call.Answer.TheVariants as answers
use Rattle.flow_state.specs.declared.slot.Slot.{Slot}
use Rattle.flow_state.specs.Calls.{call_of, offer_of, reply_of, answer_len}
use Rattle.flow_state.specs.Arena.{Memory}
use Rattle.flow_state.specs.Slots.{entry_of, IsWithin}
use Rattle.flow_state.specs.Stands.{Stands}

-- the outcome is what stands afterwards
pub record IsOutcome (after : Parts) (answer : Answer) (out : List ℕ) (o : Outcome) : Type 0 where
  pub reply : o.reply ≡ reply_of answer out
  pub state : Stands after o.state

-- the call is a step, and its outcome is what stands afterwards
abbrev pub IsStep : (after : Parts) (answer : Answer) (out : List ℕ) → Option Outcome → Type 0
IsStep after answer out None = ⊥
IsStep after answer out (Some o) = IsOutcome after answer out o

-- The call was made. The step of a Send reads which bytes are taken from a reply; these are the first of its own.
pub record Makes (e : Endpoint) (tick : ℕ) (call : CallIn) (after : Parts) (out : List ℕ)
    (answer : Answer) : Type 0 where
  pub step : IsStep after answer out (step e tick (call_of call) (shown e (offer_of call)))

-- the call was made, and the slot has its entry, `out` having the reply's bytes
pub record IsMadeWith (before after : Parts) (memory : Memory) (caller : Caller) (number tick : ℕ) (call : CallIn)
    (answer : Answer) (slot : Slot) (out : List ℕ) : Type 0 where
  pub makes : (e : Endpoint) → Valid e → Stands before e → Makes e tick call after out answer
  pub entry : entry_of memory tick slot ≡ record {
    caller = caller;
    number = number;
    tick = tick;
    call = call_of call;
    reply = reply_of answer out;
  }
  pub within : IsWithin (length memory.bytes) (length memory.came) slot
  pub bytes : answer_len answer ≤ length out

-- the same, whatever memory the reply's bytes stood in first
abbrev pub IsMadeAt : (before after : Parts) (memory : Memory) (caller : Caller) (number tick : ℕ) (call : CallIn)
    (answer : Answer) (slot : Slot) → Type 0
IsMadeAt before after memory caller number tick call answer slot = (out : List ℕ)
    × IsMadeWith before after memory caller number tick call answer slot out

-- a tick of which nothing comes leads from parts to parts
pub record IsQuietTick (before : Parts) (tick : ℕ) (after : Parts) : Type 0 where
  pub makes : (e : Endpoint) → Valid e → Stands before e → Makes e tick ins.Tick after [] answers.Quiet
  pub params : after.params ≡ before.params

-- and so do so many, from this one on
abbrev pub AreQuietTicks : (before : Parts) → (tick n : ℕ) → (after : Parts) → Type 0
AreQuietTicks before tick zero after = after ≡ before
AreQuietTicks before tick (suc n) after =
    (between : Parts) × AreQuietTicks before tick n between × IsQuietTick between (tick + n) after

abbrev pub is_quiet : Reply → Bool
is_quiet replies.Quiet = true
is_quiet _ = false

-- the call is a step, and something comes of it
abbrev pub IsLoud : Option Outcome → Type 0
IsLoud None = ⊥
IsLoud (Some o) = is_quiet o.reply ≡ false

-- something comes of a tick of these parts
pub record IsLoudTick (parts : Parts) (tick : ℕ) : Type 0 where
  pub loud : (e : Endpoint) → Valid e → Stands parts e
      → IsLoud (step e tick (call_of ins.Tick) (shown e (offer_of ins.Tick)))
