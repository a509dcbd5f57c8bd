-- What an application did in its turn, in the words of a run.
use Rattle.std.specs.Prelude.{◌≡◌, ℕ, Bool, true, false, not, cond, List, [], ◌∷◌, map, Option, Some, None, is_some}
use Rattle.std.specs.Prelude.{Result}
use Rattle.tas_model.specs.declared.entry.Reply.{Reply}
use Rattle.tas_model.specs.LegalHistory.{Legal}
use Rattle.flow_lock.specs.declared.view.Deed.{Deed}
use Rattle.flow_lock.specs.declared.view.History.{History}
use Rattle.host_books.specs.Leavings.{Leaving, leaving_on}
use Rattle.host_books.specs.Tries.{Try, Word, reply_on}
use Rattle.libtas_sockets.specs.Answers.{fault_in, IsReceived}
use Rattle.libtas_sockets.specs.declared.received.Received.{Received}
use Rattle.libtas_sockets.specs.declared.socket_error.SocketError.{SocketError}
use Rattle.app_deeds.specs.Deeds.{tells_sent, tells_done}
use Rattle.core_phase.specs.Attempts.{room_of}
use Rattle.core_phase.specs.Words.{try_word}
use Rattle.core_phase.specs.declared.attempt.Attempt.{Attempt}
use Rattle.core_phase.specs.declared.attempt.Attempt.TheVariants as attempts
use Rattle.core_phase.specs.declared.attempt.Answered.{Answered}
use Rattle.core_phase.specs.declared.attempt.Answered.TheVariants as answers
use Rattle.lane_orders.specs.Turns.{Did}

-- ----- what was asked
-- The call was made, and not refused by a fault. A refusal that the flow's history shows is no fault.
abbrev pub is_made_in : {T : Type 0} → Result T SocketError → Bool
is_made_in result = not (is_some (fault_in result))

abbrev pub is_made : Answered → Bool
is_made answers.Nothing = false
is_made (answers.Sent result) = is_made_in result
is_made (answers.Read result) = is_made_in result
is_made (answers.Done result) = is_made_in result

-- what was asked in a turn with this answer, as a list of one, or none
abbrev pub asked_by : {S A : Type 0} → Option (Try S A) → Answered → List A
asked_by None answer = []
asked_by (Some x) answer = cond (is_made answer) (x.ask ∷ []) []

-- ----- what that leaves
-- the reply that the answer is by
abbrev pub IsTold : (before after : Attempt) → Answered → Reply → Type 0
IsTold attempts.Nothing after answer reply = ⊥
IsTold (attempts.Send bytes) after answer reply =
    (result : Result ℕ SocketError) × (answer ≡ answers.Sent result) × tells_sent result reply
IsTold (attempts.Recv buf) after answer reply =
    (result : Result Received SocketError) × (answer ≡ answers.Read result)
    × IsReceived buf.items (room_of after) result reply
IsTold attempts.Shut after answer reply =
    (result : Result (Unit {0}) SocketError) × (answer ≡ answers.Done result) × tells_done result reply
IsTold attempts.Close after answer reply =
    (result : Result (Unit {0}) SocketError) × (answer ≡ answers.Done result) × tells_done result reply
IsTold attempts.Abort after answer reply =
    (result : Result (Unit {0}) SocketError) × (answer ≡ answers.Done result) × tells_done result reply

-- What a call leaves of the books and its script that was made, or wasn't, as a list of one, or none: it was made on
-- some legal history, whose reply the answer is by.
abbrev pub IsLeftIf : {S A : Type 0} → (made : Bool) → (t : ℕ) → Try S A → (before after : Attempt) → Answered
    → List (Leaving S) → Type 0
IsLeftIf false t x before after answer ls = ls ≡ []
IsLeftIf true t x before after answer ls =
    (h : History) × Legal h.params h.entries × IsTold before after answer (reply_on t x h)
    × (ls ≡ leaving_on t h x ∷ [])

-- so it is with what a script asks, where it asks something
abbrev pub IsLeftBy : {S A : Type 0} → (t : ℕ) → Option (Try S A) → (before after : Attempt) → Answered
    → List (Leaving S) → Type 0
IsLeftBy t None before after answer ls = ls ≡ []
IsLeftBy t (Some x) before after answer ls = IsLeftIf (is_made answer) t x before after answer ls

-- ----- a turn
-- the words of these deeds: each is what the script asks
abbrev pub try_words : {S A : Type 0} → Option (Try S A) → List Deed → List (Word S A)
try_words None ds = []
try_words (Some x) ds = map (try_word x) ds

abbrev pub app_did : {S A : Type 0} → Option (Try S A) → List Deed → Did S A
app_did o ds = record { words = try_words o ds; frames = []; left = [] }
