-- What applications try beside the cores, and what they were answered.
use Rattle.std.specs.Prelude.{◌≡◌, ℕ, ◌<◌, ◌≤◌, ◌==◌, ◌^◌, List, length, position, slice_get, Option, Some, None}
use Rattle.std.specs.Prelude.{IsSome, Ok, Err, ⊤}
use Rattle.tas_model.specs.declared.entry.FlowId.{FlowId}
use Rattle.host_rounds.specs.Hosts.{Application}
use Rattle.host_rounds.specs.Lists.{change_at}
use Rattle.flow_state.specs.Calls.{call_of, offer_of}
use Rattle.flow_state.specs.declared.call.Answer.{Answer}
use Rattle.flow_state.specs.declared.call.Answer.TheVariants as tells
use Rattle.flow_state.specs.declared.call.CallIn.{CallIn}
use Rattle.flow_state.specs.declared.call.CallIn.TheVariants as ins
use Rattle.host_books.specs.Books.{Book}
use Rattle.libtas_sockets.specs.Apps.{flow_of}
use Rattle.libtas_sockets.specs.declared.received.Received.TheVariants as received
use Rattle.libtas_sockets.specs.declared.socket.Socket.{Socket}
use Rattle.libtas_sockets.specs.declared.socket_error.SocketError.{SocketError}
use Rattle.libtas_sockets.specs.declared.socket_error.SocketError.TheVariants as errors
use Rattle.core_phase.specs.Attempts.{MayTry, IsCallOf, offer_in}
use Rattle.core_phase.specs.declared.attempt.Answered.{Answered}
use Rattle.core_phase.specs.declared.attempt.Answered.TheVariants as answers
use Rattle.core_phase.specs.declared.attempt.Attempt.{Attempt}
use Rattle.core_phase.specs.declared.attempt.Attempt.TheVariants as attempts
use Rattle.core_phase.specs.declared.lane.AppLane.{AppLane}
use Rattle.core_phase.specs.declared.lane.Lane.{Lane}
use Rattle.core_phase.specs.declared.lane.Lane.TheVariants as lanes
use Rattle.core_host.specs.Sound.{IsStaffSound}
use Rattle.core_host.specs.Views.{Staffed}

-- ----- applications
-- the application runs on the host
abbrev pub Runs : (app : ℕ) → Staffed → Type 0
Runs app h = IsSome (position (λ (n : ℕ). n == app) h.names)

-- it has the socket of the flow that stands at this place among the books
abbrev pub HasSocketAt : (app place : ℕ) → Staffed → Type 0
HasSocketAt app n h = (b : Book) × (slice_get h.host.books n ≡ Some b) × (b.holder ≡ Application app)

-- The lane at this place is the application's.
pub record IsLaneAt (app place : ℕ) (l : AppLane) (ls : List Lane) : Type 0 where
  pub there : slice_get ls place ≡ Some (lanes.App l)
  pub number : l.app.number ≡ app

-- ----- calls
-- The calls that may be tried beside the cores. A Send offers fewer than 2^32 bytes, and a Recv asks for 1 to 65,536.
abbrev pub IsTryCall : CallIn → Type 0
IsTryCall (ins.Send bytes) = length bytes.now < 2 ^ 32
IsTryCall (ins.Recv most) = (1 ≤ most) × (most ≤ 65536)
IsTryCall ins.Shut = ⊤
IsTryCall ins.Close = ⊤
IsTryCall ins.Abort = ⊤
IsTryCall _ = ⊥

-- the call is tried, with the bytes that it offers
abbrev pub IsAttemptOf : CallIn → Attempt → Type 0
IsAttemptOf call attempt = IsCallOf attempt (call_of call) × (offer_in attempt ≡ offer_of call)

abbrev pub with_attempt : Socket → Attempt → AppLane → Lane
with_attempt s attempt l = lanes.App (record l { socket = s; attempt = attempt })

-- The application tries this call on the socket of this flow in the next phase: its lane says so, and nothing else
-- changed.
pub record IsTrying (app : ℕ) (id : FlowId) (call : CallIn) (before after : Staffed) : Type 0 where
  pub place : ℕ
  pub lane : AppLane
  pub own : IsLaneAt app place lane before.lanes
  pub socket : Socket
  pub flow : flow_of lane.app socket ≡ id
  pub attempt : Attempt
  pub call_is : IsAttemptOf call attempt
  pub may : MayTry lane.app socket attempt
  pub lanes : after.lanes ≡ change_at place (λ (v : Lane). with_attempt socket attempt lane) before.lanes
  pub sound : IsStaffSound after
  pub same : after ≡ record before { lanes = after.lanes }

-- ----- answers
-- What a refusal tells, where the call was made.
abbrev pub refusal_told : SocketError → Option Answer
refusal_told errors.NotYet = Some tells.NotYet
refusal_told errors.NotOpen = Some tells.NotOpen
refusal_told errors.Shut = Some tells.Shut
refusal_told (errors.Closed reason) = Some (tells.Closed reason)
refusal_told e = None

-- What an application is told of a call that was made; nothing where another pass had the record, or nothing was tried.
abbrev pub answer_told : Answered → Option Answer
answer_told answers.Nothing = None
answer_told (answers.Sent (Ok len)) = Some (tells.Took len)
answer_told (answers.Sent (Err e)) = refusal_told e
answer_told (answers.Read (Ok (received.Bytes len))) = Some (tells.Got len None)
answer_told (answers.Read (Ok received.End)) = Some tells.End
answer_told (answers.Read (Err e)) = refusal_told e
answer_told (answers.Done (Ok x)) = Some tells.Ok
answer_told (answers.Done (Err e)) = refusal_told e

abbrev pub without_attempt : AppLane → Lane
without_attempt l = lanes.App (record l { attempt = attempts.Nothing; answer = answers.Nothing })

-- The application was told its answer, and tries nothing more: its lane says so, and nothing else changed.
pub record IsAnswerTaken (app : ℕ) (answer : Option Answer) (before after : Staffed) : Type 0 where
  pub place : ℕ
  pub lane : AppLane
  pub own : IsLaneAt app place lane before.lanes
  pub told : answer ≡ answer_told lane.answer
  pub lanes : after.lanes ≡ change_at place (λ (v : Lane). without_attempt lane) before.lanes
  pub sound : IsStaffSound after
  pub same : after ≡ record before { lanes = after.lanes }
