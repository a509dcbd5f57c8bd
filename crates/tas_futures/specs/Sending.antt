-- A future that sends.
use Rattle.std.specs.Prelude.{◌≡◌, ℕ, ◌<◌, ◌^◌, List, length, Result}
use Rattle.flow_state.specs.declared.call.CallIn.{CallIn}
use Rattle.flow_state.specs.declared.call.CallIn.TheVariants as ins
use Rattle.flow_state.specs.Calls.{reply_bytes}
use Rattle.libtas_sockets.specs.Answers.{answer_by}
use Rattle.libtas_sockets.specs.declared.socket_error.SocketError.{SocketError}
use Rattle.futures.specs.declared.task.Poll.{Poll}
use Rattle.futures.specs.declared.task.context.Context.{Context}
use Rattle.tas_futures.specs.declared.send.SendFuture.{SendFuture}
use Rattle.tas_futures.specs.declared.side.Side.TheVariants.{Write}
use Rattle.tas_futures.specs.Polling.{Sight, sight_of, MayCall, HasMade, IsPolled, IsSameIo}

abbrev pub seen : SendFuture → Sight
seen f = sight_of f.io f.socket f.last

abbrev pub send_call : SendFuture → CallIn
send_call f = ins.Send f.bytes

-- it may be polled
abbrev pub MaySend : SendFuture → Type 0
MaySend f = MayCall (seen f) × (length f.bytes.now < 2 ^ 32)

-- its one call was made and answered so
abbrev pub HasSent : SendFuture → SendFuture → Result ℕ SocketError → Type 0
HasSent f g answer =
    HasMade (seen f) (seen g) (send_call f) answer (λ reply. answer ≡ answer_by reply (length (reply_bytes reply)))

abbrev pub IsSendPolled : SendFuture → SendFuture → Context → Poll (Result ℕ SocketError) → Type 0
IsSendPolled f g cx result = IsPolled (seen f) (seen g) Write (HasSent f g) cx result

-- it is the same but for what polls change
abbrev pub IsSameSender : SendFuture → SendFuture → Type 0
IsSameSender f g = IsSameIo f.io g.io × (g.socket ≡ f.socket) × (g.bytes ≡ f.bytes)
