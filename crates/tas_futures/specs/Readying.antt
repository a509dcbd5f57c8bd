-- A future that waits until the connection stands.
use Rattle.std.specs.Prelude.{◌≡◌, Result}
use Rattle.flow_state.specs.declared.call.CallIn.TheVariants as ins
use Rattle.libtas_sockets.specs.Answers.{answer_by}
use Rattle.libtas_sockets.specs.declared.socket_error.SocketError.{SocketError}
use Rattle.futures.specs.declared.task.Poll.{Poll}
use Rattle.futures.specs.declared.task.context.Context.{Context}
use Rattle.tas_futures.specs.declared.ready.ReadyFuture.{ReadyFuture}
use Rattle.tas_futures.specs.declared.side.Side.TheVariants.{Write}
use Rattle.tas_futures.specs.Polling.{Sight, sight_of, MayCall, HasMade, IsPolled, IsSameIo}

abbrev pub seen : ReadyFuture → Sight
seen f = sight_of f.io f.socket f.last

-- it may be polled
abbrev pub MayAsk : ReadyFuture → Type 0
MayAsk f = MayCall (seen f)

-- its one call was made and answered so
abbrev pub HasAsked : ReadyFuture → ReadyFuture → Result (Unit {0}) SocketError → Type 0
HasAsked f g answer = HasMade (seen f) (seen g) ins.Ready answer (λ reply. answer ≡ answer_by reply tt)

abbrev pub IsReadyPolled : ReadyFuture → ReadyFuture → Context → Poll (Result (Unit {0}) SocketError) → Type 0
IsReadyPolled f g cx result = IsPolled (seen f) (seen g) Write (HasAsked f g) cx result

-- it is the same but for what polls change
abbrev pub IsSameAsker : ReadyFuture → ReadyFuture → Type 0
IsSameAsker f g = IsSameIo f.io g.io × (g.socket ≡ f.socket)
