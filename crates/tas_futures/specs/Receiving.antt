-- A future that reads.
use Rattle.std.specs.Prelude.{◌≡◌, ℕ, ◌≤◌, List, length, Result, OnErr}
use Rattle.flow_state.specs.declared.call.CallIn.{CallIn}
use Rattle.flow_state.specs.declared.call.CallIn.TheVariants as ins
use Rattle.libtas_sockets.specs.Answers.{IsReceived}
use Rattle.libtas_sockets.specs.declared.received.Received.{Received}
use Rattle.libtas_sockets.specs.declared.socket_error.SocketError.{SocketError}
use Rattle.futures.specs.declared.task.Poll.{Poll}
use Rattle.futures.specs.declared.task.context.Context.{Context}
use Rattle.tas_futures.specs.declared.recv.RecvFuture.{RecvFuture}
use Rattle.tas_futures.specs.declared.side.Side.TheVariants.{Read}
use Rattle.tas_futures.specs.Polling.{Sight, sight_of, MayCall, HasMade, IsPolled, IsSameIo}

abbrev pub seen : RecvFuture → Sight
seen f = sight_of f.io f.socket f.last

-- what stands in its buffer
abbrev pub buffer : RecvFuture → List ℕ
buffer f = f.buf.now

abbrev pub recv_call : RecvFuture → CallIn
recv_call f = ins.Recv (length f.buf.now)

-- it may be polled
abbrev pub MayRead : RecvFuture → Type 0
MayRead f = MayCall (seen f) × (1 ≤ length f.buf.now) × (length f.buf.now ≤ 65536)

-- its one call was made and answered so, and a refusal left the buffer as it was
abbrev pub HasRead : RecvFuture → RecvFuture → Result Received SocketError → Type 0
HasRead f g answer =
    HasMade (seen f) (seen g) (recv_call f) answer (IsReceived f.buf.now g.buf.now answer)
    × OnErr answer (g.buf.now ≡ f.buf.now)

abbrev pub IsReadPolled : RecvFuture → RecvFuture → Context → Poll (Result Received SocketError) → Type 0
IsReadPolled f g cx result = IsPolled (seen f) (seen g) Read (HasRead f g) cx result

-- it is the same but for what polls change
abbrev pub IsSameReader : RecvFuture → RecvFuture → Type 0
IsSameReader f g = IsSameIo f.io g.io × (g.socket ≡ f.socket) × (g.buf.ghost_name ≡ f.buf.ghost_name)
