-- What a poll gives by the answer of its one call.
use Rattle.std.specs.Prelude.{◌≡◌, true, Option, Some, None, Result, Ok, Err, ⊤}
use Rattle.libtas_sockets.specs.declared.socket_error.SocketError.{SocketError}
use Rattle.libtas_sockets.specs.declared.socket_error.SocketError.TheVariants as errors
use Rattle.futures.specs.declared.task.Poll.{Poll}
use Rattle.futures.specs.declared.task.Poll.TheVariants.{Ready, Pending}
use Rattle.futures.specs.declared.task.context.Context.{Context}

-- A call is to be made again where there was nothing to do yet, or another pass held the record.
abbrev pub polled : {T : Type 0} → Result T SocketError → Poll (Result T SocketError)
polled (Err errors.NotYet) = Pending
polled (Err (errors.Busy word)) = Pending
polled answer = Ready answer

-- the answer of the last poll that was pending, after a call was answered so
abbrev pub last_after : {T : Type 0} → Result T SocketError → Option SocketError → Option SocketError
last_after (Err errors.NotYet) last = Some errors.NotYet
last_after (Err (errors.Busy word)) last = Some (errors.Busy word)
last_after answer last = last

-- an answer after which the call is not to be made again
abbrev pub IsFinal : {T : Type 0} → Result T SocketError → Type 0
IsFinal (Err errors.NotYet) = ⊥
IsFinal (Err (errors.Busy word)) = ⊥
IsFinal answer = ⊤

-- Nobody tells that a record was given back: after Busy the poll has asked for another.
abbrev pub AsksAgain : Option SocketError → Context → Type 0
AsksAgain (Some (errors.Busy word)) after = after.is_woken ≡ true
AsksAgain last after = ⊤
