-- What a call of an application answers, by the reply of the entry that it made.
use Rattle.std.specs.Prelude.{◌≡◌, ℕ, List, ◌++◌, length, drop, Bool, true, false, Option, Some, None, Result, Ok, Err}
use Rattle.std.specs.Prelude.{⊤}
use Rattle.tas_model.specs.declared.entry.Reply.{Reply}
use Rattle.flow_state.specs.declared.call.CallIn.{CallIn}
use Rattle.flow_state.specs.declared.call.CallIn.TheVariants as ins
use Rattle.flow_state.specs.declared.call.Answer.{Answer}
use Rattle.flow_state.specs.declared.call.Answer.TheVariants as answers
use Rattle.flow_state.specs.Calls.{answer_of, answer_len, reply_bytes}
use Rattle.flow_lock.specs.declared.pass.PinRefused.{PinRefused}
use Rattle.flow_lock.specs.declared.pass.PinRefused.TheVariants as pins
use Rattle.app_reaper.specs.declared.one_call.CallFault.{CallFault}
use Rattle.app_reaper.specs.declared.one_call.CallFault.TheVariants as faults
use Rattle.libtas_sockets.specs.declared.socket_error.SocketError.{SocketError}
use Rattle.libtas_sockets.specs.declared.socket_error.SocketError.TheVariants as errors
use Rattle.libtas_sockets.specs.declared.received.Received.{Received}
use Rattle.libtas_sockets.specs.declared.received.Received.TheVariants as received

-- ----- refusals that an entry shows
abbrev pub refusal_in : Answer → Option SocketError
refusal_in answers.NotYet = Some errors.NotYet
refusal_in answers.NotOpen = Some errors.NotOpen
refusal_in answers.Shut = Some errors.Shut
refusal_in (answers.Closed reason) = Some (errors.Closed reason)
refusal_in _ = None

abbrev pub refused_or : {T : Type 0} → Option SocketError → T → Result T SocketError
refused_or None x = Ok x
refused_or (Some e) x = Err e

-- the refusal that the reply is, or else `x`
abbrev pub answer_by : {T : Type 0} → Reply → T → Result T SocketError
answer_by reply x = refused_or (refusal_in (answer_of reply)) x

-- how many bytes the reply gives, or that the stream has ended
abbrev pub received_in : Answer → Received
received_in answers.End = received.End
received_in answer = received.Bytes (answer_len answer)

-- the reply's bytes stand first in the buffer
abbrev pub IsReceived : (before after : List ℕ) → Result Received SocketError → Reply → Type 0
IsReceived before after result reply =
    (result ≡ answer_by reply (received_in (answer_of reply)))
    × (after ≡ reply_bytes reply ++ drop (length (reply_bytes reply)) before)

-- ----- refusals without an entry
abbrev pub fault_of : SocketError → Option CallFault
fault_of (errors.Busy word) = Some (faults.Busy word)
fault_of errors.OutOfMemory = Some faults.OutOfMemory
fault_of _ = None

abbrev pub fault_in : {T : Type 0} → Result T SocketError → Option CallFault
fault_in (Ok x) = None
fault_in (Err e) = fault_of e

-- the flow was closed
abbrev pub is_closed : SocketError → Bool
is_closed (errors.Closed reason) = true
is_closed _ = false

-- a pin that was refused
abbrev pub error_of : PinRefused → SocketError
error_of (pins.Stale x) = errors.Stale x
error_of (pins.Moved x y) = errors.Moved x y

-- ----- which refusals a call has
abbrev pub IsRefusalOf : CallIn → SocketError → Type 0
IsRefusalOf call (errors.Busy word) = ⊤
IsRefusalOf call errors.OutOfMemory = ⊤
IsRefusalOf ins.Ready errors.NotYet = ⊤
IsRefusalOf ins.Ready (errors.Closed reason) = ⊤
IsRefusalOf (ins.Send bytes) errors.NotOpen = ⊤
IsRefusalOf (ins.Send bytes) (errors.Closed reason) = ⊤
IsRefusalOf (ins.Send bytes) errors.Shut = ⊤
IsRefusalOf (ins.Send bytes) errors.NotYet = ⊤
IsRefusalOf (ins.Recv most) errors.NotOpen = ⊤
IsRefusalOf (ins.Recv most) (errors.Closed reason) = ⊤
IsRefusalOf (ins.Recv most) errors.NotYet = ⊤
IsRefusalOf ins.Shut errors.NotOpen = ⊤
IsRefusalOf ins.Shut (errors.Closed reason) = ⊤
IsRefusalOf ins.Shut errors.Shut = ⊤
IsRefusalOf ins.Abort (errors.Closed reason) = ⊤
IsRefusalOf call e = ⊥
