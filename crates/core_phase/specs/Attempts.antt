-- What an application tries beside the cores.
use Rattle.std.specs.Prelude.{◌≡◌, ℕ, ◌<◌, ◌≤◌, ◌^◌, Bool, true, false, List, [], length, Result, Ok, Err, ⊤}
use denote.Bor.{Bor}
use Rattle.tas_model.specs.declared.entry.FlowId.{FlowId}
use Rattle.flow_state.specs.declared.call.CallIn.TheVariants as ins
use Rattle.flow_lock.specs.declared.view.Deed.{Deed}
use Rattle.libtas_sockets.specs.Answers.{fault_in, IsReceived}
use Rattle.libtas_sockets.specs.Apps.{Application, IsSocket}
use Rattle.libtas_sockets.specs.Calling.{HasCalled, after_close, after_abort}
use Rattle.libtas_sockets.specs.declared.received.Received.{Received}
use Rattle.libtas_sockets.specs.declared.socket.Socket.{Socket}
use Rattle.libtas_sockets.specs.declared.socket_error.SocketError.{SocketError}
use Rattle.libtas_sockets.specs.declared.socket_error.SocketError.TheVariants as errors
use Rattle.tas_model.specs.declared.entry.Call.{Call}
use Rattle.tas_model.specs.declared.entry.Call.TheVariants as calls
use Rattle.app_deeds.specs.Deeds.{AreOfCall, left_by_close, left_by_abort, tells_sent, tells_done}
use Rattle.core_phase.specs.declared.attempt.Attempt.{Attempt}
use Rattle.core_phase.specs.declared.attempt.Attempt.TheVariants as attempts
use Rattle.core_phase.specs.declared.attempt.Answered.{Answered}
use Rattle.core_phase.specs.declared.attempt.Answered.TheVariants as answers

-- ----- conditions
abbrev pub MayTry : Application → Socket → Attempt → Type 0
MayTry a s attempts.Nothing = ⊤
MayTry a s (attempts.Send bytes) = IsSocket a s × (length bytes.items < 2 ^ 32)
MayTry a s (attempts.Recv buf) = IsSocket a s × (1 ≤ length buf.items) × (length buf.items ≤ 65536)
MayTry a s attempts.Shut = IsSocket a s
MayTry a s attempts.Close = IsSocket a s
MayTry a s attempts.Abort = IsSocket a s

-- the buffer, as it was left
abbrev pub room_of : Attempt → List ℕ
room_of (attempts.Recv buf) = buf.items
room_of attempt = []

-- ----- in the model
-- the call that is tried, where one is
abbrev pub IsCallOf : Attempt → Call → Type 0
IsCallOf attempts.Nothing call = ⊥
IsCallOf (attempts.Send bytes) call = call ≡ calls.Send (length bytes.items)
IsCallOf (attempts.Recv buf) call = call ≡ calls.Recv (length buf.items)
IsCallOf attempts.Shut call = call ≡ calls.Shut
IsCallOf attempts.Close call = call ≡ calls.Close
IsCallOf attempts.Abort call = call ≡ calls.Abort

-- the bytes that a Send offers
abbrev pub offer_in : Attempt → List ℕ
offer_in (attempts.Send bytes) = bytes.items
offer_in attempt = []

-- another pass held the record
abbrev pub is_busy_error : SocketError → Bool
is_busy_error (errors.Busy word) = true
is_busy_error e = false

abbrev pub is_busy_in : {T : Type 0} → Result T SocketError → Bool
is_busy_in (Ok x) = false
is_busy_in (Err e) = is_busy_error e

abbrev pub is_busy : Answered → Bool
is_busy answers.Nothing = false
is_busy (answers.Sent result) = is_busy_in result
is_busy (answers.Read result) = is_busy_in result
is_busy (answers.Done result) = is_busy_in result

-- ----- what was done
abbrev pub HasTried : Socket → (tick : ℕ) → (a b : Application) → (before after : Attempt) → Answered → Type 0
HasTried s tick a b attempts.Nothing after answer = (b ≡ a) × (answer ≡ answers.Nothing)
HasTried s tick a b (attempts.Send bytes) after answer =
    (offered : Bor (List ℕ)) × (offered.now ≡ bytes.items)
    × (result : Result ℕ SocketError) × (answer ≡ answers.Sent result)
    × HasCalled a b s tick (ins.Send offered) (fault_in result) (tells_sent result)
HasTried s tick a b (attempts.Recv buf) after answer =
    (result : Result Received SocketError) × (answer ≡ answers.Read result)
    × HasCalled a b s tick (ins.Recv (length buf.items)) (fault_in result) (IsReceived buf.items (room_of after) result)
HasTried s tick a b attempts.Shut after answer =
    (result : Result (Unit {0}) SocketError) × (answer ≡ answers.Done result)
    × HasCalled a b s tick ins.Shut (fault_in result) (tells_done result)
HasTried s tick a b attempts.Close after answer =
    (result : Result (Unit {0}) SocketError) × (answer ≡ answers.Done result)
    × (m : Application) × HasCalled a m s tick ins.Close (fault_in result) (tells_done result)
    × (b ≡ after_close result s m)
HasTried s tick a b attempts.Abort after answer =
    (result : Result (Unit {0}) SocketError) × (answer ≡ answers.Done result)
    × (m : Application) × HasCalled a m s tick ins.Abort (fault_in result) (tells_done result)
    × (b ≡ after_abort result s m)

-- ----- what that put into the turn
abbrev pub AreOfTry : (app : ℕ) → FlowId → (tick : ℕ) → (before after : Attempt) → Answered → List Deed → Type 0
AreOfTry app id tick attempts.Nothing after answer ds = ds ≡ []
AreOfTry app id tick (attempts.Send bytes) after answer ds =
    (offered : Bor (List ℕ)) × (offered.now ≡ bytes.items)
    × (result : Result ℕ SocketError) × (answer ≡ answers.Sent result)
    × AreOfCall app id tick (ins.Send offered) (fault_in result) (tells_sent result) ds
AreOfTry app id tick (attempts.Recv buf) after answer ds =
    (result : Result Received SocketError) × (answer ≡ answers.Read result)
    × AreOfCall app id tick (ins.Recv (length buf.items)) (fault_in result)
    (IsReceived buf.items (room_of after) result) ds
AreOfTry app id tick attempts.Shut after answer ds =
    (result : Result (Unit {0}) SocketError) × (answer ≡ answers.Done result)
    × AreOfCall app id tick ins.Shut (fault_in result) (tells_done result) ds
AreOfTry app id tick attempts.Close after answer ds =
    (result : Result (Unit {0}) SocketError) × (answer ≡ answers.Done result)
    × AreOfCall app id tick ins.Close (fault_in result) (tells_done result) ds
AreOfTry app id tick attempts.Abort after answer ds =
    (result : Result (Unit {0}) SocketError) × (answer ≡ answers.Done result)
    × AreOfCall app id tick ins.Abort (fault_in result) (tells_done result) ds

-- the pin that was given up
abbrev pub pin_left : FlowId → Attempt → Answered → List FlowId
pin_left id attempts.Close (answers.Done result) = left_by_close result id
pin_left id attempts.Abort (answers.Done result) = left_by_abort result id
pin_left id attempt answer = []
