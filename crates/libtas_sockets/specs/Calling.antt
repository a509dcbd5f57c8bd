-- One call of an application on the flow of one of its sockets.
use Rattle.std.specs.Prelude.{◌≡◌, ℕ, List, [], length, Option, Result, Ok, Err}
use Rattle.std.specs.Option.{MatchOption}
use Rattle.tas_model.specs.declared.entry.Caller.{Caller}
use Rattle.tas_model.specs.declared.entry.Caller.TheVariants as callers
use Rattle.tas_model.specs.declared.entry.FlowId.{FlowId}
use Rattle.tas_model.specs.declared.entry.Call.TheVariants as calls
use Rattle.tas_model.specs.declared.entry.Reply.{Reply}
use Rattle.flow_state.specs.declared.call.CallIn.{CallIn}
use Rattle.flow_state.specs.declared.call.CallIn.TheVariants as ins
use Rattle.flow_state.specs.Calls.{call_of, offer_of}
use Rattle.flow_state.specs.Flow.{Flow, reply_to}
use Rattle.flow_lock.specs.declared.view.View.{View}
use Rattle.flow_lock.specs.declared.view.History.{History}
use Rattle.app_reaper.specs.OneCall.{history, history_with, IsOwn, IsUse, IsCallRefused}
use Rattle.app_reaper.specs.declared.one_call.CallFault.{CallFault}
use Rattle.libtas_sockets.specs.Apps.{Application, flow_of, with_view, without_socket}
use Rattle.libtas_sockets.specs.Answers.{IsReceived}
use Rattle.libtas_sockets.specs.declared.received.Received.{Received}
use Rattle.libtas_sockets.specs.declared.socket.Socket.{Socket}
use Rattle.libtas_sockets.specs.declared.socket_error.SocketError.{SocketError}
use Rattle.libtas_sockets.specs.declared.socket_error.SocketError.TheVariants as errors

-- The flow's own record was taken, and given back with the call's entry, which has this reply.
pub record IsEntry (id : FlowId) (caller : Caller) (tick : ℕ) (call : CallIn) (v w : View) (reply : Reply)
    : Type 0 where
  pub flow : Flow
  pub own : IsOwn id v flow
  pub replied : reply ≡ reply_to flow.params flow.entries tick (call_of call) (offer_of call)
  pub given : IsUse id flow (history_with flow caller tick call) v w

-- One entry was made, and `told` says what it led to; or none, with a fault.
abbrev pub IsCalled : FlowId → Caller → ℕ → CallIn → View → View → Option CallFault → (told : Reply → Type 0) → Type 0
IsCalled id caller tick call v w fault told =
    MatchOption fault ((reply : Reply) × IsEntry id caller tick call v w reply × told reply) (IsCallRefused id v w)

-- that of an application on the flow of its socket, by which nothing else changes
abbrev pub HasCalled : (before after : Application) → Socket → (tick : ℕ) → CallIn → Option CallFault
    → (told : Reply → Type 0) → Type 0
HasCalled a b s tick call fault told =
    IsCalled (flow_of a s) (callers.App a.number) tick call a.pass.view b.pass.view fault told
    × (b ≡ with_view b.pass.view a)

-- A Recv on a record that was taken: its entry was made, and the bytes stand in the buffer; or memory was wanting.
abbrev pub HasReceived : Caller → (tick : ℕ) → Flow → (after : History) → (room left : List ℕ)
    → Result Received SocketError → Type 0
HasReceived caller tick r after room left (Err errors.OutOfMemory) = (after ≡ history r) × (left ≡ room)
HasReceived caller tick r after room left result =
    (after ≡ history_with r caller tick (ins.Recv (length room)))
    × IsReceived room left result (reply_to r.params r.entries tick (calls.Recv (length room)) [])

-- ----- calls that end a socket
-- Close gives the pin up where it was made.
abbrev pub after_close : {T : Type 0} → Result T SocketError → Socket → Application → Application
after_close (Ok x) s a = without_socket s a
after_close (Err e) s a = a

-- Abort also where the flow was closed.
abbrev pub after_abort : {T : Type 0} → Result T SocketError → Socket → Application → Application
after_abort (Err (errors.Closed reason)) s a = without_socket s a
after_abort result s a = after_close result s a
