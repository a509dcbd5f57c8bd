-- An application connects where nobody has a turn.
use Rattle.std.specs.Prelude.{◌≡◌, ℕ, [], ◌∷◌, ◌++◌, Some, None, Result, Ok, Err}
use Rattle.tas_num.specs.declared.seq.Seq.{Seq}
use Rattle.tas_model.specs.declared.entry.Caller.TheVariants as callers
use Rattle.tas_model.specs.declared.entry.FlowId.{FlowId}
use Rattle.tas_model.specs.declared.entry.FourTuple.{FourTuple}
use Rattle.tas_model.specs.declared.entry.HostParams.{HostParams}
use Rattle.flow_lock.specs.Answers.{IsPinned, next_in}
use Rattle.flow_lock.specs.Passes.{without_baton, with_baton}
use Rattle.flow_lock.specs.Steps.{opened}
use Rattle.flow_lock.specs.declared.view.History.{History}
use Rattle.flow_lock.specs.declared.view.View.{View}
use Rattle.libtas_sockets.specs.Apps.{Application, socket_on, with_view, with_socket}
use Rattle.libtas_sockets.specs.Connecting.{Opener, IsOnNext, first_history}
use Rattle.libtas_sockets.specs.declared.socket.Socket.{Socket}
use Rattle.libtas_sockets.specs.declared.socket_error.SocketError.{SocketError}
use Rattle.libtas_sockets.specs.declared.socket_error.SocketError.TheVariants as errors

-- The slow path opened the next flow with this history, and keeps its pin. Then the application pinned it with the
-- baton, and gave that back with all that is known.
pub record IsOpenedAlone (id : FlowId) (h : History) (a b : Application) (s n : Opener) : Type 0 where
  pub next : next_in s.pass.view.marks ≡ Some id
  pub pinned : View
  pub won : IsPinned id (with_baton a.pass.view (opened id h s.pass.view)) pinned
  pub joined : b ≡ with_socket id (with_view (without_baton pinned) a)
  pub kept : n ≡ record {
    pass = record (s.pass) { view = with_baton (opened id h s.pass.view) pinned };
    pins = s.pins ++ id ∷ [];
  }

-- The flow was opened and pinned, by its answer; or every slot has a flow, the application has a socket on the slot
-- that comes next, or memory was wanting, and none was.
abbrev pub IsConnectionAlone : FourTuple → Seq → (tick : ℕ) → HostParams → (before after : Application)
    → (before after : Opener) → Result Socket SocketError → Type 0
IsConnectionAlone tuple iss tick params a b s n (Ok socket) =
    (id : FlowId)
    × (socket ≡ socket_on id)
    × IsOpenedAlone id (first_history tuple params (callers.App a.number) tick iss) a b s n
IsConnectionAlone tuple iss tick params a b s n (Err errors.NoFlowSlot) =
    (next_in s.pass.view.marks ≡ None) × (b ≡ a) × (n ≡ s)
IsConnectionAlone tuple iss tick params a b s n (Err (errors.SlotInUse x)) = IsOnNext x a s × (b ≡ a) × (n ≡ s)
IsConnectionAlone tuple iss tick params a b s n (Err errors.OutOfMemory) = (b ≡ a) × (n ≡ s)
IsConnectionAlone tuple iss tick params a b s n (Err e) = ⊥
