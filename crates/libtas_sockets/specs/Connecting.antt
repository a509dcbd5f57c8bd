-- An application connects to a port of a host.
use Rattle.std.specs.Prelude.{◌≡◌, ℕ, ◌+◌, ◌==◌, ◌&&◌, ◌||◌, not, Bool, true, false, List, [], ◌∷◌, ◌++◌, All}
use Rattle.std.specs.Prelude.{if◌then◌else◌}
use Rattle.std.specs.Prelude.{Option, Some, Result, Ok, Err}
use Rattle.std.specs.List.{filter, find}
use Rattle.tas_num.specs.declared.seq.Seq.{Seq}
use Rattle.tas_model.specs.declared.entry.Caller.{Caller}
use Rattle.tas_model.specs.declared.entry.Caller.TheVariants as callers
use Rattle.tas_model.specs.declared.entry.FlowId.{FlowId}
use Rattle.tas_model.specs.declared.entry.FourTuple.{FourTuple}
use Rattle.tas_model.specs.declared.entry.HostParams.{HostParams}
use Rattle.flow_state.specs.Flow.{first_connect}
use Rattle.flow_lock.specs.Answers.{IsPinned, IsRefused, next_in, is_open_in}
use Rattle.flow_lock.specs.Orders.{same_flow}
use Rattle.flow_lock.specs.Passes.{Seen}
use Rattle.flow_lock.specs.Steps.{opened}
use Rattle.flow_lock.specs.declared.pass.PinRefused.TheVariants as pins
use Rattle.flow_lock.specs.declared.view.History.{History}
use Rattle.flow_lock.specs.declared.view.Mark.{Mark}
use Rattle.slow_handshake.specs.Openings.{Openings, first_port, next_after}
use Rattle.libtas_sockets.specs.Apps.{Application, IsSocket, socket_on, with_view, with_socket}
use Rattle.libtas_sockets.specs.declared.begun.Begun.{Begun}
use Rattle.libtas_sockets.specs.declared.begun.Target.{Target}
use Rattle.libtas_sockets.specs.declared.begun.Target.TheVariants.{To, Of}
use Rattle.libtas_sockets.specs.declared.socket.Socket.{Socket}
use Rattle.libtas_sockets.specs.declared.socket_error.SocketError.{SocketError}
use Rattle.libtas_sockets.specs.declared.socket_error.SocketError.TheVariants as errors

-- ----- begun flows
-- the flow has the remote address and port, or exactly the four-tuple, that is wanted
abbrev pub fits : Target → Begun → Bool
fits (To raddr rport) b = b.tuple.raddr == raddr && b.tuple.rport == rport
fits (Of t) b =
    b.tuple.laddr == t.laddr && b.tuple.lport == t.lport && b.tuple.raddr == t.raddr && b.tuple.rport == t.rport

-- Those that are wanted, and of which `is_open` is false, are no longer begun.
abbrev pub still_begun : Target → List Mark → List Begun → List Begun
still_begun target marks = filter (λ (b : Begun). not (fits target b) || is_open_in marks b.id)

-- this flow is no longer begun
abbrev pub begun_without : FlowId → List Begun → List Begun
begun_without id = filter (λ (b : Begun). not (same_flow b.id id))

-- the application after it looked for a begun flow
abbrev pub looked_up : Target → (slow : Seen) → Application → Application
looked_up target slow a = record a { begun = still_begun target slow.view.marks a.begun }

-- the begun flow that a connect takes up: of several the one that was opened first
abbrev pub begun_for : Target → (slow : Seen) → Application → Option Begun
begun_for target slow a = find (fits target) (still_begun target slow.view.marks a.begun)

abbrev pub id_of : Begun → FlowId
id_of b = b.id

-- the begun flow is pinned, or stays begun
abbrev pub IsTakenUp : FlowId → (before after : Application) → Result Socket SocketError → Type 0
IsTakenUp id a b (Ok s) =
    (s ≡ socket_on id)
    × IsPinned id a.pass.view b.pass.view
    × (b ≡ record (with_socket id (with_view b.pass.view a)) { begun = begun_without id a.begun })
IsTakenUp id a b (Err (errors.Stale x)) =
    IsRefused id a.pass.view b.pass.view (pins.Stale x) × (b ≡ with_view b.pass.view a)
IsTakenUp id a b (Err (errors.Moved x y)) =
    IsRefused id a.pass.view b.pass.view (pins.Moved x y) × (b ≡ with_view b.pass.view a)
IsTakenUp id a b (Err (errors.SlotInUse s)) = (s ≡ socket_on id) × IsSocket a s × (b ≡ a)
IsTakenUp id a b (Err errors.OutOfMemory) = b ≡ a
IsTakenUp id a b (Err e) = ⊥

-- ----- flows that are opened
-- the history that a connect begins
abbrev pub first_history : FourTuple → HostParams → Caller → (tick : ℕ) → Seq → History
first_history tuple params caller tick iss =
    record { tuple = tuple; params = params; entries = first_connect caller tick iss ∷ [] }

-- the slow path's pass, and its list of pins
pub record Opener : Type 0 where
  pub pass : Seen
  pub pins : List FlowId

abbrev pub opener : Seen → List FlowId → Opener
opener pass pins = record { pass = pass; pins = pins }

-- The slow path opened the next flow with this history, and keeps its pin.
abbrev pub IsOpened : FlowId → History → (before after : Opener) → Type 0
IsOpened id h s n =
    (next_in s.pass.view.marks ≡ Some id)
    × (n ≡ record { pass = record (s.pass) { view = opened id h s.pass.view }; pins = s.pins ++ id ∷ [] })

-- the application pinned the flow that was opened, or it is begun
abbrev pub IsJoined : FlowId → FourTuple → (before after : Application) → Result Socket SocketError → Type 0
IsJoined id tuple a b (Ok s) =
    (s ≡ socket_on id) × IsPinned id a.pass.view b.pass.view × (b ≡ with_socket id (with_view b.pass.view a))
IsJoined id tuple a b (Err (errors.Stale x)) =
    IsRefused id a.pass.view b.pass.view (pins.Stale x)
    × (b ≡ record (with_view b.pass.view a) { begun = a.begun ++ record { id = id; tuple = tuple } ∷ [] })
IsJoined id tuple a b (Err (errors.Moved x y)) =
    IsRefused id a.pass.view b.pass.view (pins.Moved x y)
    × (b ≡ record (with_view b.pass.view a) { begun = a.begun ++ record { id = id; tuple = tuple } ∷ [] })
IsJoined id tuple a b (Err e) = ⊥

-- each socket is on a flow that the slow path has open
abbrev pub AreOpen : List Mark → Application → Type 0
AreOpen marks a = All (λ (f : FlowId). is_open_in marks f ≡ true) a.sockets

-- the application has a socket on the slot that comes next
abbrev pub IsOnNext : Socket → Application → Opener → Type 0
IsOnNext s a o = (id : FlowId) × (next_in o.pass.view.marks ≡ Some id) × (s ≡ socket_on id) × IsSocket a s

-- A flow with this history was opened, and then pinned or not; or memory was wanting, or the application has a socket
-- there, and none was.
abbrev pub IsOpening : History → (before after : Application) → (before after : Opener) → Result Socket SocketError
    → Type 0
IsOpening h a b s n (Err (errors.SlotInUse x)) = IsOnNext x a s × (b ≡ a) × (n ≡ s)
IsOpening h a b s n (Err errors.OutOfMemory) = (b ≡ a) × (n ≡ s)
IsOpening h a b s n result = (id : FlowId) × IsOpened id h s n × IsJoined id h.tuple a b result

-- ----- connect
-- the ends of the next flow to this port of a host
abbrev pub next_tuple : Openings → (raddr rport : ℕ) → FourTuple
next_tuple o raddr rport =
    record { laddr = o.params.addr; lport = first_port + o.ports; raddr = raddr; rport = rport }

-- a port and a first number were given
abbrev pub numbers_given : Openings → Openings
numbers_given o = record o { ports = o.ports + 1; next_iss = next_after o.next_iss }

-- a flow was opened: the answer is a socket, or a refused pin
abbrev pub does_open : Result Socket SocketError → Bool
does_open (Ok s) = true
does_open (Err (errors.Stale x)) = true
does_open (Err (errors.Moved x y)) = true
does_open (Err e) = false

-- The lists after a connect that pinned no begun flow: one that opened none uses up no port and no first number.
abbrev pub after_connect : Result Socket SocketError → Openings → Openings
after_connect result o = if does_open result then numbers_given o else o

-- a connect that pins no begun flow, by its answer
abbrev pub IsConnection : (raddr rport tick : ℕ) → Openings → (before after : Application) → (before after : Opener)
    → Result Socket SocketError → Type 0
IsConnection raddr rport tick o a b s n (Err errors.NoFlowSlot) = (b ≡ a) × (n ≡ s)
IsConnection raddr rport tick o a b s n (Err errors.NoPort) = (b ≡ a) × (n ≡ s)
IsConnection raddr rport tick o a b s n result =
    let h : History = first_history (next_tuple o raddr rport) o.params (callers.App a.number) tick o.next_iss in
    IsOpening h a b s n result

-- one whose ends and first number are given
abbrev pub IsConnectionAs : FourTuple → Seq → (tick : ℕ) → HostParams → (before after : Application)
    → (before after : Opener) → Result Socket SocketError → Type 0
IsConnectionAs tuple iss tick params a b s n (Err errors.NoFlowSlot) = (b ≡ a) × (n ≡ s)
IsConnectionAs tuple iss tick params a b s n result =
    IsOpening (first_history tuple params (callers.App a.number) tick iss) a b s n result
