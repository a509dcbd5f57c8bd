-- An application accepts a flow of its listener.
use Rattle.std.specs.Prelude.{◌≡◌, ℕ, ◌⊎◌, not, Bool, true, false, if◌then◌else◌, Result, Ok, Err, ⊤}
use Rattle.std.specs.List.{filter}
use Rattle.tas_model.specs.declared.entry.Caller.{Caller}
use Rattle.tas_model.specs.declared.entry.Caller.TheVariants as callers
use Rattle.tas_model.specs.declared.entry.FlowId.{FlowId}
use Rattle.tas_model.specs.declared.entry.Phase.{Phase}
use Rattle.tas_model.specs.Endpoint.{Endpoint, phase}
use Rattle.tas_model.specs.ApplicationCalls.{Opening, Over, Running, column}
use Rattle.tas_model.specs.LegalHistory.{replay}
use Rattle.flow_state.specs.declared.call.CallIn.TheVariants as ins
use Rattle.flow_state.specs.Flow.{Flow}
use Rattle.flow_lock.specs.Answers.{IsPinned, IsRefused, IsBusy}
use Rattle.flow_lock.specs.Steps.{IsAlone, unpinned}
use Rattle.flow_lock.specs.declared.pass.PinRefused.TheVariants as pins
use Rattle.flow_lock.specs.declared.view.View.{View}
use Rattle.flow_lock.specs.declared.view.History.{History}
use Rattle.app_reaper.specs.OneCall.{history, history_with, IsOwn, IsUse}
use Rattle.slow_handshake.specs.Openings.{Openings, is_named}
use Rattle.libtas_sockets.specs.Apps.{Application, IsSocket, socket_on, with_view, with_socket}
use Rattle.libtas_sockets.specs.declared.socket.Socket.{Socket}
use Rattle.libtas_sockets.specs.declared.socket_error.SocketError.{SocketError}
use Rattle.libtas_sockets.specs.declared.socket_error.SocketError.TheVariants as errors

-- in SYN-SENT or SYN-RECEIVED, which of them is told
abbrev pub IsEarly : Phase → Endpoint → Type 0
IsEarly p e = (column e ≡ Opening) × (phase e ≡ p)

-- An Accept on a record that was taken, by its answer: whether its entry was made, and which endpoint refused it.
abbrev pub IsAcceptedOn : Caller → (tick : ℕ) → Flow → (after : History) → Result (Unit {0}) SocketError → Type 0
IsAcceptedOn caller tick r after (Ok x) =
    (column (replay r.params r.entries) ≡ Running) × (after ≡ history_with r caller tick ins.Accept)
IsAcceptedOn caller tick r after (Err (errors.Early p)) =
    IsEarly p (replay r.params r.entries) × (after ≡ history r)
IsAcceptedOn caller tick r after (Err (errors.Closed why)) =
    (column (replay r.params r.entries) ≡ Over why) × (after ≡ history r)
IsAcceptedOn caller tick r after (Err errors.OutOfMemory) = after ≡ history r
IsAcceptedOn caller tick r after (Err e) = ⊥

-- An Accept on a pinned flow: its own record was taken for it, and given back; or another pass held it, and never
-- alone.
abbrev pub IsAnsweredBy : FlowId → Caller → (tick : ℕ) → (before after : View) → Result (Unit {0}) SocketError → Type 0
IsAnsweredBy id caller tick v w (Err (errors.Busy x)) = IsBusy id v w x × (¬ IsAlone v)
IsAnsweredBy id caller tick v w result =
    (r : Flow) × (after : History) × IsOwn id v r × IsAcceptedOn caller tick r after result × IsUse id r after v w

-- The pin was refused, or given up after `w`, where nothing was accepted; else the flow has a socket.
abbrev pub after_pinning : FlowId → (w : View) → Result (Unit {0}) SocketError → Application → Application
after_pinning id w (Ok x) a = with_socket id (with_view w a)
after_pinning id w (Err e) a = with_view (unpinned id w) a

-- accept of this flow, by its answer
abbrev pub plain : Result Socket SocketError → Result (Unit {0}) SocketError
plain (Ok s) = Ok tt
plain (Err e) = Err e

abbrev pub IsNamed : FlowId → Result Socket SocketError → Type 0
IsNamed id (Ok s) = s ≡ socket_on id
IsNamed id (Err e) = ⊤

-- It was pinned, then tried, and is a socket's now or was let go.
abbrev pub IsTried : FlowId → (tick : ℕ) → (before after : Application) → Result Socket SocketError → Type 0
IsTried id tick a b result =
    (u : View) × (w : View)
    × IsPinned id a.pass.view u
    × IsAnsweredBy id (callers.App a.number) tick u w (plain result)
    × (b ≡ after_pinning id w (plain result) a)
    × IsNamed id result

abbrev pub IsAcceptance : FlowId → (tick : ℕ) → (before after : Application) → Result Socket SocketError → Type 0
IsAcceptance id tick a b (Err (errors.Stale x)) =
    IsRefused id a.pass.view b.pass.view (pins.Stale x) × (b ≡ with_view b.pass.view a)
IsAcceptance id tick a b (Err (errors.Moved x y)) =
    IsRefused id a.pass.view b.pass.view (pins.Moved x y) × (b ≡ with_view b.pass.view a)
IsAcceptance id tick a b (Err (errors.SlotInUse s)) = (s ≡ socket_on id) × IsSocket a s × (b ≡ a)
IsAcceptance id tick a b (Err errors.OutOfMemory) = (b ≡ a) ⊎ IsTried id tick a b (Err errors.OutOfMemory)
IsAcceptance id tick a b result = IsTried id tick a b result

-- ----- the listener's list
-- the flow has left it
abbrev pub flow_left : FlowId → Openings → Openings
flow_left id o = record o { flows = filter (λ f. not (is_named id f)) o.flows }

-- it leaves where it was accepted, or found closed
abbrev pub does_leave : Result (Unit {0}) SocketError → Bool
does_leave (Ok x) = true
does_leave (Err (errors.Closed why)) = true
does_leave (Err e) = false

abbrev pub after_accept : FlowId → Result Socket SocketError → Openings → Openings
after_accept id result o = if does_leave (plain result) then flow_left id o else o
