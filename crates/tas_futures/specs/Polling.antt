-- What a poll of a socket's future is: one call, and pending where that call is to be made again.
use Rattle.std.specs.Prelude.{◌≡◌, ℕ, true, ◌⊎◌, List, [], ◌∷◌, ◌++◌, Option, Some, None, Result, Ok, Err, IfErr, ⊤}
use Rattle.atomic_table.specs.Seated.{TableId}
use Rattle.tas_model.specs.declared.entry.Caller.{Caller}
use Rattle.tas_model.specs.declared.entry.Caller.TheVariants as callers
use Rattle.tas_model.specs.declared.entry.Entry.{Entry}
use Rattle.tas_model.specs.declared.entry.FlowId.{FlowId}
use Rattle.tas_model.specs.declared.entry.Reply.{Reply}
use Rattle.tas_model.specs.declared.entry.Reply.TheVariants as replies
use Rattle.tas_model.specs.Outputs.{accepted, bytes_read}
use Rattle.flow_state.specs.declared.call.CallIn.{CallIn}
use Rattle.flow_state.specs.Calls.{call_of}
use Rattle.flow_state.specs.Flow.{Flow}
use Rattle.flow_lock.specs.Answers.{IsBusy}
use Rattle.flow_lock.specs.Histories.{longer}
use Rattle.flow_lock.specs.Steps.{MayAct}
use Rattle.flow_lock.specs.declared.view.View.{View}
use Rattle.flow_lock.specs.declared.word.Word.{Word}
use Rattle.app_reaper.specs.OneCall.{history, IsOwn, IsUse}
use Rattle.libtas_sockets.specs.Answers.{fault_in, IsRefusalOf}
use Rattle.libtas_sockets.specs.Apps.{Application, IsSocket, flow_of, with_view}
use Rattle.libtas_sockets.specs.Calling.{HasCalled}
use Rattle.libtas_sockets.specs.declared.socket.Socket.{Socket}
use Rattle.libtas_sockets.specs.declared.socket_error.SocketError.{SocketError}
use Rattle.libtas_sockets.specs.declared.socket_error.SocketError.TheVariants as errors
use Rattle.futures.specs.declared.task.Poll.{Poll}
use Rattle.futures.specs.declared.task.Poll.TheVariants.{Ready}
use Rattle.futures.specs.declared.task.context.Context.{Context}
use Rattle.tas_futures.specs.declared.io.Io.{Io}
use Rattle.tas_futures.specs.declared.side.Side.{Side}
use Rattle.tas_futures.specs.declared.waiters.Place.{Place}
use Rattle.tas_futures.specs.Answers.{polled, last_after}
use Rattle.tas_futures.specs.Waiting.{CannotWait, IsWaiting, key_of}

-- ----- what a future shows
-- The application and its socket, the table, the tick of the calls, where tasks wait, and the answer of the last poll
-- that was pending.
pub record Sight : Type 0 where
  pub app : Application
  pub socket : Socket
  pub table : TableId
  pub tick : ℕ
  pub places : List Place
  pub last : Option SocketError

abbrev pub sight_of : Io → Socket → Option SocketError → Sight
sight_of io s last = record {
  app = io.app.now;
  socket = s;
  table = io.table.now;
  tick = io.tick;
  places = io.waiters.now;
  last = last;
}

-- the key of the socket's side
abbrev pub key_in : Sight → Side → ℕ
key_in v side = key_of v.socket side

-- a call on the socket may be made
abbrev pub MayCall : Sight → Type 0
MayCall v = (v.app.pass.table ≡ v.table) × MayAct v.app.pass.view × IsSocket v.app v.socket

-- the call was made, and was answered so
abbrev pub HasMade : {T : Type 0} → Sight → Sight → CallIn → Result T SocketError → (told : Reply → Type 0) → Type 0
HasMade v w call answer told =
    HasCalled v.app w.app v.socket v.tick call (fault_in answer) told × IfErr answer (IsRefusalOf call)

-- ----- a poll
-- One call was made, and the poll gave what it answered; or none was made, since memory is wanting for its task to
-- wait for this side, and the application is as before.
abbrev pub IsPolled : {T : Type 0} → Sight → Sight → Side → (Made : Result T SocketError → Type 0) → Context
    → Poll (Result T SocketError) → Type 0
IsPolled {T} v w side Made cx result =
    ((answer : Result T SocketError)
    × Made answer
    × (result ≡ polled answer)
    × (w.last ≡ last_after answer v.last))
    ⊎ (CannotWait v.places (key_in v side) cx × (w.app ≡ v.app) × (w.last ≡ v.last)
    × (result ≡ Ready (Err errors.OutOfMemory)))

-- ----- a poll that was pending
-- The call was made on the flow's own record, which has one entry more then, with the reply NotYet. No byte was read,
-- and none accepted.
pub record HasEntered (id : FlowId) (who : Caller) (what : CallIn) (v w : View) : Type 0 where
  pub flow : Flow
  pub own : IsOwn id v flow
  pub entry : Entry
  pub caller : entry.caller ≡ who
  pub call : entry.call ≡ call_of what
  pub reply : entry.reply ≡ replies.NotYet
  pub given : IsUse id flow (longer (history flow) (entry ∷ [])) v w
  pub unread : bytes_read (flow.entries ++ entry ∷ []) ≡ bytes_read flow.entries
  pub untaken : accepted (flow.entries ++ entry ∷ []) ≡ accepted flow.entries

-- Another pass held the record. No entry was made, and nothing was seen of a flow.
abbrev pub HasFoundBusy : FlowId → Word → View → View → Type 0
HasFoundBusy id word v w = IsBusy id v w word × (w.seen ≡ v.seen) × (w.mine ≡ v.mine)

-- which of the two, by the answer
abbrev pub HasWaitedBy : Option SocketError → FlowId → Caller → CallIn → View → View → Type 0
HasWaitedBy (Some errors.NotYet) id caller call v w = HasEntered id caller call v w
HasWaitedBy (Some (errors.Busy word)) id caller call v w = HasFoundBusy id word v w
HasWaitedBy answer id caller call v w = ⊥

-- So it was with the call that the future keeps the answer of, and nothing else of the application changed.
abbrev pub HasWaited : Sight → Sight → CallIn → Type 0
HasWaited v w call =
    HasWaitedBy w.last (flow_of v.app v.socket) (callers.App v.app.number) call v.app.pass.view w.app.pass.view
    × (w.app ≡ with_view w.app.pass.view v.app)

-- ----- when the task is polled again
-- The poll has registered at the key of its side, and its waker stands there.
abbrev pub Waits : Sight → Side → (before after : Context) → Type 0
Waits v side before after = IsWaiting v.places (key_in v side) before after

-- ----- from poll to poll
-- the same references, and all that no poll changes
abbrev pub IsSameIo : Io → Io → Type 0
IsSameIo a b =
    (b.app.ghost_name ≡ a.app.ghost_name)
    × (b.waiters.ghost_name ≡ a.waiters.ghost_name)
    × (b.table ≡ a.table)
    × (b.tick ≡ a.tick)
