-- An application that acts alone: it has the baton for one call, and gives it back.
use Rattle.std.specs.Prelude.{◌≡◌, ℕ, ◌<◌, true, false, [], None, Result, Ok, Err, ⊤}
use Rattle.std.specs.List.{list_any}
use Rattle.atomic_table.specs.Seated.{TableId}
use Rattle.tas_model.specs.declared.entry.FlowId.{FlowId}
use Rattle.tas_model.specs.declared.entry.Reply.{Reply}
use Rattle.flow_state.specs.declared.call.Answer.{Answer}
use Rattle.flow_state.specs.declared.call.Answer.TheVariants as answers
use Rattle.flow_state.specs.declared.call.CallIn.{CallIn}
use Rattle.flow_state.specs.Calls.{answer_of}
use Rattle.app_reaper.specs.Lists.{is_on}
use Rattle.flow_clock.specs.Histories.{is_running}
use Rattle.flow_lock.specs.Orders.{known_of}
use Rattle.flow_lock.specs.Passes.{Seen, without_baton, with_baton}
use Rattle.flow_lock.specs.Steps.{IsAlone}
use Rattle.flow_lock.specs.Words.{word_at}
use Rattle.flow_lock.specs.declared.view.View.{View}
use Rattle.libtas_sockets.specs.Accepting.{IsAcceptance}
use Rattle.libtas_sockets.specs.Apps.{Application, with_view, without_socket}
use Rattle.libtas_sockets.specs.Calling.{HasCalled}
use Rattle.libtas_sockets.specs.declared.socket.Socket.{Socket}
use Rattle.libtas_sockets.specs.declared.socket_error.SocketError.{SocketError}
use Rattle.libtas_sockets.specs.declared.socket_error.SocketError.TheVariants as errors
use Rattle.core_phase.specs.declared.lane.AppLane.{AppLane}
use Rattle.core_phase.specs.declared.lane.Lane.{Lane}
use Rattle.core_phase.specs.declared.lane.Lane.TheVariants as lanes
use Rattle.sound_calls.specs.Handing.{HasMade}
use Rattle.asked_host.specs.Asking.{told}

-- ----- lanes
-- the lane is an application's, of which this holds
abbrev pub OnApp : (AppLane → Type 0) → Lane → Type 0
OnApp P (lanes.Core l) = ⊥
OnApp P (lanes.App l) = P l

-- and so it is after the step, with nothing else changed than the application, of which this holds before and after
abbrev pub OnApps : (Application → Application → Type 0) → Lane → Lane → Type 0
OnApps P (lanes.App v) (lanes.App w) = P v.app w.app × (w ≡ record v { app = w.app })
OnApps P v w = ⊥

-- ----- the baton
-- the slow path is alone, and the application has no turn, on the same table
pub record MayHand (table : TableId) (a : Application) (s : Seen) : Type 0 where
  pub own : a.pass.table ≡ table
  pub slow_own : s.table ≡ table
  pub turns : a.pass.view.turns ≡ []
  pub baton : a.pass.view.baton ≡ false
  pub alone : IsAlone s.view
  pub idle : s.view.held ≡ []

-- the application with the baton of this pass
abbrev pub with_all_of : Seen → Application → Application
with_all_of s a = with_view (with_baton a.pass.view s.view) a

-- the application, which was so with the baton, gave it back
pub record HasHandedBack (m : Application) (s : Seen) (b : Application) (n : Seen) : Type 0 where
  pub app : b ≡ with_view (without_baton m.pass.view) m
  pub slow : n ≡ record s { view = with_baton (without_baton s.view) m.pass.view }

-- ----- answers
-- the answer is told of the entry's reply
abbrev pub IsToldOf : Answer → Reply → Type 0
IsToldOf answer reply = told answer ≡ told (answer_of reply)

-- the answer that shows this refusal
abbrev pub IsRefusedBy : SocketError → Answer → Type 0
IsRefusedBy errors.NotYet answer = answer ≡ answers.NotYet
IsRefusedBy errors.NotOpen answer = answer ≡ answers.NotOpen
IsRefusedBy errors.Shut answer = answer ≡ answers.Shut
IsRefusedBy (errors.Closed reason) answer = answer ≡ answers.Closed reason
IsRefusedBy _ answer = ⊥

-- a refusal that an entry shows, or want of memory
abbrev pub IsPlainError : SocketError → Type 0
IsPlainError errors.NotYet = ⊤
IsPlainError errors.NotOpen = ⊤
IsPlainError errors.Shut = ⊤
IsPlainError (errors.Closed reason) = ⊤
IsPlainError errors.OutOfMemory = ⊤
IsPlainError _ = ⊥

-- ----- calls
-- A call was made alone, which had this answer.
abbrev pub HasAsked : Socket → (tick : ℕ) → CallIn → Answer → (a b : Application) → Type 0
HasAsked s t call answer a b = HasCalled a b s t call None (IsToldOf answer)

-- One was made, and the socket given up.
abbrev pub HasLeft : Socket → (tick : ℕ) → CallIn → (a b : Application) → Type 0
HasLeft s t call a b = (m : Application) × HasMade a m s t call None × (b ≡ without_socket s m)

-- `P` holds of the application before and after it acted with the baton, which it had from the slow path and gave back.
abbrev pub ActsAlone : (Application → Application → Type 0) → (s n : Seen) → (a b : Application) → Type 0
ActsAlone P s n a b = (m : Application) × P (with_all_of s a) m × HasHandedBack m s b n

-- ----- accepts
-- The application may pin the flow where it is alone and has the baton of this view, and accept it.
pub record IsTakeable (table : TableId) (id : FlowId) (a : Application) (v : View) : Type 0 where
  pub low : id.slot < table.slots
  pub live : (word_at v.words id.slot).live ≡ true
  pub taken : (word_at v.words id.slot).doomed ≡ false
  pub generation : (word_at v.words id.slot).generation ≡ id.generation
  pub free : list_any (is_on id.slot) a.sockets ≡ false
  pub runs : is_running (known_of id v.base) ≡ true

-- It was accepted.
abbrev pub HasAccepted : FlowId → (tick : ℕ) → (a b : Application) → Type 0
HasAccepted id t a b = (s : Socket) × IsAcceptance id t a b (Ok s)

-- it was answered, or memory was wanting
abbrev pub IsOkOrFull : {T : Type 0} → Result T SocketError → Type 0
IsOkOrFull (Ok x) = ⊤
IsOkOrFull (Err errors.OutOfMemory) = ⊤
IsOkOrFull (Err e) = ⊥
