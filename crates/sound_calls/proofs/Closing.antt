-- An application that has the baton closes or aborts a socket: for the law closes_alone_keep_it.
use Rattle.std.proofs.Common.{◌≡◌, ℕ, List, [], ◌∷◌, sym, ap, ◌∙◌, subst}
use Rattle.std.specs.Prelude.{Option, Result, Ok, Err}
use Rattle.tas_model.specs.declared.entry.FlowId.{FlowId}
use Rattle.flow_state.specs.declared.call.CallIn.{CallIn}
use Rattle.flow_lock.specs.Steps.{IsAlone}
use Rattle.flow_lock.specs.declared.view.View.{View}
use Rattle.app_reaper.specs.declared.one_call.CallFault.{CallFault}
use Rattle.libtas_sockets.specs.Apps.{Application, IsSocket, flow_of, with_view, without_socket}
use Rattle.libtas_sockets.specs.Calling.{after_abort, after_close}
use Rattle.libtas_sockets.specs.declared.socket.Socket.{Socket}
use Rattle.libtas_sockets.specs.declared.socket_error.SocketError.{SocketError}
use Rattle.libtas_sockets.specs.declared.socket_error.SocketError.TheVariants as errors
use Rattle.app_deeds.specs.Deeds.{left_by_abort, left_by_close}
use Rattle.sound_hosts.specs.Hosts.{CoreHost}
use Rattle.sound_hosts.specs.Leaving.{books_left}
use Rattle.sound_hosts.specs.Sound.{IsHostSound}
use Rattle.sound_calls.specs.Handing.{given_back, with_books, HasMade}
use Rattle.sound_calls.proofs.Alone.{call_alone}
use Rattle.sound_calls.proofs.Releasing.{released_alone, still_alone}

module _ (h : CoreHost) (front back : List Application) (a : Application) (s : Socket) (socket : IsSocket a s) where
  -- the host with this application, which gave up these sockets
  abbrev Stays : List FlowId → Application → Type 0
  Stays ids b =
      IsHostSound (given_back front b back (with_books (books_left a.number ids h.books) h)) × IsAlone b.pass.view

  -- after its call
  module _ (v : View) (sound : IsHostSound (given_back front (with_view v a) back h)) (alone : IsAlone v) where
    given_up : (b : Application) → b ≡ without_socket s (with_view v a) → Stays (flow_of a s ∷ []) b
    given_up b e =
        subst (Stays (flow_of a s ∷ [])) (sym e) (
          released_alone h front back (with_view v a) s sound alone socket,
          still_alone h front back (with_view v a) s sound alone socket,
        )

    kept : (b : Application) → b ≡ with_view v a → Stays [] b
    kept b e = subst (Stays []) (sym e) (sound, alone)

    closed : {T : Type 0} (result : Result T SocketError) (b : Application) → b ≡ after_close result s (with_view v a)
        → Stays (left_by_close result (flow_of a s)) b
    closed (Ok x) b e = given_up b e
    closed (Err x) b e = kept b e

    aborted : {T : Type 0} (result : Result T SocketError) (b : Application) → b ≡ after_abort result s (with_view v a)
        → Stays (left_by_abort result (flow_of a s)) b
    aborted (Ok x) b e = given_up b e
    aborted (Err (errors.Closed x)) b e = given_up b e
    aborted (Err errors.NotYet) b e = kept b e
    aborted (Err errors.NotOpen) b e = kept b e
    aborted (Err errors.Shut) b e = kept b e
    aborted (Err (errors.Busy x)) b e = kept b e
    aborted (Err (errors.Stale x)) b e = kept b e
    aborted (Err (errors.Moved x y)) b e = kept b e
    aborted (Err (errors.Early x)) b e = kept b e
    aborted (Err (errors.SlotInUse x)) b e = kept b e
    aborted (Err (errors.PortInUse x)) b e = kept b e
    aborted (Err errors.NoPort) b e = kept b e
    aborted (Err errors.NoFlowSlot) b e = kept b e
    aborted (Err errors.OutOfMemory) b e = kept b e

  module _ (m b : Application) (tick : ℕ) (call : CallIn) (fault : Option CallFault)
      (sound : IsHostSound (given_back front a back h)) (alone : IsAlone a.pass.view)
      (made : HasMade a m s tick call fault) where
    after : IsHostSound (given_back front m back h) × IsAlone m.pass.view
    after = call_alone h front back a m s tick call fault sound alone socket made

    sound_after : IsHostSound (given_back front (with_view m.pass.view a) back h)
    sound_after = subst (λ (x : Application). IsHostSound (given_back front x back h)) made.1 after.0

    pub close_alone : {T : Type 0} (result : Result T SocketError) → b ≡ after_close result s m
        → Stays (left_by_close result (flow_of a s)) b
    close_alone result e =
        closed m.pass.view sound_after after.1 result b (e ∙ ap (after_close result s) made.1)

    pub abort_alone : {T : Type 0} (result : Result T SocketError) → b ≡ after_abort result s m
        → Stays (left_by_abort result (flow_of a s)) b
    abort_alone result e =
        aborted m.pass.view sound_after after.1 result b (e ∙ ap (after_abort result s) made.1)
