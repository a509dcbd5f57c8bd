-- What an application's try puts into its turn, and what it leaves as it was.
use Rattle.std.proofs.Common.{◌≡◌, ℕ, List, [], sym, refl, ap, ◌∙◌, subst}
use Rattle.std.specs.Prelude.{Option, Some, None, Result, Ok, Err, length}
use Rattle.tas_model.specs.declared.entry.FlowId.{FlowId}
use Rattle.tas_model.specs.declared.entry.Reply.{Reply}
use Rattle.tas_model.specs.declared.entry.Caller.{Caller}
use Rattle.tas_model.specs.declared.entry.Caller.TheVariants.{App}
use Rattle.flow_state.specs.declared.call.CallIn.{CallIn}
use Rattle.flow_state.specs.declared.call.CallIn.TheVariants as ins
use Rattle.flow_lock.specs.declared.view.Deed.{Deed}
use Rattle.flow_lock.specs.declared.view.View.{View}
use Rattle.app_reaper.specs.declared.one_call.CallFault.{CallFault}
use Rattle.app_reaper.specs.declared.one_call.CallFault.TheVariants.{Busy, OutOfMemory}
use Rattle.libtas_sockets.specs.Answers.{fault_in, IsReceived}
use Rattle.libtas_sockets.specs.Apps.{Application, flow_of, without_socket}
use Rattle.libtas_sockets.specs.Calling.{IsCalled, HasCalled, after_close, after_abort}
use Rattle.libtas_sockets.specs.declared.socket.Socket.{Socket}
use Rattle.libtas_sockets.specs.declared.socket_error.SocketError.{SocketError}
use Rattle.libtas_sockets.specs.declared.socket_error.SocketError.TheVariants as errors
use Rattle.app_deeds.specs.Deeds.{Grows, tells_sent, tells_done}
use Rattle.app_deeds.proofs.Calling.{grows_same, has_called, has_closed, has_aborted}
use Rattle.core_phase.specs.Attempts.{HasTried, AreOfTry, pin_left, room_of}
use Rattle.core_phase.specs.declared.attempt.Attempt.{Attempt}
use Rattle.core_phase.specs.declared.attempt.Attempt.TheVariants as attempts
use Rattle.core_phase.specs.declared.attempt.Answered.{Answered}

-- ----- deeds
pub tried : (s : Socket) (tick : ℕ) (a b : Application) (before after : Attempt) (answer : Answered)
    → HasTried s tick a b before after answer
    → (ds : List Deed) × AreOfTry a.number (flow_of a s) tick before after answer ds
    × Grows ds [] (pin_left (flow_of a s) before answer) a.pass.view b.pass.view
tried s tick a b attempts.Nothing after answer (e, is) =
    ([], refl, grows_same a.pass.view b.pass.view (ap (λ (x : Application). x.pass.view.turns) e))
tried s tick a b (attempts.Send bytes) after answer (offered, now, result, is, h) =
    let g = has_called a b s tick (ins.Send offered) (fault_in result) (tells_sent result) h in
    (g.0, (offered, now, result, is, g.1), g.2)
tried s tick a b (attempts.Recv buf) after answer (result, is, h) =
    let g = has_called a b s tick (ins.Recv (length buf.items)) (fault_in result)
    (IsReceived buf.items (room_of after) result) h in
    (g.0, (result, is, g.1), g.2)
tried s tick a b attempts.Shut after answer (result, is, h) =
    let g = has_called a b s tick ins.Shut (fault_in result) (tells_done result) h in
    (g.0, (result, is, g.1), g.2)
tried s tick a b attempts.Close after answer (result, is, m, h, e) =
    let g = has_closed result a m b s tick ins.Close (tells_done result) h e in (
      g.0,
      (result, is, g.1),
      subst (λ x. Grows g.0 [] (pin_left (flow_of a s) attempts.Close x) a.pass.view b.pass.view) (sym is) g.2,
    )
tried s tick a b attempts.Abort after answer (result, is, m, h, e) =
    let g = has_aborted result a m b s tick ins.Abort (tells_done result) h e in (
      g.0,
      (result, is, g.1),
      subst (λ x. Grows g.0 [] (pin_left (flow_of a s) attempts.Abort x) a.pass.view b.pass.view) (sym is) g.2,
    )

-- ----- what stays
abbrev pub Stays : Application → Application → Type 0
Stays a b =
    (b.pass.table ≡ a.pass.table) × (b.pass.view.slow ≡ a.pass.view.slow) × (b.pass.view.baton ≡ a.pass.view.baton)

view_stays : (id : FlowId) (caller : Caller) (tick : ℕ) (call : CallIn) (v w : View) (fault : Option CallFault)
    (tells : Reply → Type 0) → IsCalled id caller tick call v w fault tells
    → (w.slow ≡ v.slow) × (w.baton ≡ v.baton)
view_stays id caller tick call v w None tells (reply, e, t) =
    (ap (λ (x : View). x.slow) e.given.3, ap (λ (x : View). x.baton) e.given.3)
view_stays id caller tick call v w (Some (Busy x)) tells r =
    (ap (λ (y : View). y.slow) r.0.1, ap (λ (y : View). y.baton) r.0.1)
view_stays id caller tick call v w (Some OutOfMemory) tells (r, own, used) =
    (ap (λ (y : View). y.slow) used.3, ap (λ (y : View). y.baton) used.3)

call_stays : (a b : Application) (s : Socket) (tick : ℕ) (call : CallIn) (fault : Option CallFault)
    (tells : Reply → Type 0) → HasCalled a b s tick call fault tells → Stays a b
call_stays a b s tick call fault tells h =
    let k = view_stays (flow_of a s) (App a.number) tick call a.pass.view b.pass.view fault tells h.0 in
    (ap (λ (x : Application). x.pass.table) h.1, k.0, k.1)

left_stays : (a m b : Application) (s : Socket) → Stays a m → b ≡ without_socket s m → Stays a b
left_stays a m b s k e = (
  ap (λ (x : Application). x.pass.table) e ∙ k.0,
  ap (λ (x : Application). x.pass.view.slow) e ∙ k.1,
  ap (λ (x : Application). x.pass.view.baton) e ∙ k.2,
)

close_stays : {T : Type 0} (result : Result T SocketError) (a m b : Application) (s : Socket) → Stays a m
    → b ≡ after_close result s m → Stays a b
close_stays (Ok x) a m b s k e = left_stays a m b s k e
close_stays (Err x) a m b s k e = subst (Stays a) (sym e) k

abort_stays : {T : Type 0} (result : Result T SocketError) (a m b : Application) (s : Socket) → Stays a m
    → b ≡ after_abort result s m → Stays a b
abort_stays (Ok x) a m b s k e = left_stays a m b s k e
abort_stays (Err (errors.Closed x)) a m b s k e = left_stays a m b s k e
abort_stays (Err errors.NotYet) a m b s k e = subst (Stays a) (sym e) k
abort_stays (Err errors.NotOpen) a m b s k e = subst (Stays a) (sym e) k
abort_stays (Err errors.Shut) a m b s k e = subst (Stays a) (sym e) k
abort_stays (Err (errors.Busy x)) a m b s k e = subst (Stays a) (sym e) k
abort_stays (Err (errors.Stale x)) a m b s k e = subst (Stays a) (sym e) k
abort_stays (Err (errors.Moved x y)) a m b s k e = subst (Stays a) (sym e) k
abort_stays (Err (errors.Early x)) a m b s k e = subst (Stays a) (sym e) k
abort_stays (Err (errors.SlotInUse x)) a m b s k e = subst (Stays a) (sym e) k
abort_stays (Err (errors.PortInUse x)) a m b s k e = subst (Stays a) (sym e) k
abort_stays (Err errors.NoPort) a m b s k e = subst (Stays a) (sym e) k
abort_stays (Err errors.NoFlowSlot) a m b s k e = subst (Stays a) (sym e) k
abort_stays (Err errors.OutOfMemory) a m b s k e = subst (Stays a) (sym e) k

pub try_stays : (s : Socket) (tick : ℕ) (a b : Application) (before after : Attempt) (answer : Answered)
    → HasTried s tick a b before after answer → Stays a b
try_stays s tick a b attempts.Nothing after answer (e, is) = subst (Stays a) (sym e) (refl, refl, refl)
try_stays s tick a b (attempts.Send bytes) after answer (offered, now, result, is, h) =
    call_stays a b s tick (ins.Send offered) (fault_in result) (tells_sent result) h
try_stays s tick a b (attempts.Recv buf) after answer (result, is, h) =
    call_stays a b s tick (ins.Recv (length buf.items)) (fault_in result)
    (IsReceived buf.items (room_of after) result) h
try_stays s tick a b attempts.Shut after answer (result, is, h) =
    call_stays a b s tick ins.Shut (fault_in result) (tells_done result) h
try_stays s tick a b attempts.Close after answer (result, is, m, h, e) =
    close_stays result a m b s (call_stays a m s tick ins.Close (fault_in result) (tells_done result) h) e
try_stays s tick a b attempts.Abort after answer (result, is, m, h, e) =
    abort_stays result a m b s (call_stays a m s tick ins.Abort (fault_in result) (tells_done result) h) e
