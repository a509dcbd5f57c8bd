-- One call of an application on the flow of one of its sockets.
use Rattle.std.proofs.Common.{◌≡◌, ℕ, ap, sym, ◌∙◌, refl, subst, ◌==◌, Bool, true, false, cond, List, ◌++◌, length}
use Rattle.std.specs.Prelude.{Option, Some, None, Result, Ok, Err, IfErr, min, not, ◌&&◌}
use Rattle.tas_model.specs.declared.entry.Caller.{Caller}
use Rattle.tas_model.specs.declared.entry.Caller.TheVariants as callers
use Rattle.tas_model.specs.declared.entry.FlowId.{FlowId}
use Rattle.tas_model.specs.declared.entry.Reason.{Reason}
use Rattle.tas_model.specs.declared.entry.Reason.TheVariants as reasons
use Rattle.tas_model.specs.declared.entry.Reply.{Reply}
use Rattle.tas_model.specs.declared.entry.Reply.TheVariants as replies
use Rattle.tas_model.specs.Endpoint.{Endpoint, phase, unread, send_room}
use Rattle.tas_model.specs.Segments.{Outcome, unchanged}
use Rattle.tas_model.specs.ApplicationCalls.{Column, Opening, Over, Running, column, ready_in, accept_in, send_in}
use Rattle.tas_model.specs.ApplicationCalls.{recv_in}
use Rattle.tas_model.specs.ApplicationCalls.{shut_in, close_in, abort_in, recv_open, recv_given, empty_reply}
use Rattle.tas_model.specs.ApplicationCalls.{tells_abort, shutting}
use Rattle.tas_model.specs.LegalHistory.{step, reply_or}
use Rattle.flow_state.specs.declared.call.CallIn.{CallIn}
use Rattle.flow_state.specs.declared.call.CallIn.TheVariants as ins
use Rattle.flow_state.specs.declared.call.Answer.{Answer}
use Rattle.flow_state.specs.declared.call.Answer.TheVariants as answers
use Rattle.flow_state.specs.declared.parts.Parts.{Parts}
use Rattle.flow_state.specs.App.{IsAppCall}
use Rattle.flow_state.specs.Calls.{call_of, offer_of, answer_of, answer_len, reply_bytes}
use Rattle.flow_state.specs.Flow.{Flow, reply_to}
use Rattle.flow_lock.specs.declared.view.View.{View}
use Rattle.app_reaper.specs.OneCall.{IsUse, IsCall, IsCallRefused}
use Rattle.app_reaper.specs.declared.one_call.CallFault.{CallFault}
use Rattle.libtas_sockets.specs.Answers.{refusal_in, refused_or, answer_by, fault_of, fault_in, is_closed, IsRefusalOf}
use Rattle.libtas_sockets.specs.Apps.{Application, flow_of, with_view, without_socket}
use Rattle.libtas_sockets.specs.Calling.{IsEntry, IsCalled, HasCalled, after_abort}
use Rattle.libtas_sockets.specs.declared.socket.Socket.{Socket}
use Rattle.libtas_sockets.specs.declared.socket_error.SocketError.{SocketError}
use Rattle.libtas_sockets.specs.declared.socket_error.SocketError.TheVariants as errors

-- ----- answers
pub reply_len : (r : Reply) → answer_len (answer_of r) ≡ length (reply_bytes r)
reply_len replies.Ok = refl
reply_len replies.Nothing = refl
reply_len (replies.Sent seg) = refl
reply_len (replies.Took bytes) = refl
reply_len (replies.Got bytes update) = refl
reply_len replies.End = refl
reply_len replies.NotYet = refl
reply_len replies.NotOpen = refl
reply_len replies.Shut = refl
reply_len (replies.Closed reason) = refl
reply_len replies.Quiet = refl
reply_len replies.Resend = refl
reply_len replies.Probe = refl
reply_len replies.Expired = refl
reply_len replies.TimedOut = refl
reply_len (replies.Window cwnd ssthresh) = refl

-- a refusal that an entry shows is none without an entry
pub no_fault : {T : Type 0} (a : Answer) (x : T) → fault_in (refused_or (refusal_in a) x) ≡ None
no_fault answers.Ok x = refl
no_fault answers.Nothing x = refl
no_fault (answers.Sent head len) x = refl
no_fault (answers.Took len) x = refl
no_fault (answers.Got len update) x = refl
no_fault answers.End x = refl
no_fault answers.NotYet x = refl
no_fault answers.NotOpen x = refl
no_fault answers.Shut x = refl
no_fault (answers.Closed reason) x = refl
no_fault answers.Quiet x = refl
no_fault answers.Resend x = refl
no_fault answers.Probe x = refl
no_fault answers.Expired x = refl
no_fault answers.TimedOut x = refl
no_fault (answers.Window cwnd ssthresh) x = refl

-- the same answer with another value
pub ok_with : {S T : Type 0} (o : Option SocketError) (x a : S) (y : T)
    → ◌≡◌ {A = Result S SocketError} (Ok a) (refused_or o x)
    → ◌≡◌ {A = Result T SocketError} (Ok y) (refused_or o y)
ok_with None x a y e = refl
ok_with (Some r) x a y e = absurd (cc (e))

err_same : {T : Type 0} (r s : SocketError) → r ≡ s → ◌≡◌ {A = Result T SocketError} (Err r) (Err s)
err_same {T} r s e = ap {B = Result T SocketError} (λ (q : SocketError). Err q) e

err_is : {T : Type 0} (r s : SocketError) → ◌≡◌ {A = Result T SocketError} (Err r) (Err s) → r ≡ s
err_is r s e = cc (e)

pub err_with : {S T : Type 0} (o : Option SocketError) (x : S) (r : SocketError) (y : T)
    → ◌≡◌ {A = Result S SocketError} (Err r) (refused_or o x) → ◌≡◌ {A = Result T SocketError} (Err r) (refused_or o y)
err_with None x r y e = absurd (cc (e))
err_with (Some s) x r y e = err_same r s (err_is r s e)

-- ----- which refusals a call has
-- the reply is no other refusal than one of the call's
abbrev Refuses : CallIn → Reply → Type 0
Refuses call reply = (x : ℕ) → IfErr (answer_by reply x) (IsRefusalOf call)

pub one_of : (P : Reply → Type 0) (b : Bool) (o p : Outcome) → P o.reply → P p.reply → P (cond b o p).reply
one_of P true o p f g = f
one_of P false o p f g = g

one_of_four : (P : Reply → Type 0) (a b c : Bool) (o p q : Outcome) → P o.reply → P p.reply → P q.reply
    → P replies.Nothing → P (reply_or (cond a (Some o) (cond b (Some p) (cond c (Some q) None))) replies.Nothing)
one_of_four P true b c o p q f g h i = f
one_of_four P false true c o p q f g h i = g
one_of_four P false false true o p q f g h i = h
one_of_four P false false false o p q f g h i = i

ready_refuses : (c : Column) (e : Endpoint) → Refuses ins.Ready (ready_in c e).reply
ready_refuses Opening e x = tt
ready_refuses (Over why) e x = tt
ready_refuses Running e x = tt

send_refuses : (b : _) (c : Column) (e : Endpoint) (offered : ℕ) (bytes : List ℕ)
    → Refuses (ins.Send b) (reply_or (send_in c e offered bytes) replies.Nothing)
send_refuses b Opening e offered bytes x = tt
send_refuses b (Over why) e offered bytes x = tt
send_refuses b Running e offered bytes x =
    one_of_four (λ r. IfErr (answer_by r x) (IsRefusalOf (ins.Send b))) e.tx.shut
    (min offered (send_room e) == 0 && not (offered == 0)) (length bytes == min offered (send_room e))
    (unchanged e replies.Shut) (unchanged e replies.NotYet)
    (record { state = record e { tx = record (e.tx) { out = e.tx.out ++ bytes } }; reply = replies.Took bytes }) tt tt
    tt tt

empty_refuses : (most : ℕ) (why : Option Reason) (ended : Bool) → Refuses (ins.Recv most) (empty_reply why ended)
empty_refuses most (Some why) true x = tt
empty_refuses most (Some why) false x = tt
empty_refuses most None true x = tt
empty_refuses most None false x = tt

open_refuses : (e : Endpoint) (most : ℕ) → Refuses (ins.Recv most) (recv_open e most).reply
open_refuses e most x = one_of (λ r. IfErr (answer_by r x) (IsRefusalOf (ins.Recv most))) (unread e.rx == 0)
    (unchanged e (empty_reply e.reason e.rx.ended)) (recv_given e most) (empty_refuses most e.reason e.rx.ended x) tt

recv_refuses : (c : Column) (e : Endpoint) (most : ℕ) → Refuses (ins.Recv most) (recv_in c e most).reply
recv_refuses Opening e most x = tt
recv_refuses (Over reasons.Done) e most x = open_refuses e most x
recv_refuses (Over reasons.Reset) e most x = tt
recv_refuses (Over reasons.Refused) e most x = tt
recv_refuses (Over reasons.TimedOut) e most x = tt
recv_refuses (Over reasons.Aborted) e most x = tt
recv_refuses Running e most x = open_refuses e most x

shut_refuses : (c : Column) (e : Endpoint) → Refuses ins.Shut (shut_in c e).reply
shut_refuses Opening e x = tt
shut_refuses (Over why) e x = tt
shut_refuses Running e x = one_of (λ r. IfErr (answer_by r x) (IsRefusalOf ins.Shut)) e.tx.shut
    (unchanged e replies.Shut) (record { state = shutting e; reply = replies.Ok }) tt tt

close_refuses : (c : Column) (e : Endpoint) → Refuses ins.Close (close_in c e).reply
close_refuses Opening e x = tt
close_refuses (Over why) e x = tt
close_refuses Running e x = tt

told_or_not : (b : Bool) (r : Reply) → Refuses ins.Abort r → Refuses ins.Abort (cond b r replies.Nothing)
told_or_not true r h x = h x
told_or_not false r h x = tt

abort_refuses : (c : Column) (e : Endpoint) → Refuses ins.Abort (abort_in c e).reply
abort_refuses Opening e x = told_or_not (tells_abort (phase e)) _ (λ y. tt) x
abort_refuses (Over why) e x = tt
abort_refuses Running e x = told_or_not (tells_abort (phase e)) _ (λ y. tt) x

accept_refuses : (c : Column) (e : Endpoint) → Refuses ins.Accept (reply_or (accept_in c e) replies.Nothing)
accept_refuses Opening e x = tt
accept_refuses (Over why) e x = tt
accept_refuses Running e x = tt

pub call_refuses : (call : CallIn) → IsAppCall call → (e : Endpoint) (tick : ℕ) (r : Reply)
    → Refuses call (reply_or (step e tick (call_of call) r) replies.Nothing)
unfolding step
call_refuses ins.Accept a e tick r x = accept_refuses (column e) e x
call_refuses ins.Ready a e tick r x = ready_refuses (column e) e x
call_refuses (ins.Send bytes) a e tick r x = send_refuses bytes (column e) e _ _ x
call_refuses (ins.Recv most) a e tick r x = recv_refuses (column e) e most x
call_refuses ins.Shut a e tick r x = shut_refuses (column e) e x
call_refuses ins.Close a e tick r x = close_refuses (column e) e x
call_refuses ins.Abort a e tick r x = abort_refuses (column e) e x
call_refuses (ins.Connect iss) a e tick r x = absurd a
call_refuses (ins.Passive frame iss seg) a e tick r x = absurd a
call_refuses (ins.Rx frame seg) a e tick r x = absurd a
call_refuses ins.Emit a e tick r x = absurd a
call_refuses ins.Tick a e tick r x = absurd a
call_refuses ins.Control a e tick r x = absurd a

pub reply_refuses : (call : CallIn) → IsAppCall call → (r : Flow) (tick : ℕ)
    → Refuses call (reply_to r.params r.entries tick (call_of call) (offer_of call))
reply_refuses call a r tick x = call_refuses call a _ _ _ x

-- ----- entries
pub entered : {serves : Parts → CallIn → Type 0} (id : FlowId) (caller : Caller) (tick : ℕ) (call : CallIn)
    (v w : View) (a : Answer)
    → IsCall id caller tick call serves v w (Some a)
    → (reply : Reply) × IsEntry id caller tick call v w reply × (a ≡ answer_of reply)
entered id caller tick call v w a c = (
  reply_to c.flow.params c.flow.entries tick (call_of call) (offer_of call),
  record {
    flow = c.flow;
    own = c.own;
    replied = refl;
    given = subst (λ h. IsUse id c.flow h v w) c.made.grown c.given;
  },
  c.made.reply,
)

told_is : (a : Answer) (r : Reply) → a ≡ answer_of r → (q : Result ℕ SocketError)
    → q ≡ refused_or (refusal_in a) (answer_len a) → q ≡ answer_by r (length (reply_bytes r))
told_is a r is q e =
    e ∙ (ap (λ (x : Answer). refused_or (refusal_in x) (answer_len x)) is
    ∙ ap (λ (n : ℕ). refused_or (refusal_in (answer_of r)) n) (reply_len r))

pub called : {serves : Parts → CallIn → Type 0} (a b : Application) (s : Socket) (tick : ℕ) (call : CallIn) (f : FlowId)
    (o : Option Answer) (x : Answer) (q : Result ℕ SocketError) → f ≡ flow_of a s → o ≡ Some x
    → IsCall f (callers.App a.number) tick call serves a.pass.view b.pass.view o
    → q ≡ refused_or (refusal_in x) (answer_len x) → b ≡ with_view b.pass.view a
    → HasCalled a b s tick call (fault_in q) (λ reply. q ≡ answer_by reply (length (reply_bytes reply)))
called {serves} a b s tick call f o x q on is c e same =
    let made : IsCall f (callers.App a.number) tick call serves a.pass.view b.pass.view (Some x) =
    subst (λ (y : Option Answer). IsCall f (callers.App a.number) tick call serves a.pass.view b.pass.view y) is c in
    let own : IsCall (flow_of a s) (callers.App a.number) tick call serves a.pass.view b.pass.view (Some x) =
    subst (λ (id : FlowId). IsCall id (callers.App a.number) tick call serves a.pass.view b.pass.view (Some x)) on
    made in
    let n = entered (flow_of a s) (callers.App a.number) tick call a.pass.view b.pass.view x own in
    let none : fault_in q ≡ None = ap (λ (y : Result ℕ SocketError). fault_in y) e ∙ no_fault x (answer_len x) in (
      subst (λ (o : Option CallFault). IsCalled (flow_of a s) (callers.App a.number) tick call a.pass.view b.pass.view o
          (λ reply. q ≡ answer_by reply (length (reply_bytes reply))))
          (sym none) (n.0, n.1, told_is x n.0 n.2 q e),
      same,
    )

pub called_only : {serves : Parts → CallIn → Type 0} (id : FlowId) (caller : Caller) (tick : ℕ) (call : CallIn)
    (v w : View) (o : Option Answer) (x : Answer)
    (q : Result ℕ SocketError) → IsAppCall call → o ≡ Some x → IsCall id caller tick call serves v w o
    → q ≡ refused_or (refusal_in x) (answer_len x) → IfErr q (IsRefusalOf call)
called_only {serves} id caller tick call v w o x q app same c e =
    let n = entered id caller tick call v w x (subst (λ (y : Option Answer). IsCall id caller tick call serves v w y)
    same c) in
    let r = reply_refuses call app n.1.flow tick (length (reply_bytes n.0)) in
    let is = told_is x n.0 n.2 q e in
    subst (λ y. IfErr y (IsRefusalOf call)) (sym is)
    (subst (λ (z : Reply). IfErr (answer_by z (length (reply_bytes n.0))) (IsRefusalOf call)) (sym n.1.replied) r)

pub not_called : (a b : Application) (s : Socket) (tick : ℕ) (call : CallIn) (id : FlowId) (f : CallFault)
    (e : SocketError)
    → id ≡ flow_of a s → fault_of e ≡ Some f → IsCallRefused id a.pass.view b.pass.view f → b ≡ with_view b.pass.view a
    → HasCalled a b s tick call (fault_in {T = ℕ} (Err e)) (λ reply. Err e ≡ answer_by reply
    (length (reply_bytes reply)))
not_called a b s tick call id f e on is r same = (
  subst (λ (o : Option CallFault). IsCalled (flow_of a s) (callers.App a.number) tick call a.pass.view b.pass.view o
      (λ reply. ◌≡◌ {A = Result ℕ SocketError} (Err e) (answer_by reply (length (reply_bytes reply)))))
      (sym is) (subst (λ (i : FlowId). IsCallRefused i a.pass.view b.pass.view f) on r),
  same,
)

pub not_only : (call : CallIn) (e : SocketError) (f : CallFault) → fault_of e ≡ Some f → IsRefusalOf call e
not_only call (errors.Busy word) f is = tt
not_only call errors.OutOfMemory f is = tt
not_only call errors.NotYet f is = absurd (cc (is))
not_only call errors.NotOpen f is = absurd (cc (is))
not_only call errors.Shut f is = absurd (cc (is))
not_only call (errors.Closed reason) f is = absurd (cc (is))
not_only call (errors.Stale word) f is = absurd (cc (is))
not_only call (errors.Moved seen found) f is = absurd (cc (is))
not_only call (errors.Early p) f is = absurd (cc (is))
not_only call (errors.PortInUse port) f is = absurd (cc (is))
not_only call (errors.SlotInUse x) f is = absurd (cc (is))
not_only call errors.NoPort f is = absurd (cc (is))
not_only call errors.NoFlowSlot f is = absurd (cc (is))

-- the same call with another value
pub retold : (a b : Application) (s : Socket) (tick : ℕ) (call : CallIn) (o q : Option CallFault) (P Q : Reply → Type 0)
    → q ≡ o → ((r : Reply) → P r → Q r) → HasCalled a b s tick call o P → HasCalled a b s tick call q Q
retold a b s tick call None q P Q e f h = (
  subst (λ (o : Option CallFault). IsCalled (flow_of a s) (callers.App a.number) tick call a.pass.view b.pass.view o Q)
      (sym e) (h.0.0, h.0.1, f h.0.0 h.0.2),
  h.1,
)
retold a b s tick call (Some x) q P Q e f h = (
  subst (λ (o : Option CallFault). IsCalled (flow_of a s) (callers.App a.number) tick call a.pass.view b.pass.view o Q)
      (sym e) h.0,
  h.1,
)

-- a refusal of the call with another value
pub refused_again : {T : Type 0} (y : T) (a b : Application) (s : Socket) (tick : ℕ) (call : CallIn) (e : SocketError)
    → HasCalled a b s tick call (fault_of e)
    (λ reply. ◌≡◌ {A = Result ℕ SocketError} (Err e) (answer_by reply (length (reply_bytes reply))))
    → HasCalled a b s tick call (fault_of e) (λ reply. ◌≡◌ {A = Result T SocketError} (Err e) (answer_by reply y))
refused_again y a b s tick call e h = retold a b s tick call (fault_of e) (fault_of e) _ _ refl
    (λ r q. err_with (refusal_in (answer_of r)) (length (reply_bytes r)) e y q) h

pub reanswered : {T : Type 0} (y : T) (a b : Application) (s : Socket) (tick : ℕ) (call : CallIn) (e : SocketError)
    (q : Result T SocketError) → q ≡ Err e
    → HasCalled a b s tick call (fault_of e)
    (λ reply. ◌≡◌ {A = Result ℕ SocketError} (Err e) (answer_by reply (length (reply_bytes reply))))
    → HasCalled a b s tick call (fault_in q) (λ reply. q ≡ answer_by reply y)
reanswered {T} y a b s tick call e q is h =
    subst (λ (z : Result T SocketError). HasCalled a b s tick call (fault_in z) (λ reply. z ≡ answer_by reply y))
    (sym is)
    (refused_again y a b s tick call e h)

-- ----- an Abort that was refused
pub socket_stays : (T : Type 0) (e : SocketError) (s : Socket) (a : Application) → is_closed e ≡ false
    → a ≡ after_abort {T = T} (Err e) s a
socket_stays T errors.NotYet s a is = refl
socket_stays T errors.NotOpen s a is = refl
socket_stays T errors.Shut s a is = refl
socket_stays T (errors.Closed reason) s a is = absurd (cc (is))
socket_stays T (errors.Busy word) s a is = refl
socket_stays T (errors.Stale word) s a is = refl
socket_stays T (errors.Moved seen found) s a is = refl
socket_stays T (errors.Early p) s a is = refl
socket_stays T (errors.PortInUse port) s a is = refl
socket_stays T (errors.SlotInUse x) s a is = refl
socket_stays T errors.NoPort s a is = refl
socket_stays T errors.NoFlowSlot s a is = refl
socket_stays T errors.OutOfMemory s a is = refl

pub socket_goes : (T : Type 0) (e : SocketError) (s : Socket) (a : Application) → is_closed e ≡ true
    → without_socket s a ≡ after_abort {T = T} (Err e) s a
socket_goes T errors.NotYet s a is = absurd (cc (is))
socket_goes T errors.NotOpen s a is = absurd (cc (is))
socket_goes T errors.Shut s a is = absurd (cc (is))
socket_goes T (errors.Closed reason) s a is = refl
socket_goes T (errors.Busy word) s a is = absurd (cc (is))
socket_goes T (errors.Stale word) s a is = absurd (cc (is))
socket_goes T (errors.Moved seen found) s a is = absurd (cc (is))
socket_goes T (errors.Early p) s a is = absurd (cc (is))
socket_goes T (errors.PortInUse port) s a is = absurd (cc (is))
socket_goes T (errors.SlotInUse x) s a is = absurd (cc (is))
socket_goes T errors.NoPort s a is = absurd (cc (is))
socket_goes T errors.NoFlowSlot s a is = absurd (cc (is))
socket_goes T errors.OutOfMemory s a is = absurd (cc (is))
