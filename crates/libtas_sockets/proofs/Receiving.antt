-- A Recv on a record that was taken.
use Rattle.std.proofs.Common.{◌≡◌, ℕ, ◌≤◌, ap, sym, ◌∙◌, refl, subst, List, [], ◌∷◌, ◌++◌, length, take, drop}
use Rattle.std.proofs.Common.{arith, ◌==◌, Bool, true, false}
use Rattle.std.specs.Prelude.{Option, Some, None, Result, Ok, Err, IfErr, OnErr, min}
use Rattle.std.proofs.lemmas.List.{length-take}
use Rattle.tas_model.specs.declared.entry.Call.TheVariants as calls
use Rattle.tas_model.specs.declared.entry.Caller.{Caller}
use Rattle.tas_model.specs.declared.entry.Caller.TheVariants as callers
use Rattle.tas_model.specs.declared.entry.FlowId.{FlowId}
use Rattle.tas_model.specs.declared.entry.Entry.{Entry}
use Rattle.tas_model.specs.declared.entry.Reason.{Reason}
use Rattle.tas_model.specs.declared.entry.Reason.TheVariants as reasons
use Rattle.tas_model.specs.declared.entry.Reply.{Reply}
use Rattle.tas_model.specs.declared.entry.Reply.TheVariants as replies
use Rattle.tas_model.specs.Endpoint.{Endpoint, unread}
use Rattle.tas_model.specs.ApplicationCalls.{Column, Opening, Over, Running, column, recv_in, recv_open, recv_given}
use Rattle.tas_model.specs.ApplicationCalls.{empty_reply}
use Rattle.tas_model.specs.Segments.{unchanged}
use Rattle.tas_model.specs.LegalHistory.{step, reply_or}
use Rattle.flow_state.specs.declared.call.Answer.{Answer}
use Rattle.flow_state.specs.declared.call.CallIn.{CallIn}
use Rattle.flow_state.specs.declared.call.CallIn.TheVariants as ins
use Rattle.flow_state.specs.declared.parts.Parts.{Parts}
use Rattle.flow_state.specs.Calls.{answer_of, answer_len, reply_bytes}
use Rattle.flow_state.specs.Flow.{Flow, reply_to, last_reply}
use Rattle.flow_lock.specs.declared.view.History.{History}
use Rattle.flow_lock.specs.declared.view.View.{View}
use Rattle.app_reaper.specs.OneCall.{history, history_with, IsMade, IsOwn, IsUse}
use Rattle.app_reaper.specs.declared.one_call.CallFault.{CallFault}
use Rattle.app_reaper.specs.declared.one_call.CallFault.TheVariants as faults
use Rattle.libtas_sockets.specs.Answers.{refused_or, refusal_in, received_in, fault_in, IsReceived, IsRefusalOf}
use Rattle.libtas_sockets.specs.Answers.{answer_by}
use Rattle.libtas_sockets.specs.Apps.{Application, flow_of, with_view}
use Rattle.libtas_sockets.specs.Calling.{IsEntry, IsCalled, HasCalled, HasReceived}
use Rattle.libtas_sockets.specs.declared.socket.Socket.{Socket}
use Rattle.libtas_sockets.specs.declared.received.Received.{Received}
use Rattle.libtas_sockets.specs.declared.socket_error.SocketError.{SocketError}
use Rattle.libtas_sockets.specs.declared.socket_error.SocketError.TheVariants as errors
use Rattle.libtas_sockets.proofs.Calling.{reply_len, reply_refuses, no_fault, one_of}

pub last_more : (h : List Entry) (x : Entry) → last_reply (h ++ x ∷ []) ≡ x.reply
last_more [] x = refl
last_more (a ∷ []) x = refl
last_more (a ∷ b ∷ xs) x = last_more (b ∷ xs) x

-- ----- no more bytes come than are wanted
empty_room : (most : ℕ) (why : Option Reason) (ended : Bool) → length (reply_bytes (empty_reply why ended)) ≤ most
empty_room most (Some why) true = omega arith
empty_room most (Some why) false = omega arith
empty_room most None true = omega arith
empty_room most None false = omega arith

taken_room : (n most : ℕ) (l : List ℕ) → n ≤ most → length (take n l) ≤ most
taken_room n most l le = let t = length-take n l in omega (arith, t, le)

open_room : (e : Endpoint) (most : ℕ) → length (reply_bytes (recv_open e most).reply) ≤ most
open_room e most = one_of (λ (r : Reply). length (reply_bytes r) ≤ most) (unread e.rx == 0)
    (unchanged e (empty_reply e.reason e.rx.ended)) (recv_given e most) (empty_room most e.reason e.rx.ended)
    (taken_room (min most (unread e.rx)) most (drop e.rx.read e.rx.got) (omega arith))

recv_room : (c : Column) (e : Endpoint) (most : ℕ) → length (reply_bytes (recv_in c e most).reply) ≤ most
recv_room Opening e most = omega arith
recv_room (Over reasons.Done) e most = open_room e most
recv_room (Over reasons.Reset) e most = omega arith
recv_room (Over reasons.Refused) e most = omega arith
recv_room (Over reasons.TimedOut) e most = omega arith
recv_room (Over reasons.Aborted) e most = omega arith
recv_room Running e most = open_room e most

step_room : (e : Endpoint) (tick most : ℕ) (r : Reply)
    → length (reply_bytes (reply_or (step e tick (calls.Recv most) r) replies.Nothing)) ≤ most
unfolding step
step_room e tick most r = recv_room (column e) e most

abbrev pub recv_reply : Flow → (tick most : ℕ) → Reply
recv_reply r tick most = reply_to r.params r.entries tick (calls.Recv most) []

pub reply_room : (r : Flow) (tick most : ℕ) → length (reply_bytes (recv_reply r tick most)) ≤ most
reply_room r tick most = step_room _ _ most _

-- ----- the entry and its bytes
pub entry_bytes : {serves : Parts → CallIn → Type 0} (caller : Caller) (tick most : ℕ) (r n : Flow) (o : Option Answer)
    (a : Answer) (bytes : List ℕ)
    → o ≡ Some a → IsMade caller tick (ins.Recv most) serves r (history n) o
    → bytes ≡ reply_bytes (last_reply n.entries)
    → bytes ≡ reply_bytes (recv_reply r tick most)
entry_bytes {serves} caller tick most r n o a bytes is c e =
    let m = subst (λ (y : Option Answer). IsMade caller tick (ins.Recv most) serves r (history n) y) is c in
    e ∙ (ap (λ (h : History). reply_bytes (last_reply h.entries)) m.grown ∙ ap reply_bytes (last_more r.entries _))

pub entry_len : {serves : Parts → CallIn → Type 0} (caller : Caller) (tick most : ℕ) (r n : Flow) (o : Option Answer)
    (a : Answer) (bytes : List ℕ)
    → o ≡ Some a → IsMade caller tick (ins.Recv most) serves r (history n) o
    → bytes ≡ reply_bytes (last_reply n.entries)
    → length bytes ≡ answer_len a
entry_len {serves} caller tick most r n o a bytes is c e =
    let m = subst (λ (y : Option Answer). IsMade caller tick (ins.Recv most) serves r (history n) y) is c in
    ap length (entry_bytes caller tick most r n o a bytes is c e)
    ∙ (sym (reply_len (recv_reply r tick most)) ∙ ap answer_len (sym m.reply))

-- what an entry led to is never want of memory
has_received : (caller : Caller) (tick : ℕ) (r : Flow) (after : History) (room left : List ℕ)
    (q : Result Received SocketError) → fault_in q ≡ None → after ≡ history_with r caller tick (ins.Recv (length room))
    → IsReceived room left q (recv_reply r tick (length room)) → HasReceived caller tick r after room left q
has_received caller tick r after room left (Ok x) none h i = (h, i)
has_received caller tick r after room left (Err errors.OutOfMemory) none h i = absurd (cc (none))
has_received caller tick r after room left (Err (errors.Busy word)) none h i = (h, i)
has_received caller tick r after room left (Err errors.NotYet) none h i = (h, i)
has_received caller tick r after room left (Err errors.NotOpen) none h i = (h, i)
has_received caller tick r after room left (Err errors.Shut) none h i = (h, i)
has_received caller tick r after room left (Err (errors.Closed why)) none h i = (h, i)
has_received caller tick r after room left (Err (errors.Stale word)) none h i = (h, i)
has_received caller tick r after room left (Err (errors.Moved seen found)) none h i = (h, i)
has_received caller tick r after room left (Err (errors.Early p)) none h i = (h, i)
has_received caller tick r after room left (Err (errors.PortInUse port)) none h i = (h, i)
has_received caller tick r after room left (Err (errors.SlotInUse x)) none h i = (h, i)
has_received caller tick r after room left (Err errors.NoPort) none h i = (h, i)
has_received caller tick r after room left (Err errors.NoFlowSlot) none h i = (h, i)

pub received_is : {serves : Parts → CallIn → Type 0} (caller : Caller) (tick : ℕ) (r n : Flow) (o : Option Answer)
    (a : Answer)
    (room left bytes : List ℕ) (q : Result Received SocketError) → o ≡ Some a
    → IsMade caller tick (ins.Recv (length room)) serves r (history n) o → bytes ≡ reply_bytes (last_reply n.entries)
    → q ≡ refused_or (refusal_in a) (received_in a)
    → left ≡ bytes ++ drop (length bytes) room → HasReceived caller tick r (history n) room left q
received_is {serves} caller tick r n o a room left bytes q same c e is copied =
    let m = subst (λ (y : Option Answer). IsMade caller tick (ins.Recv (length room)) serves r (history n) y) same c in
    let b = entry_bytes caller tick (length room) r n o a bytes same c e in
    let none : fault_in q ≡ None =
    ap (λ (y : Result Received SocketError). fault_in y) is ∙ no_fault a (received_in a) in
    has_received caller tick r (history n) room left q none m.grown (
      is ∙ ap (λ (x : Answer). refused_or (refusal_in x) (received_in x)) m.reply,
      copied ∙ ap (λ (l : List ℕ). l ++ drop (length l) room) b,
    )

-- a refusal has no bytes
refusal_bytes : (reply : Reply) (x : Received) (e : SocketError)
    → ◌≡◌ {A = Result Received SocketError} (refused_or (refusal_in (answer_of reply)) x) (Err e)
    → reply_bytes reply ≡ []
refusal_bytes (replies.Sent seg) x e is = absurd (cc (is))
refusal_bytes (replies.Took bytes) x e is = absurd (cc (is))
refusal_bytes (replies.Got bytes update) x e is = absurd (cc (is))
refusal_bytes replies.Ok x e is = refl
refusal_bytes replies.Nothing x e is = refl
refusal_bytes replies.End x e is = refl
refusal_bytes replies.NotYet x e is = refl
refusal_bytes replies.NotOpen x e is = refl
refusal_bytes replies.Shut x e is = refl
refusal_bytes (replies.Closed reason) x e is = refl
refusal_bytes replies.Quiet x e is = refl
refusal_bytes replies.Resend x e is = refl
refusal_bytes replies.Probe x e is = refl
refusal_bytes replies.Expired x e is = refl
refusal_bytes replies.TimedOut x e is = refl
refusal_bytes (replies.Window cwnd ssthresh) x e is = refl

pub kept_is : (reply : Reply) (x : Received) (room left : List ℕ) (q : Result Received SocketError)
    → q ≡ refused_or (refusal_in (answer_of reply)) x
    → left ≡ reply_bytes reply ++ drop (length (reply_bytes reply)) room
    → OnErr q (left ≡ room)
kept_is reply x room left (Ok y) is copied = tt
kept_is reply x room left (Err e) is copied =
    copied ∙ ap (λ (l : List ℕ). l ++ drop (length l) room) (refusal_bytes reply x e (sym is))

-- ----- refusals
err_alike : {S T : Type 0} (o : Option SocketError) (x : S) (y : T) (P : SocketError → Type 0)
    → IfErr (refused_or o x) P
    → IfErr (refused_or o y) P
err_alike None x y P h = tt
err_alike (Some e) x y P h = h

pub received_only : {serves : Parts → CallIn → Type 0} (caller : Caller) (tick most : ℕ) (r n : Flow)
    (o : Option Answer)
    (a : Answer) (q : Result Received SocketError) → o ≡ Some a
    → IsMade caller tick (ins.Recv most) serves r (history n) o
    → q ≡ refused_or (refusal_in a) (received_in a) → IfErr q (IsRefusalOf (ins.Recv most))
received_only {serves} caller tick most r n o a q same c is =
    let m = subst (λ (y : Option Answer). IsMade caller tick (ins.Recv most) serves r (history n) y) same c in
    let reply : Reply = recv_reply r tick most in
    let refuses = err_alike (refusal_in (answer_of reply)) 0 (received_in a) (IsRefusalOf (ins.Recv most))
    (reply_refuses (ins.Recv most) tt r tick 0) in
    let here = subst (λ (b : Answer). IfErr (refused_or (refusal_in b) (received_in a)) (IsRefusalOf (ins.Recv most)))
    (sym m.reply) refuses in
    subst (λ (z : Result Received SocketError). IfErr z (IsRefusalOf (ins.Recv most))) (sym is) here

pub received_kept : {serves : Parts → CallIn → Type 0} (caller : Caller) (tick : ℕ) (r n : Flow) (o : Option Answer)
    (a : Answer) (room left bytes : List ℕ) (q : Result Received SocketError) → o ≡ Some a
    → IsMade caller tick (ins.Recv (length room)) serves r (history n) o → bytes ≡ reply_bytes (last_reply n.entries)
    → q ≡ refused_or (refusal_in a) (received_in a) → left ≡ bytes ++ drop (length bytes) room → OnErr q (left ≡ room)
received_kept {serves} caller tick r n o a room left bytes q same c e is copied =
    let m = subst (λ (y : Option Answer). IsMade caller tick (ins.Recv (length room)) serves r (history n) y) same c in
    let b = entry_bytes caller tick (length room) r n o a bytes same c e in
    kept_is (recv_reply r tick (length room)) (received_in a) room left q
    (is ∙ ap (λ (x : Answer). refused_or (refusal_in x) (received_in a)) m.reply)
    (copied ∙ ap (λ (l : List ℕ). l ++ drop (length l) room) b)

-- ----- the call
read_entry : (id : FlowId) (caller : Caller) (tick : ℕ) (v w : View) (r : Flow) (after : History) (room left : List ℕ)
    (q : Result Received SocketError) → IsOwn id v r
    → (after ≡ history_with r caller tick (ins.Recv (length room))) × IsReceived room left q
    (recv_reply r tick (length room))
    → IsUse id r after v w
    → (reply : Reply) × IsEntry id caller tick (ins.Recv (length room)) v w reply × IsReceived room left q reply
read_entry id caller tick v w r after room left q own h u = (
  recv_reply r tick (length room),
  record { flow = r; own = own; replied = refl; given = subst (λ (k : History). IsUse id r k v w) h.0 u },
  h.1,
)

never : {A : Type 0} (f : CallFault) (q : Result Received SocketError) (reply : Reply) (x : Received)
    → fault_in q ≡ Some f
    → q ≡ answer_by reply x → A
never f q reply x is e =
    absurd (let none = ap (λ (z : Result Received SocketError). fault_in z) e ∙ no_fault (answer_of reply) x in
    cc (none, is))

pub read_made : (id : FlowId) (caller : Caller) (tick : ℕ) (v w : View) (r : Flow) (after : History)
    (room left : List ℕ)
    (q : Result Received SocketError) → IsOwn id v r → HasReceived caller tick r after room left q
    → IsUse id r after v w
    → IsCalled id caller tick (ins.Recv (length room)) v w (fault_in q) (IsReceived room left q)
read_made id caller tick v w r after room left (Ok x) own h u =
    read_entry id caller tick v w r after room left (Ok x) own h u
read_made id caller tick v w r after room left (Err errors.OutOfMemory) own h u =
    (r, own, subst (λ (k : History). IsUse id r k v w) h.0 u)
read_made id caller tick v w r after room left (Err (errors.Busy word)) own h u =
    never (faults.Busy word) (Err (errors.Busy word)) (recv_reply r tick (length room)) _ refl h.1.0
read_made id caller tick v w r after room left (Err errors.NotYet) own h u =
    read_entry id caller tick v w r after room left (Err errors.NotYet) own h u
read_made id caller tick v w r after room left (Err errors.NotOpen) own h u =
    read_entry id caller tick v w r after room left (Err errors.NotOpen) own h u
read_made id caller tick v w r after room left (Err errors.Shut) own h u =
    read_entry id caller tick v w r after room left (Err errors.Shut) own h u
read_made id caller tick v w r after room left (Err (errors.Closed why)) own h u =
    read_entry id caller tick v w r after room left (Err (errors.Closed why)) own h u
read_made id caller tick v w r after room left (Err (errors.Stale word)) own h u =
    read_entry id caller tick v w r after room left (Err (errors.Stale word)) own h u
read_made id caller tick v w r after room left (Err (errors.Moved seen found)) own h u =
    read_entry id caller tick v w r after room left (Err (errors.Moved seen found)) own h u
read_made id caller tick v w r after room left (Err (errors.Early p)) own h u =
    read_entry id caller tick v w r after room left (Err (errors.Early p)) own h u
read_made id caller tick v w r after room left (Err (errors.PortInUse port)) own h u =
    read_entry id caller tick v w r after room left (Err (errors.PortInUse port)) own h u
read_made id caller tick v w r after room left (Err (errors.SlotInUse x)) own h u =
    read_entry id caller tick v w r after room left (Err (errors.SlotInUse x)) own h u
read_made id caller tick v w r after room left (Err errors.NoPort) own h u =
    read_entry id caller tick v w r after room left (Err errors.NoPort) own h u
read_made id caller tick v w r after room left (Err errors.NoFlowSlot) own h u =
    read_entry id caller tick v w r after room left (Err errors.NoFlowSlot) own h u

-- the socket's flow was read
pub socket_read : (o b : Application) (s : Socket) (tick : ℕ) (f : FlowId) (r : Flow) (after : History)
    (room left : List ℕ)
    (q : Result Received SocketError) → f ≡ flow_of o s → IsOwn f o.pass.view r
    → HasReceived (callers.App o.number) tick r after room left q → IsUse f r after o.pass.view b.pass.view
    → b ≡ with_view b.pass.view o → HasCalled o b s tick (ins.Recv (length room)) (fault_in q) (IsReceived room left q)
socket_read o b s tick f r after room left q same own h u moved = (
  subst (λ (id : FlowId). IsCalled id (callers.App o.number) tick (ins.Recv (length room)) o.pass.view b.pass.view
      (fault_in q) (IsReceived room left q)) same
      (read_made f (callers.App o.number) tick o.pass.view b.pass.view r after room left q own h u),
  moved,
)
