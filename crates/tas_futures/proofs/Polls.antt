-- What a poll of a socket's future is, by the one call that it made.
use Rattle.std.proofs.Common.{◌≡◌, ℕ, ap, sym, ◌∙◌, refl, subst, List, [], ◌∷◌, ◌++◌, length, true}
use Rattle.std.specs.Prelude.{Option, Some, None, Result, Ok, Err, flat_map, max}
use Rattle.std.specs.List.{list_any}
use Rattle.tas_model.specs.declared.entry.Caller.{Caller}
use Rattle.tas_model.specs.declared.entry.Caller.TheVariants as callers
use Rattle.tas_model.specs.declared.entry.Entry.{Entry}
use Rattle.tas_model.specs.declared.entry.FlowId.{FlowId}
use Rattle.tas_model.specs.declared.entry.Reply.{Reply}
use Rattle.tas_model.specs.declared.entry.Reply.TheVariants as replies
use Rattle.tas_model.specs.LegalHistory.{taken_bytes}
use Rattle.tas_model.specs.Outputs.{accepted, bytes_read, given_bytes}
use Rattle.flow_state.specs.declared.call.CallIn.{CallIn}
use Rattle.flow_state.specs.declared.call.CallIn.TheVariants as ins
use Rattle.flow_state.specs.Calls.{call_of, offer_of, answer_of}
use Rattle.flow_state.specs.Flow.{next_entry, reply_to}
use Rattle.flow_lock.specs.declared.view.View.{View}
use Rattle.app_reaper.specs.Lists.{is_on}
use Rattle.app_reaper.specs.declared.one_call.CallFault.{CallFault}
use Rattle.app_reaper.specs.declared.one_call.CallFault.TheVariants as faults
use Rattle.libtas_sockets.specs.Answers.{answer_by, fault_in, received_in, IsReceived}
use Rattle.libtas_sockets.specs.Apps.{Application, flow_of, with_view}
use Rattle.libtas_sockets.specs.Calling.{IsEntry, HasCalled}
use Rattle.libtas_sockets.specs.declared.received.Received.{Received}
use Rattle.libtas_sockets.specs.declared.socket.Socket.{Socket}
use Rattle.libtas_sockets.specs.declared.socket_error.SocketError.{SocketError}
use Rattle.libtas_sockets.specs.declared.socket_error.SocketError.TheVariants as errors
use Rattle.libtas_sockets.proofs.Acting.{call_acts}
use Rattle.futures.specs.Poll.{OnPending}
use Rattle.futures.specs.declared.task.Poll.{Poll}
use Rattle.tas_futures.specs.Answers.{polled, last_after}
use Rattle.tas_futures.specs.Polling.{Sight, MayCall, HasEntered, HasWaitedBy}

-- ----- an entry whose reply is NotYet
-- a reply that is answered so
not_yet : {T : Type 0} (r : Reply) (x : T) → ◌≡◌ {A = Result T SocketError} (Err errors.NotYet) (answer_by r x)
    → r ≡ replies.NotYet
not_yet replies.NotYet x e = refl
not_yet replies.Ok x e = absurd (cc (e))
not_yet replies.Nothing x e = absurd (cc (e))
not_yet (replies.Sent seg) x e = absurd (cc (e))
not_yet (replies.Took bytes) x e = absurd (cc (e))
not_yet (replies.Got bytes update) x e = absurd (cc (e))
not_yet replies.End x e = absurd (cc (e))
not_yet replies.NotOpen x e = absurd (cc (e))
not_yet replies.Shut x e = absurd (cc (e))
not_yet (replies.Closed reason) x e = absurd (cc (e))
not_yet replies.Quiet x e = absurd (cc (e))
not_yet replies.Resend x e = absurd (cc (e))
not_yet replies.Probe x e = absurd (cc (e))
not_yet replies.Expired x e = absurd (cc (e))
not_yet replies.TimedOut x e = absurd (cc (e))
not_yet (replies.Window cwnd ssthresh) x e = absurd (cc (e))

-- an entry that gives no bytes adds none
adds_none : (f : Reply → List ℕ) (h : List Entry) (x : Entry) → f x.reply ≡ []
    → flat_map (λ (y : Entry). f y.reply) (h ++ x ∷ []) ≡ flat_map (λ (y : Entry). f y.reply) h
adds_none f [] x none = ap (λ l. l ++ []) none
adds_none f (y ∷ ys) x none = ap (λ l. f y.reply ++ l) (adds_none f ys x none)

entered : (id : FlowId) (caller : Caller) (tick : ℕ) (call : CallIn) (v w : View) (reply : Reply)
    → IsEntry id caller tick call v w reply → reply ≡ replies.NotYet → HasEntered id caller call v w
entered id caller tick call v w reply e is =
    let r = e.flow in
    let x : Entry = next_entry r.entries caller tick (call_of call)
    (reply_to r.params r.entries tick (call_of call) (offer_of call)) in
    let none : x.reply ≡ replies.NotYet = sym e.replied ∙ is in record {
      flow = r;
      own = e.own;
      entry = x;
      caller = refl;
      call = refl;
      reply = none;
      given = e.given;
      unread = adds_none given_bytes r.entries x (ap given_bytes none);
      untaken = adds_none taken_bytes r.entries x (ap taken_bytes none);
    }

-- ----- a poll that was pending
-- the answer, where there is one, is that of the reply
abbrev Tells : {T : Type 0} → Result T SocketError → (Reply → Type 0) → Type 0
Tells {T} answer told = (r : Reply) → told r → (x : T) × (answer ≡ answer_by r x)

-- the poll of this future was so
abbrev Waits : {T : Type 0} → Application → Application → Socket → CallIn → Result T SocketError → Option SocketError
    → Type 0
Waits a b s call answer last = OnPending (polled answer)
    (HasWaitedBy last (flow_of a s) (callers.App a.number) call a.pass.view b.pass.view
    × (b ≡ with_view b.pass.view a))

pub waited : {T : Type 0} (a b : Application) (s : Socket) (tick : ℕ) (call : CallIn) (answer : Result T SocketError)
    (told : Reply → Type 0) (old last : Option SocketError)
    → Tells answer told → HasCalled a b s tick call (fault_in answer) told → last ≡ last_after answer old
    → Waits a b s call answer last
waited a b s tick call (Err errors.NotYet) told old last tells h is =
    let t = tells h.0.0 h.0.2 in
    let e = entered (flow_of a s) (callers.App a.number) tick call a.pass.view b.pass.view h.0.0 h.0.1
    (not_yet h.0.0 t.0 t.1) in (
      subst (λ (o : Option SocketError). HasWaitedBy o (flow_of a s) (callers.App a.number) call a.pass.view
          b.pass.view) (sym is) e,
      h.1,
    )
waited a b s tick call (Err (errors.Busy word)) told old last tells h is =
    let busy = h.0.0 in (
      subst (λ (o : Option SocketError). HasWaitedBy o (flow_of a s) (callers.App a.number) call a.pass.view
          b.pass.view) (sym is) (busy, ap (λ (y : View). y.seen) busy.1, ap (λ (y : View). y.mine) busy.1),
      h.1,
    )
waited a b s tick call (Ok x) told old last tells h is = tt
waited a b s tick call (Err errors.NotOpen) told old last tells h is = tt
waited a b s tick call (Err errors.Shut) told old last tells h is = tt
waited a b s tick call (Err (errors.Closed reason)) told old last tells h is = tt
waited a b s tick call (Err (errors.Stale word)) told old last tells h is = tt
waited a b s tick call (Err (errors.Moved x y)) told old last tells h is = tt
waited a b s tick call (Err (errors.Early phase)) told old last tells h is = tt
waited a b s tick call (Err (errors.SlotInUse x)) told old last tells h is = tt
waited a b s tick call (Err (errors.PortInUse port)) told old last tells h is = tt
waited a b s tick call (Err errors.NoPort) told old last tells h is = tt
waited a b s tick call (Err errors.NoFlowSlot) told old last tells h is = tt
waited a b s tick call (Err errors.OutOfMemory) told old last tells h is = tt

-- so it is with a read, whose bytes stand first in the buffer
pub waited_to_read : (a b : Application) (s : Socket) (tick : ℕ) (room left : List ℕ)
    (answer : Result Received SocketError) (old last : Option SocketError)
    → HasCalled a b s tick (ins.Recv (length room)) (fault_in answer) (IsReceived room left answer)
    → last ≡ last_after answer old → Waits a b s (ins.Recv (length room)) answer last
waited_to_read a b s tick room left answer old last made is = waited a b s tick (ins.Recv (length room)) answer
    (IsReceived room left answer) old last (λ r told. (received_in (answer_of r), told.0)) made is

-- ----- the next poll
pub may_again : (v w : Sight) (call : CallIn) (o : Option CallFault) (told : Reply → Type 0)
    → w.table ≡ v.table → w.socket ≡ v.socket → HasCalled v.app w.app v.socket v.tick call o told → MayCall v
    → MayCall w
may_again v w call o told table socket h may = (
  ap (λ (x : Application). x.pass.table) h.1 ∙ (may.0 ∙ sym table),
  call_acts v.app w.app v.socket v.tick call o told h may.1,
  ap (λ (x : Application). list_any (is_on w.socket.0) x.sockets) h.1
      ∙ subst (λ s. list_any (is_on s.0) v.app.sockets ≡ true) (sym socket) may.2,
)
