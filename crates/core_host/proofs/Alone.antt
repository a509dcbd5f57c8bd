-- Calls that an application makes with the baton: for the answers for those that are asked alone.
use Rattle.std.proofs.Common.{◌≡◌, ◌<◌, ◌≤◌, ◌==◌, ◌&&◌, not, ℕ, Bool, true, false, cond, List, [], ◌∷◌, refl, sym, ap}
use Rattle.std.proofs.Common.{◌∙◌}
use Rattle.std.proofs.Common.{subst, arith, length, take, min}
use Rattle.std.proofs.lemmas.Bool.Decides.{nat_tests}
use Rattle.std.proofs.lemmas.List.{length-take}
use Rattle.std.specs.Prelude.{Option, Some, None, Result, Ok, Err, IfOk, OnOk}
use Rattle.tas_model.specs.declared.entry.Caller.TheVariants.{App}
use Rattle.tas_model.specs.declared.entry.Reason.{Reason}
use Rattle.tas_model.specs.declared.entry.Reason.TheVariants as reasons
use Rattle.tas_model.specs.declared.entry.Reply.{Reply}
use Rattle.tas_model.specs.declared.entry.Reply.TheVariants as replies
use Rattle.tas_model.specs.Endpoint.{Endpoint, send_room, unread}
use Rattle.tas_model.specs.ApplicationCalls.{Column, Opening, Over, Running, column, ready_in, send_in, recv_in}
use Rattle.tas_model.specs.ApplicationCalls.{recv_open, recv_given, empty_reply, shut_in, shutting}
use Rattle.tas_model.specs.Segments.{Outcome, unchanged}
use Rattle.tas_model.specs.LegalHistory.{step, reply_or, replay, shown}
use Rattle.flow_state.specs.declared.call.Answer.{Answer}
use Rattle.flow_state.specs.declared.call.Answer.TheVariants as answers
use Rattle.flow_state.specs.declared.call.CallIn.{CallIn}
use Rattle.flow_state.specs.declared.call.CallIn.TheVariants as ins
use Rattle.flow_state.specs.Calls.{call_of, offer_of, answer_of, answer_len, reply_bytes}
use Rattle.flow_state.specs.Flow.{Flow, reply_to}
use Rattle.flow_lock.specs.Passes.{Seen, with_baton, without_baton}
use Rattle.flow_lock.specs.Steps.{IsAlone, unpinned, noted}
use Rattle.flow_lock.specs.declared.view.Turn.{Turn}
use Rattle.flow_lock.specs.declared.view.View.{View}
use Rattle.app_reaper.specs.OneCall.{history, history_with, IsUse, IsCallRefused}
use Rattle.app_reaper.specs.declared.one_call.CallFault.{CallFault}
use Rattle.app_reaper.specs.declared.one_call.CallFault.TheVariants as faults
use Rattle.libtas_sockets.specs.Answers.{answer_by, refusal_in, refused_or, received_in, fault_of, IsReceived}
use Rattle.libtas_sockets.specs.Answers.{IsRefusalOf}
use Rattle.libtas_sockets.specs.Apps.{Application, flow_of, with_view, without_socket}
use Rattle.libtas_sockets.specs.Calling.{HasCalled, IsCalled}
use Rattle.libtas_sockets.specs.declared.received.Received.{Received}
use Rattle.libtas_sockets.specs.declared.received.Received.TheVariants as received
use Rattle.libtas_sockets.specs.declared.socket.Socket.{Socket}
use Rattle.libtas_sockets.specs.declared.socket_error.SocketError.{SocketError}
use Rattle.libtas_sockets.specs.declared.socket_error.SocketError.TheVariants as errors
use Rattle.libtas_sockets.proofs.Calling.{retold}
use Rattle.sound_calls.specs.Handing.{HasMade}
use Rattle.sound_hosts.specs.Moving.{IsLed}
use Rattle.sound_hosts.proofs.OneFlow.{used_leads}
use Rattle.core_host.specs.Alone.{IsToldOf, IsRefusedBy, IsPlainError, HasAsked, ActsAlone, HasHandedBack, with_all_of}
use Rattle.asked_host.specs.Asking.{told}

-- ----- what stays
-- the application is alone still, on the same table, and no slow path
pub record StaysAlone (a b : Application) : Type 0 where
  pub alone : IsAlone b.pass.view
  pub own : b.pass.table ≡ a.pass.table
  pub slow : b.pass.view.slow ≡ a.pass.view.slow
  pub number : b.number ≡ a.number
  pub sockets : b.sockets ≡ a.sockets

pub made_alone : (a b : Application) (s : Socket) (tick : ℕ) (call : CallIn) (fault : Option CallFault)
    (told : Reply → Type 0) → IsAlone a.pass.view → HasCalled a b s tick call fault told → StaysAlone a b
made_alone a b s tick call fault told alone (called, same) = by fault called
  where
    with_led : (k : _) → IsLed (flow_of a s) k a.pass.view b.pass.view → StaysAlone a b
    with_led k led = record {
      alone = led.alone;
      own = ap (λ (x : Application). x.pass.table) same;
      slow = led.slow;
      number = ap (λ (x : Application). x.number) same;
      sockets = ap (λ (x : Application). x.sockets) same;
    }

    by : (f : Option CallFault) → IsCalled (flow_of a s) (App a.number) tick call a.pass.view b.pass.view f told
        → StaysAlone a b
    by None (reply, entry, tells) =
        with_led (history_with entry.flow (App a.number) tick call)
        (used_leads (flow_of a s) entry.flow (history_with entry.flow (App a.number) tick call) a.pass.view b.pass.view
        alone entry.given)
    by (Some (faults.Busy x)) refused = absurd (refused.1 alone)
    by (Some faults.OutOfMemory) (r, own, given) =
        with_led (history r) (used_leads (flow_of a s) r (history r) a.pass.view b.pass.view alone given)

-- and so it is with a socket less
pub record StaysWithout (a b : Application) : Type 0 where
  pub alone : IsAlone b.pass.view
  pub own : b.pass.table ≡ a.pass.table
  pub slow : b.pass.view.slow ≡ a.pass.view.slow
  pub number : b.number ≡ a.number

pub left_alone : (a m : Application) (s : Socket) → StaysAlone a m → StaysWithout a (without_socket s m)
left_alone a m s stays = record {
  alone = (
    stays.alone.0,
    ap (λ (ts : List Turn). noted [] [] (flow_of m s ∷ []) ts) stays.alone.1,
    stays.alone.2,
  );
  own = stays.own;
  slow = stays.slow;
  number = stays.number;
}

-- ----- clauses on answers
pub on_ok : {T E : Type 0} (r : Result T E) (P Q : Type 0) → (P → Q) → OnOk r P → OnOk r Q
on_ok (Ok x) P Q f p = f p
on_ok (Err e) P Q f p = tt

pub all_ok : {T E : Type 0} (r : Result T E) (P Q : T → Type 0) → ((x : T) → P x → Q x) → IfOk r P → IfOk r Q
all_ok (Ok x) P Q f p = f x p
all_ok (Err e) P Q f p = tt

-- ----- the baton
-- what was done between the baton's coming and going
pub acts_alone : (P : Application → Application → Type 0) (a o m b : Application) (s t n : Seen) → o ≡ with_all_of s a
    → t ≡ record s { view = without_baton s.view } → P o m → b ≡ with_view (without_baton m.pass.view) m
    → n ≡ record t { view = with_baton t.view m.pass.view } → ActsAlone P s n a b
acts_alone P a o m b s t n on lent did back given = (
  m,
  subst (λ (x : Application). P x m) on did,
  record {
    app = back;
    slow = given ∙ ap (λ (x : Seen). record x { view = with_baton x.view m.pass.view }) lent;
  },
)

-- ----- refusals
-- alone no refusal is left but those that an entry shows, and want of memory
pub plain_error : (a b : Application) (s : Socket) (tick : ℕ) (call : CallIn) (told : Reply → Type 0) (e : SocketError)
    → IsAlone a.pass.view → HasCalled a b s tick call (fault_of e) told → IsRefusalOf call e → IsPlainError e
plain_error a b s tick call told errors.NotYet alone made only = tt
plain_error a b s tick call told errors.NotOpen alone made only = tt
plain_error a b s tick call told errors.Shut alone made only = tt
plain_error a b s tick call told (errors.Closed reason) alone made only = tt
plain_error a b s tick call told (errors.Busy word) alone made only = absurd (made.0.1 alone)
plain_error a b s tick call told (errors.Stale x) alone made only = absurd only
plain_error a b s tick call told (errors.Moved x y) alone made only = absurd only
plain_error a b s tick call told (errors.Early p) alone made only = absurd only
plain_error a b s tick call told (errors.SlotInUse x) alone made only = absurd only
plain_error a b s tick call told (errors.PortInUse x) alone made only = absurd only
plain_error a b s tick call told errors.NoPort alone made only = absurd only
plain_error a b s tick call told errors.NoFlowSlot alone made only = absurd only
plain_error a b s tick call told errors.OutOfMemory alone made only = tt

err_is : {T : Type 0} (r s : SocketError) → ◌≡◌ {A = Result T SocketError} (Err r) (Err s) → r ≡ s
err_is r s e = cc (e)

-- an answer that shows a refusal is that refusal's
shows : {T : Type 0} (b : Answer) (x : T) (e : SocketError) (answer : Answer)
    → ◌≡◌ {A = Result T SocketError} (Err e) (refused_or (refusal_in b) x) → IsRefusedBy e answer → answer ≡ b
shows answers.NotYet x e answer is by = subst (λ r. IsRefusedBy r answer) (err_is e errors.NotYet is) by
shows answers.NotOpen x e answer is by = subst (λ r. IsRefusedBy r answer) (err_is e errors.NotOpen is) by
shows answers.Shut x e answer is by = subst (λ r. IsRefusedBy r answer) (err_is e errors.Shut is) by
shows (answers.Closed why) x e answer is by = subst (λ r. IsRefusedBy r answer) (err_is e (errors.Closed why) is) by
shows answers.Ok x e answer is by = absurd (cc (is))
shows answers.Nothing x e answer is by = absurd (cc (is))
shows (answers.Sent head len) x e answer is by = absurd (cc (is))
shows (answers.Took len) x e answer is by = absurd (cc (is))
shows (answers.Got len update) x e answer is by = absurd (cc (is))
shows answers.End x e answer is by = absurd (cc (is))
shows answers.Quiet x e answer is by = absurd (cc (is))
shows answers.Resend x e answer is by = absurd (cc (is))
shows answers.Probe x e answer is by = absurd (cc (is))
shows answers.Expired x e answer is by = absurd (cc (is))
shows answers.TimedOut x e answer is by = absurd (cc (is))
shows (answers.Window cwnd ssthresh) x e answer is by = absurd (cc (is))

-- a refusal of an entry is told as it is
module _ {T : Type 0} (a b : Application) (s : Socket) (tick : ℕ) (call : CallIn) (value : Reply → T) where
  abbrev Refuses : SocketError → Reply → Type 0
  Refuses e reply = ◌≡◌ {A = Result T SocketError} (Err e) (answer_by reply (value reply))

  told_none : (e : SocketError) (answer : Answer) → IsRefusedBy e answer → HasCalled a b s tick call None (Refuses e)
      → HasAsked s tick call answer a b
  told_none e answer by ((reply, entry, is), same) =
      ((reply, entry, ap told (shows (answer_of reply) (value reply) e answer is by)), same)

  pub refused_told : (e : SocketError) (answer : Answer) → IsRefusedBy e answer
      → HasCalled a b s tick call (fault_of e) (Refuses e) → HasAsked s tick call answer a b
  refused_told errors.NotYet answer by made = told_none errors.NotYet answer by made
  refused_told errors.NotOpen answer by made = told_none errors.NotOpen answer by made
  refused_told errors.Shut answer by made = told_none errors.Shut answer by made
  refused_told (errors.Closed why) answer by made = told_none (errors.Closed why) answer by made
  refused_told (errors.Busy word) answer by made = absurd by
  refused_told (errors.Stale x) answer by made = absurd by
  refused_told (errors.Moved x y) answer by made = absurd by
  refused_told (errors.Early p) answer by made = absurd by
  refused_told (errors.SlotInUse x) answer by made = absurd by
  refused_told (errors.PortInUse x) answer by made = absurd by
  refused_told errors.NoPort answer by made = absurd by
  refused_told errors.NoFlowSlot answer by made = absurd by
  refused_told errors.OutOfMemory answer by made = absurd by

-- ----- replies that are no refusals
-- where it is no refusal, it is Ok
abbrev IsDone : Reply → Type 0
IsDone reply = ◌≡◌ {A = Result (Unit {0}) SocketError} (Ok tt) (answer_by reply tt) → answers.Ok ≡ answer_of reply

one_of : (P : Reply → Type 0) (b : Bool) (o p : Outcome) → P o.reply → P p.reply → P (cond b o p).reply
one_of P true o p f g = f
one_of P false o p f g = g

refuses : {T : Type 0} (e : SocketError) (y : T) → ◌≡◌ {A = Result T SocketError} (Ok y) (Err e) → ⊥
refuses e y q = absurd (cc (q))

ready_done : (c : Column) (e : Endpoint) → IsDone (ready_in c e).reply
ready_done Opening e q = absurd (refuses {T = Unit {0}} errors.NotYet tt q)
ready_done (Over why) e q = absurd (refuses {T = Unit {0}} (errors.Closed why) tt q)
ready_done Running e q = refl

shut_done : (c : Column) (e : Endpoint) → IsDone (shut_in c e).reply
shut_done Opening e = λ q. absurd (refuses {T = Unit {0}} errors.NotOpen tt q)
shut_done (Over why) e = λ q. absurd (refuses {T = Unit {0}} (errors.Closed why) tt q)
shut_done Running e =
    one_of IsDone e.tx.shut (unchanged e replies.Shut) (record { state = shutting e; reply = replies.Ok })
    (λ q. absurd (refuses {T = Unit {0}} errors.Shut tt q)) (λ q. refl)

pub ready_to : (r : Flow) (tick : ℕ) → IsDone (reply_to r.params r.entries tick (call_of ins.Ready) (offer_of
    ins.Ready))
unfolding step
ready_to r tick = ready_done (column (replay r.params r.entries)) (replay r.params r.entries)

pub shut_to : (r : Flow) (tick : ℕ) → IsDone (reply_to r.params r.entries tick (call_of ins.Shut) (offer_of ins.Shut))
unfolding step
shut_to r tick = shut_done (column (replay r.params r.entries)) (replay r.params r.entries)

-- where it is no refusal, it says how many bytes were taken
abbrev IsSent : Reply → Type 0
IsSent reply = (y : ℕ) → ◌≡◌ {A = Result ℕ SocketError} (Ok y) (answer_by reply (length (reply_bytes reply)))
    → answers.Took y ≡ answer_of reply

same_count : (x y : ℕ) → ◌≡◌ {A = Result ℕ SocketError} (Ok y) (Ok x) → y ≡ x
same_count x y q = cc (q)

all_fit : (room : ℕ) (offer : List ℕ) → (length (take room offer) == min (length offer) room) ≡ true
all_fit room offer = let t = length-take room offer in grind (arith, nat_tests, t)

sent_by : (a b c : Bool) (e : Endpoint) (o : Outcome) → c ≡ true → IsSent o.reply
    → IsSent (reply_or (cond a (Some (unchanged e replies.Shut)) (cond b (Some (unchanged e replies.NotYet))
    (cond c (Some o) None))) replies.Nothing)
sent_by true b c e o fits sent = λ y q. absurd (refuses errors.Shut y q)
sent_by false true c e o fits sent = λ y q. absurd (refuses errors.NotYet y q)
sent_by false false true e o fits sent = sent
sent_by false false false e o fits sent = absurd (cc (fits))

send_done : (c : Column) (e : Endpoint) (offer : List ℕ)
    → IsSent (reply_or (send_in c e (length offer) (take (send_room e) offer)) replies.Nothing)
send_done Opening e offer = λ y q. absurd (refuses errors.NotOpen y q)
send_done (Over why) e offer = λ y q. absurd (refuses (errors.Closed why) y q)
send_done Running e offer =
    sent_by e.tx.shut (min (length offer) (send_room e) == 0 && not (length offer == 0))
    (length (take (send_room e) offer) == min (length offer) (send_room e)) e _ (all_fit (send_room e) offer)
    (λ y q. ap answers.Took (same_count _ y q))

pub send_to : (r : Flow) (tick : ℕ) (bytes : _)
    → IsSent (reply_to r.params r.entries tick (call_of (ins.Send bytes)) (offer_of (ins.Send bytes)))
unfolding step
send_to r tick bytes = send_done (column (replay r.params r.entries)) (replay r.params r.entries) bytes.now

-- where it is no refusal, it gives bytes, or says that the stream ended
abbrev pub given_as : Received → Answer
given_as (received.Bytes len) = answers.Got len None
given_as received.End = answers.End

abbrev IsRead : Reply → Type 0
IsRead reply = (y : Received) → ◌≡◌ {A = Result Received SocketError} (Ok y) (answer_by reply (received_in (answer_of
    reply)))
    → told (given_as y) ≡ told (answer_of reply)

ok_is : (x y : Received) → ◌≡◌ {A = Result Received SocketError} (Ok y) (Ok x) → y ≡ x
ok_is x y q = cc (q)

refused_read : (e : SocketError) (y : Received) → ◌≡◌ {A = Result Received SocketError} (Ok y) (Err e) → ⊥
refused_read e y q = absurd (cc (q))

empty_read : (why : Option Reason) (ended : Bool) → IsRead (empty_reply why ended)
empty_read (Some why) true y q = ap (λ z. told (given_as z)) (ok_is received.End y q)
empty_read (Some why) false y q = absurd (refused_read (errors.Closed why) y q)
empty_read None true y q = ap (λ z. told (given_as z)) (ok_is received.End y q)
empty_read None false y q = absurd (refused_read errors.NotYet y q)

open_read : (e : Endpoint) (most : ℕ) → IsRead (recv_open e most).reply
open_read e most =
    one_of IsRead (unread e.rx == 0) (unchanged e (empty_reply e.reason e.rx.ended)) (recv_given e most)
    (empty_read e.reason e.rx.ended) (λ y q. ap (λ z. told (given_as z)) (ok_is _ y q))

recv_read : (c : Column) (e : Endpoint) (most : ℕ) → IsRead (recv_in c e most).reply
recv_read Opening e most = λ y q. absurd (refused_read errors.NotOpen y q)
recv_read (Over reasons.Done) e most = open_read e most
recv_read (Over reasons.Reset) e most = λ y q. absurd (refused_read (errors.Closed reasons.Reset) y q)
recv_read (Over reasons.Refused) e most = λ y q. absurd (refused_read (errors.Closed reasons.Refused) y q)
recv_read (Over reasons.TimedOut) e most = λ y q. absurd (refused_read (errors.Closed reasons.TimedOut) y q)
recv_read (Over reasons.Aborted) e most = λ y q. absurd (refused_read (errors.Closed reasons.Aborted) y q)
recv_read Running e most = open_read e most

pub recv_to : (r : Flow) (tick most : ℕ)
    → IsRead (reply_to r.params r.entries tick (call_of (ins.Recv most)) (offer_of (ins.Recv most)))
unfolding step
recv_to r tick most = recv_read (column (replay r.params r.entries)) (replay r.params r.entries) most

-- ----- what is told of a call that was made
module _ (a b : Application) (s : Socket) (tick : ℕ) where
  pub ready_told : HasCalled a b s tick ins.Ready None (λ reply. ◌≡◌ {A = Result (Unit {0}) SocketError} (Ok tt)
      (answer_by reply tt)) → HasAsked s tick ins.Ready answers.Ok a b
  ready_told ((reply, entry, is), same) = (
    (
      reply,
      entry,
      ap told (subst IsDone (sym entry.replied) (ready_to entry.flow tick) is),
    ),
    same,
  )

  pub shut_told : HasCalled a b s tick ins.Shut None (λ reply. ◌≡◌ {A = Result (Unit {0}) SocketError} (Ok tt)
      (answer_by reply tt)) → HasAsked s tick ins.Shut answers.Ok a b
  shut_told ((reply, entry, is), same) = (
    (
      reply,
      entry,
      ap told (subst IsDone (sym entry.replied) (shut_to entry.flow tick) is),
    ),
    same,
  )

  pub send_told : (bytes : _) (len : ℕ) → HasCalled a b s tick (ins.Send bytes) None
      (λ reply. ◌≡◌ {A = Result ℕ SocketError} (Ok len) (answer_by reply (length (reply_bytes reply))))
      → HasAsked s tick (ins.Send bytes) (answers.Took len) a b
  send_told bytes len ((reply, entry, is), same) =
      ((reply, entry, ap told (subst IsSent (sym entry.replied) (send_to entry.flow tick bytes) len is)), same)

  pub recv_told : (most k : ℕ) (before after : List ℕ) (y : Received) → k ≡ most
      → HasCalled a b s tick (ins.Recv k) None (IsReceived before after (Ok y))
      → HasAsked s tick (ins.Recv most) (given_as y) a b
  recv_told most k before after y same ((reply, entry, is), rest) =
      subst (λ n. HasAsked s tick (ins.Recv n) (given_as y) a b) same
      ((reply, entry, subst IsRead (sym entry.replied) (recv_to entry.flow tick k) y is.0), rest)

  pub recv_refused : (most k : ℕ) (before after : List ℕ) (e : SocketError) (answer : Answer) → k ≡ most
      → IsRefusedBy e answer → HasCalled a b s tick (ins.Recv k) (fault_of e) (IsReceived before after (Err e))
      → HasAsked s tick (ins.Recv most) answer a b
  recv_refused most k before after e answer same by made =
      subst (λ n. HasAsked s tick (ins.Recv n) answer a b) same
      (refused_told a b s tick (ins.Recv k) (λ reply. received_in (answer_of reply)) e answer by
      (retold a b s tick (ins.Recv k) (fault_of e) (fault_of e) (IsReceived before after (Err e)) _ refl (λ r q. q.0)
      made))
