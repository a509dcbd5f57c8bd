-- What an application is told of a call that was made beside the cores, its script goes on by as by the reply.
use Rattle.std.proofs.Common.{◌≡◌, ℕ, ◌+◌, ◌≤◌, ◌<◌, ◌==◌, ◌&&◌, not, min, max, take, drop, Bool, true, false, List}
use Rattle.std.proofs.Common.{[], ◌∷◌, ◌++◌, length, refl, sym, ap, subst, ◌∙◌, arith, length-take, length-drop}
use Rattle.std.proofs.lemmas.Bool.Decides.{nat_tests}
use Rattle.std.specs.Prelude.{Option, Some, None, Result, Ok, Err, ⊤}
use Rattle.tas_model.specs.declared.entry.Call.{Call}
use Rattle.tas_model.specs.declared.entry.Call.TheVariants as calls
use Rattle.tas_model.specs.declared.entry.Caller.{Caller}
use Rattle.tas_model.specs.declared.entry.Entry.{Entry}
use Rattle.tas_model.specs.declared.entry.HostParams.{HostParams}
use Rattle.tas_model.specs.declared.entry.Reason.{Reason}
use Rattle.tas_model.specs.declared.entry.Reason.TheVariants as reasons
use Rattle.tas_model.specs.declared.entry.Reply.{Reply}
use Rattle.tas_model.specs.declared.entry.Reply.TheVariants as replies
use Rattle.tas_model.specs.Endpoint.{Endpoint, phase, unread, send_room}
use Rattle.tas_model.specs.Segments.{Outcome, unchanged}
use Rattle.tas_model.specs.ApplicationCalls.{Column, Opening, Over, Running, column, send_in, recv_in, recv_open}
use Rattle.tas_model.specs.ApplicationCalls.{recv_given, empty_reply, close_in, abort_in, abort_reply, tells_abort}
use Rattle.tas_model.specs.LegalHistory.{step, replay, reply_or, shown, last_tick, extended_by, Offers, taken_bytes}
use Rattle.tas_model.proofs.Tests.{on_cond}
use Rattle.host_rounds.specs.Hosts.{last_reply}
use Rattle.flow_state.specs.declared.call.Answer.{Answer}
use Rattle.flow_state.specs.declared.call.Answer.TheVariants as tells
use Rattle.flow_state.specs.Calls.{answer_of, reply_bytes}
use Rattle.libtas_sockets.specs.Answers.{answer_by, received_in}
use Rattle.libtas_sockets.specs.declared.socket_error.SocketError.{SocketError}
use Rattle.libtas_sockets.specs.declared.socket_error.SocketError.TheVariants as errors
use Rattle.core_phase.specs.Attempts.{IsCallOf}
use Rattle.core_phase.specs.declared.attempt.Answered.{Answered}
use Rattle.core_phase.specs.declared.attempt.Answered.TheVariants as answers
use Rattle.core_phase.specs.declared.attempt.Attempt.{Attempt}
use Rattle.core_phase.specs.declared.attempt.Attempt.TheVariants as attempts
use Rattle.phase_orders.specs.AppTurns.{is_made, IsTold}
use Rattle.asked_host.specs.Asking.{told}
use Rattle.scenario_text.specs.declared.scenario.Step.{Step}
use Rattle.scenario_text.specs.declared.scenario.Step.TheVariants as steps
use Rattle.local_host.specs.Live.{took}
use Rattle.scenario_ranges.specs.Ranges.{IsStepInRange}
use Rattle.scenario_runs.specs.Applications.{Script, sent_on, filling, most, asks_for, unbind}
use Rattle.scenario_host.specs.Answers.{gave}
use Rattle.scenario_host.specs.Sound.{IsPart, IsPartOfFirst, IsFit}
use Rattle.scenario_host.specs.Tries.{answered_at, IsAnswerAt}
use Rattle.scenario_host.proofs.Answering.{sent_same, sent_alike, received_same, received_alike}
use Rattle.scenario_host.proofs.Fit.{IsUnderWay, StaysFit, stays_same, stays_stepped, stays_sent, stays_received}
use Rattle.scenario_host.proofs.Fit.{fit_stepped, fit_unbound}
use Rattle.scenario_host.proofs.Offers.{length-filling}
use Rattle.scenario_host.proofs.Replies.{given_bytes}
use Rattle.script_tries.specs.Steps.{call_at, offer_at, by_reply}
use Rattle.core_host.specs.Attempts.{answer_told}

-- ----- which replies a call may get
-- No more bytes are taken than are offered, nor given than are asked for.
abbrev pub IsSendReply : (offered : ℕ) → Reply → Type 0
IsSendReply n (replies.Took bytes) = length bytes ≤ n
IsSendReply n replies.NotYet = ⊤
IsSendReply n replies.NotOpen = ⊤
IsSendReply n replies.Shut = ⊤
IsSendReply n (replies.Closed reason) = ⊤
IsSendReply n _ = ⊥

abbrev pub IsRecvReply : (most : ℕ) → Reply → Type 0
IsRecvReply n (replies.Got bytes update) = length bytes ≤ n
IsRecvReply n replies.End = ⊤
IsRecvReply n replies.NotYet = ⊤
IsRecvReply n replies.NotOpen = ⊤
IsRecvReply n (replies.Closed reason) = ⊤
IsRecvReply n _ = ⊥

abbrev pub IsAbortReply : Reply → Type 0
IsAbortReply (replies.Closed reason) = ⊤
IsAbortReply (replies.Sent seg) = ⊤
IsAbortReply replies.Nothing = ⊤
IsAbortReply _ = ⊥

abbrev pub MayReply : Call → Reply → Type 0
MayReply (calls.Send offered) reply = IsSendReply offered reply
MayReply (calls.Recv most) reply = IsRecvReply most reply
MayReply calls.Close reply = reply ≡ replies.Ok
MayReply calls.Abort reply = IsAbortReply reply
MayReply call reply = ⊤

record SendReplies (offered : ℕ) (o : Option Outcome) : Type 0 where
  reply : IsSendReply offered (reply_or o replies.Nothing)

send_may : (c : Column) (e : Endpoint) (offer : List ℕ)
    → SendReplies (length offer) (send_in c e (length offer) (take (send_room e) offer))
send_may Opening e offer = record { reply = tt }
send_may (Over why) e offer = record { reply = tt }
send_may Running e offer =
    on_cond (SendReplies (length offer)) e.tx.shut _ _ (λ t. record { reply = tt })
    (λ f. on_cond (SendReplies (length offer)) (min (length offer) (send_room e) == 0 && not (length offer == 0)) _ _
    (λ t. record { reply = tt })
    (λ g. on_cond (SendReplies (length offer))
    (length (take (send_room e) offer) == min (length offer) (send_room e)) _ _
    (λ t. record { reply = few (send_room e) offer })
    (λ h. absurd (not_all (send_room e) offer h))))
  where
    few : (n : ℕ) (xs : List ℕ) → length (take n xs) ≤ length xs
    few n xs = omega (arith, length-take n xs)

    not_all : (n : ℕ) (xs : List ℕ) → (length (take n xs) == min (length xs) n) ≡ false → ⊥
    not_all n xs h = grind (arith, nat_tests, h, length-take n xs)

record RecvReplies (most : ℕ) (o : Outcome) : Type 0 where
  reply : IsRecvReply most o.reply

empty_may : (most : ℕ) (why : Option Reason) (ended : Bool) → IsRecvReply most (empty_reply why ended)
empty_may n (Some why) true = tt
empty_may n (Some why) false = tt
empty_may n None true = tt
empty_may n None false = tt

open_may : (e : Endpoint) (most : ℕ) → RecvReplies most (recv_open e most)
open_may e most =
    on_cond (RecvReplies most) (unread e.rx == 0) (unchanged e (empty_reply e.reason e.rx.ended)) (recv_given e most)
    (λ t. record { reply = empty_may most e.reason e.rx.ended })
    (λ f. record { reply = omega (arith, length-take (min most (unread e.rx)) (drop e.rx.read e.rx.got)) })

recv_may : (c : Column) (e : Endpoint) (n : ℕ) → RecvReplies n (recv_in c e n)
recv_may Opening e n = record { reply = tt }
recv_may (Over reasons.Done) e n = open_may e n
recv_may (Over reasons.Reset) e n = record { reply = tt }
recv_may (Over reasons.Refused) e n = record { reply = tt }
recv_may (Over reasons.TimedOut) e n = record { reply = tt }
recv_may (Over reasons.Aborted) e n = record { reply = tt }
recv_may Running e n = open_may e n

close_may : (c : Column) (e : Endpoint) → (close_in c e).reply ≡ replies.Ok
close_may Opening e = refl
close_may (Over why) e = refl
close_may Running e = refl

told_may : (e : Endpoint) → IsAbortReply (abort_reply e)
told_may e = on_cond IsAbortReply (tells_abort (phase e)) _ _ (λ t. tt) (λ f. tt)

abort_may : (c : Column) (e : Endpoint) → IsAbortReply (abort_in c e).reply
abort_may Opening e = told_may e
abort_may (Over why) e = tt
abort_may Running e = told_may e

last_pushed : (reply : Reply) (h : List Entry) (x : Entry) → last_reply reply (h ++ x ∷ []) ≡ x.reply
last_pushed reply [] x = refl
last_pushed reply (y ∷ ys) x = last_pushed y.reply ys x

step_may : (e : Endpoint) (t : ℕ) (call : Call) (offer : List ℕ) → Offers call offer
    → MayReply call (reply_or (step e t call (shown e offer)) replies.Nothing)
unfolding step
step_may e t (calls.Send offered) offer is =
    subst (λ (n : ℕ). IsSendReply n (reply_or (send_in (column e) e n (take (send_room e) offer)) replies.Nothing))
    (sym is) (send_may (column e) e offer).reply
step_may e t (calls.Recv most) offer is = (recv_may (column e) e most).reply
step_may e t (calls.Connect iss) offer is = tt
step_may e t (calls.Passive frame iss seg) offer is = tt
step_may e t (calls.Rx frame seg) offer is = tt
step_may e t calls.Emit offer is = tt
step_may e t calls.Tick offer is = tt
step_may e t calls.Control offer is = tt
step_may e t calls.Accept offer is = tt
step_may e t calls.Ready offer is = tt
step_may e t calls.Shut offer is = tt
step_may e t calls.Close offer is = close_may (column e) e
step_may e t calls.Abort offer is = abort_may (column e) e

-- the reply that the call makes of a history
pub reply_may : (params : HostParams) (h : List Entry) (by : Caller) (t : ℕ) (call : Call) (offer : List ℕ)
    → Offers call offer → MayReply call (last_reply replies.Nothing (extended_by params h by t call offer))
reply_may params h by t call offer is =
    subst (MayReply call) (sym (last_pushed replies.Nothing h _))
    (step_may (replay params h) (max t (last_tick 0 h)) call offer is)

pub offers_at : (step : Step) (s : Script) → Offers (call_at step s) (offer_at step s)
offers_at (steps.Send socket text) s = refl
offers_at (steps.Fill socket count) s = refl
offers_at (steps.Recv socket count) s = tt
offers_at (steps.Drain socket) s = tt
offers_at (steps.Shut socket) s = tt
offers_at (steps.Close socket) s = tt
offers_at (steps.Abort socket) s = tt
offers_at (steps.Listen name port) s = tt
offers_at (steps.Accept socket listener) s = tt
offers_at (steps.Connect socket host port) s = tt
offers_at (steps.Wait ticks) s = tt

-- ----- what is told
-- the answer is told of the reply to this call, as far as a script goes by it
abbrev pub IsHeardAs : Call → Answer → Reply → Type 0
IsHeardAs (calls.Send offered) a reply =
    (told a ≡ told (answer_of reply)) × (took a ≤ offered) × (length (taken_bytes reply) ≤ offered)
IsHeardAs (calls.Recv most) a reply =
    (told a ≡ told (answer_of reply)) × (gave a ≤ most) × (length (given_bytes reply) ≤ most)
IsHeardAs call a reply = ⊤

pub record IsHeard (call : Call) (answer : Answered) (reply : Reply) : Type 0 where
  pub told_is : Answer
  pub is : answer_told answer ≡ Some told_is
  pub so : IsHeardAs call told_is reply

sent_heard : (offered : ℕ) (reply : Reply) → IsSendReply offered reply
    → IsHeard (calls.Send offered) (answers.Sent (answer_by reply (length (reply_bytes reply)))) reply
sent_heard n (replies.Took bytes) may =
    record { told_is = tells.Took (length bytes); is = refl; so = (refl, may, may) }
sent_heard n replies.NotYet may =
    record { told_is = tells.NotYet; is = refl; so = (refl, omega arith, omega arith) }
sent_heard n replies.NotOpen may =
    record { told_is = tells.NotOpen; is = refl; so = (refl, omega arith, omega arith) }
sent_heard n replies.Shut may =
    record { told_is = tells.Shut; is = refl; so = (refl, omega arith, omega arith) }
sent_heard n (replies.Closed reason) may =
    record { told_is = tells.Closed reason; is = refl; so = (refl, omega arith, omega arith) }
sent_heard n replies.Ok may = absurd may
sent_heard n replies.Nothing may = absurd may
sent_heard n (replies.Sent seg) may = absurd may
sent_heard n (replies.Got bytes update) may = absurd may
sent_heard n replies.End may = absurd may
sent_heard n replies.Quiet may = absurd may
sent_heard n replies.Resend may = absurd may
sent_heard n replies.Probe may = absurd may
sent_heard n replies.Expired may = absurd may
sent_heard n replies.TimedOut may = absurd may
sent_heard n (replies.Window cwnd ssthresh) may = absurd may

read_heard : (most : ℕ) (reply : Reply) → IsRecvReply most reply
    → IsHeard (calls.Recv most) (answers.Read (answer_by reply (received_in (answer_of reply)))) reply
read_heard n (replies.Got bytes update) may =
    record { told_is = tells.Got (length bytes) None; is = refl; so = (refl, may, may) }
read_heard n replies.End may =
    record { told_is = tells.End; is = refl; so = (refl, omega arith, omega arith) }
read_heard n replies.NotYet may =
    record { told_is = tells.NotYet; is = refl; so = (refl, omega arith, omega arith) }
read_heard n replies.NotOpen may =
    record { told_is = tells.NotOpen; is = refl; so = (refl, omega arith, omega arith) }
read_heard n (replies.Closed reason) may =
    record { told_is = tells.Closed reason; is = refl; so = (refl, omega arith, omega arith) }
read_heard n (replies.Took bytes) may = absurd may
read_heard n replies.Shut may = absurd may
read_heard n replies.Ok may = absurd may
read_heard n replies.Nothing may = absurd may
read_heard n (replies.Sent seg) may = absurd may
read_heard n replies.Quiet may = absurd may
read_heard n replies.Resend may = absurd may
read_heard n replies.Probe may = absurd may
read_heard n replies.Expired may = absurd may
read_heard n replies.TimedOut may = absurd may
read_heard n (replies.Window cwnd ssthresh) may = absurd may

-- a call of which only an error is told
record IsDoneSo (answer : Answered) : Type 0 where
  told_is : Answer
  is : answer_told answer ≡ Some told_is

done_so : (reply : Reply) → IsDoneSo (answers.Done (answer_by reply tt))
done_so replies.NotYet = record { told_is = tells.NotYet; is = refl }
done_so replies.NotOpen = record { told_is = tells.NotOpen; is = refl }
done_so replies.Shut = record { told_is = tells.Shut; is = refl }
done_so (replies.Closed reason) = record { told_is = tells.Closed reason; is = refl }
done_so (replies.Took bytes) = record { told_is = tells.Ok; is = refl }
done_so (replies.Got bytes update) = record { told_is = tells.Ok; is = refl }
done_so replies.End = record { told_is = tells.Ok; is = refl }
done_so replies.Ok = record { told_is = tells.Ok; is = refl }
done_so replies.Nothing = record { told_is = tells.Ok; is = refl }
done_so (replies.Sent seg) = record { told_is = tells.Ok; is = refl }
done_so replies.Quiet = record { told_is = tells.Ok; is = refl }
done_so replies.Resend = record { told_is = tells.Ok; is = refl }
done_so replies.Probe = record { told_is = tells.Ok; is = refl }
done_so replies.Expired = record { told_is = tells.Ok; is = refl }
done_so replies.TimedOut = record { told_is = tells.Ok; is = refl }
done_so (replies.Window cwnd ssthresh) = record { told_is = tells.Ok; is = refl }

abbrev is_done : (Result (Unit {0}) SocketError) → Answered
is_done result = answers.Done result

-- the call that was made is one of this attempt, which was told of the reply
pub heard : (call : Call) (before after : Attempt) (answer : Answered) (reply : Reply) → IsCallOf before call
    → MayReply call reply → IsTold before after answer reply → IsHeard call answer reply
heard call attempts.Nothing after answer reply of_call may told_so = absurd told_so
heard call (attempts.Send bytes) after answer reply of_call may (result, e, is) =
    subst (λ (c : Call). IsHeard c answer reply) (sym of_call)
    (subst (λ (x : Answered). IsHeard (calls.Send (length bytes.items)) x reply) (sym (e ∙ ap answers.Sent is))
    (sent_heard (length bytes.items) reply (subst (λ (c : Call). MayReply c reply) of_call may)))
heard call (attempts.Recv buf) after answer reply of_call may (result, e, is) =
    subst (λ (c : Call). IsHeard c answer reply) (sym of_call)
    (subst (λ (x : Answered). IsHeard (calls.Recv (length buf.items)) x reply) (sym (e ∙ ap answers.Read is.0))
    (read_heard (length buf.items) reply (subst (λ (c : Call). MayReply c reply) of_call may)))
heard call attempts.Shut after answer reply of_call may (result, e, is) =
    let d = done_so reply in
    subst (λ (c : Call). IsHeard c answer reply) (sym of_call)
    (record { told_is = d.told_is; is = ap answer_told (e ∙ ap is_done is) ∙ d.is; so = tt })
heard call attempts.Close after answer reply of_call may (result, e, is) =
    let d = done_so reply in
    subst (λ (c : Call). IsHeard c answer reply) (sym of_call)
    (record { told_is = d.told_is; is = ap answer_told (e ∙ ap is_done is) ∙ d.is; so = tt })
heard call attempts.Abort after answer reply of_call may (result, e, is) =
    let d = done_so reply in
    subst (λ (c : Call). IsHeard c answer reply) (sym of_call)
    (record { told_is = d.told_is; is = ap answer_told (e ∙ ap is_done is) ∙ d.is; so = tt })

-- ----- nothing was made
unmade_error : (e : SocketError) → is_made (answers.Sent (Err e)) ≡ false
    → answer_told (answers.Sent (Err e)) ≡ None
unmade_error errors.NotYet e = absurd (cc (e))
unmade_error errors.NotOpen e = absurd (cc (e))
unmade_error errors.Shut e = absurd (cc (e))
unmade_error (errors.Closed x) e = absurd (cc (e))
unmade_error (errors.Busy x) e = refl
unmade_error errors.OutOfMemory e = refl
unmade_error (errors.Stale x) e = refl
unmade_error (errors.Moved x y) e = refl
unmade_error (errors.Early x) e = refl
unmade_error (errors.SlotInUse x) e = refl
unmade_error (errors.PortInUse x) e = refl
unmade_error errors.NoPort e = refl
unmade_error errors.NoFlowSlot e = refl

pub unmade : (answer : Answered) → is_made answer ≡ false → answer_told answer ≡ None
unmade answers.Nothing e = refl
unmade (answers.Sent (Ok x)) e = absurd (cc (e))
unmade (answers.Sent (Err x)) e = unmade_error x e
unmade (answers.Read (Ok x)) e = absurd (cc (e))
unmade (answers.Read (Err x)) e = unmade_error x e
unmade (answers.Done (Ok x)) e = absurd (cc (e))
unmade (answers.Done (Err x)) e = unmade_error x e

-- ----- the script goes on alike
pub alike : (step : Step) (s : Script) (a : Answer) (reply : Reply) → IsHeardAs (call_at step s) a reply
    → answered_at step a s ≡ by_reply step reply s
alike (steps.Send socket text) s a reply so =
    sent_alike a (answer_of reply) (length text) s so.0 ∙ sent_same reply (length text) s
alike (steps.Fill socket count) s a reply so =
    sent_alike a (answer_of reply) count s so.0
    ∙ (sent_same reply count s ∙ ap (λ (n : ℕ). sent_on reply n s) (sym (length-filling count)))
alike (steps.Recv socket count) s a reply so =
    received_alike a (answer_of reply) (Some count) s so.0 ∙ received_same reply (Some count) s
alike (steps.Drain socket) s a reply so =
    received_alike a (answer_of reply) None s so.0 ∙ received_same reply None s
alike (steps.Shut socket) s a reply so = refl
alike (steps.Close socket) s a reply so = refl
alike (steps.Abort socket) s a reply so = refl
alike (steps.Listen name port) s a reply so = refl
alike (steps.Accept socket listener) s a reply so = refl
alike (steps.Connect socket host port) s a reply so = refl
alike (steps.Wait ticks) s a reply so = refl

-- by an answer with no more bytes than the step has
offer_left : (s : Script) (bytes : List ℕ) (n : ℕ) → s.done < length bytes → n ≤ length (take most (drop s.done bytes))
    → s.done + n ≤ length bytes
offer_left s bytes n part few =
    let front = length-take most (drop s.done bytes) in
    let behind = length-drop s.done bytes in
    omega (arith, front, behind, part, few)

pub within_at : (step : Step) (s : Script) (a : Answer) (reply : Reply) → IsStepInRange step → IsPart step s.done
    → IsHeardAs (call_at step s) a reply → IsAnswerAt step a s
within_at (steps.Send socket text) s a reply range part so =
    (omega (arith, range.1), offer_left s text (took a) part so.1)
within_at (steps.Fill socket count) s a reply range part so =
    let all : length (filling count) ≡ count = length-filling count in
    let left : s.done + took a ≤ length (filling count) =
    offer_left s (filling count) (took a) (omega (arith, part, all)) so.1 in
    omega (arith, left, all)
within_at (steps.Recv socket count) s a reply range part so =
    let few : gave a ≤ asks_for (Some count) s.done = so.1 in omega (arith, few, part)
within_at (steps.Drain socket) s a reply range part so = tt
within_at (steps.Shut socket) s a reply range part so = tt
within_at (steps.Close socket) s a reply range part so = tt
within_at (steps.Abort socket) s a reply range part so = tt
within_at (steps.Listen name port) s a reply range part so = tt
within_at (steps.Accept socket listener) s a reply range part so = tt
within_at (steps.Connect socket host port) s a reply range part so = tt
within_at (steps.Wait ticks) s a reply range part so = tt

-- and is fit then, as it was
part_under_way : (all : ℕ) (step : Step) (rest : List Step) (s : Script) → s.left ≡ step ∷ rest
    → ((done : ℕ) → done < all → IsPart step done) → IsUnderWay all s
part_under_way all step rest s left part = record {
  goes_on = λ done below. subst (λ (steps : List Step). IsPartOfFirst steps done) (sym left) (part done below);
}

pub fit_then : (flows : ℕ) (step : Step) (rest : List Step) (s : Script) (a : Answer) (reply : Reply)
    → s.left ≡ step ∷ rest → IsPart step s.done → IsHeardAs (call_at step s) a reply → IsFit flows s
    → StaysFit flows s (by_reply step reply s)
fit_then n (steps.Send socket text) rest s a reply left part so fit =
    stays_sent reply n (length text) s
    (part_under_way (length text) (steps.Send socket text) rest s left (λ d below. below))
    (offer_left s text (length (taken_bytes reply)) part so.2) fit
fit_then n (steps.Fill socket count) rest s a reply left part so fit =
    let all : length (filling count) ≡ count = length-filling count in
    stays_sent reply n (length (filling count)) s
    (part_under_way (length (filling count)) (steps.Fill socket count) rest s left
    (λ d below. omega (arith, below, all)))
    (offer_left s (filling count) (length (taken_bytes reply)) (omega (arith, part, all)) so.2) fit
fit_then n (steps.Recv socket count) rest s a reply left part so fit =
    let few : length (given_bytes reply) ≤ asks_for (Some count) s.done = so.2 in
    stays_received reply n (Some count) s
    (part_under_way count (steps.Recv socket count) rest s left (λ d below. below)) (omega (arith, few, part)) fit
fit_then n (steps.Drain socket) rest s a reply left part so fit = stays_received reply n None s tt tt fit
fit_then n (steps.Shut socket) rest s a reply left part so fit = stays_stepped n s fit
fit_then n (steps.Close socket) rest s a reply left part so fit =
    record { fit = fit_stepped n (unbind socket s) (fit_unbound n socket s fit); number = refl }
fit_then n (steps.Abort socket) rest s a reply left part so fit =
    record { fit = fit_stepped n (unbind socket s) (fit_unbound n socket s fit); number = refl }
fit_then n (steps.Listen name port) rest s a reply left part so fit = stays_same n s fit
fit_then n (steps.Accept socket listener) rest s a reply left part so fit = stays_same n s fit
fit_then n (steps.Connect socket host port) rest s a reply left part so fit = stays_same n s fit
fit_then n (steps.Wait ticks) rest s a reply left part so fit = stays_same n s fit
