-- What a flow answered last, and how many bytes such an answer has.
use Rattle.std.proofs.Common.{◌≡◌, ◌≤◌, ◌==◌, ◌&&◌, not, ℕ, zero, suc, Bool, true, false, List, [], ◌∷◌, ◌++◌}
use Rattle.std.proofs.Common.{length, take, drop, min}
use Rattle.std.proofs.Common.{max, slice_get, Option, Some, None, refl, sym, ap, subst, arith, length-take}
use Rattle.tas_model.specs.declared.entry.Reason.{Reason}
use Rattle.tas_model.specs.declared.entry.Reason.TheVariants as reasons
use Rattle.tas_model.specs.declared.entry.Caller.{Caller}
use Rattle.tas_model.specs.declared.entry.Call.{Call}
use Rattle.tas_model.specs.declared.entry.Call.TheVariants as calls
use Rattle.tas_model.specs.declared.entry.Entry.{Entry}
use Rattle.tas_model.specs.declared.entry.Reply.{Reply}
use Rattle.tas_model.specs.declared.entry.Reply.TheVariants as replies
use Rattle.tas_model.specs.Endpoint.{Endpoint, unread, send_room}
use Rattle.tas_model.specs.Segments.{Outcome, unchanged}
use Rattle.tas_model.specs.ApplicationCalls.{Column, Opening, Over, Running, column, send_in, recv_in, recv_open}
use Rattle.tas_model.specs.ApplicationCalls.{recv_given, empty_reply}
use Rattle.tas_model.specs.LegalHistory.{step, replay, reply_or, shown, taken_bytes, last_tick}
use Rattle.tas_model.proofs.Tests.{on_cond}
use Rattle.host_rounds.specs.Lists.{change_at}
use Rattle.host_rounds.specs.Hosts.{Live, Host, at_flow, with_call, last_reply, answer_of}

-- ----- the last reply
last_pushed : (reply : Reply) (h : List Entry) (x : Entry) → last_reply reply (h ++ x ∷ []) ≡ x.reply
last_pushed reply [] x = refl
last_pushed reply (y ∷ ys) x = last_pushed y.reply ys x

-- the reply of a flow, of which there may be none
abbrev reply_in : Option Live → Reply
reply_in None = replies.Nothing
reply_in (Some l) = last_reply replies.Nothing l.flow.entries

abbrev reply_at : (flow : ℕ) → List Live → Reply
reply_at n ls = reply_in (slice_get ls n)

same_reply : (n : ℕ) (host : Host) → answer_of n host ≡ reply_at n host.flows
same_reply n host = by_flow (slice_get host.flows n) where
  by_flow : (o : Option Live)
      → ◌≡◌ {A = Reply} (elim o [ None ↦ replies.Nothing | Some l ↦ last_reply replies.Nothing l.flow.entries ])
      (reply_in o)
  by_flow None = refl
  by_flow (Some l) = refl

-- What holds of every reply to a call, and where there is no flow, holds of the answer of the flow that makes it.
on_answer : (P : Reply → Type 0) (caller : Caller) (t : ℕ) (call : Call) (offer : List ℕ) → P replies.Nothing
    → ((e : Endpoint) (now : ℕ) → P (reply_or (step e now call (shown e offer)) replies.Nothing))
    → (n : ℕ) (ls : List Live)
    → P (reply_at n (change_at n (λ (l : Live). with_call l caller t call offer) ls))
on_answer P caller t call offer none all n [] = none
on_answer P caller t call offer none all zero (l ∷ ls) =
    subst P (sym (last_pushed replies.Nothing l.flow.entries _))
    (all (replay l.flow.params l.flow.entries) (max t (last_tick 0 l.flow.entries)))
on_answer P caller t call offer none all (suc n) (l ∷ ls) = on_answer P caller t call offer none all n ls

pub on_called : (P : Reply → Type 0) (caller : Caller) (t : ℕ) (call : Call) (offer : List ℕ) → P replies.Nothing
    → ((e : Endpoint) (now : ℕ) → P (reply_or (step e now call (shown e offer)) replies.Nothing))
    → (n : ℕ) (host : Host)
    → P (answer_of n (at_flow n (λ (l : Live). with_call l caller t call offer) host))
on_called P caller t call offer none all n host =
    subst P (sym (same_reply n (at_flow n (λ (l : Live). with_call l caller t call offer) host)))
    (on_answer P caller t call offer none all n host.flows)

-- ----- send
-- the reply takes no more than so many bytes
pub record TakesAtMost (most : ℕ) (reply : Reply) : Type 0 where
  pub few : length (taken_bytes reply) ≤ most

record SendsFew (most : ℕ) (o : Option Outcome) : Type 0 where
  takes : TakesAtMost most (reply_or o replies.Nothing)

sends_none : (most : ℕ) (e : Endpoint) (reply : Reply) → taken_bytes reply ≡ []
    → SendsFew most (Some (unchanged e reply))
sends_none most e reply none = record { takes = record { few = omega (arith, ap length none) } }

send_few : (c : Column) (e : Endpoint) (offered : ℕ) (offer : List ℕ)
    → SendsFew (length offer) (send_in c e offered (take (send_room e) offer))
send_few Opening e offered offer = sends_none (length offer) e replies.NotOpen refl
send_few (Over why) e offered offer = sends_none (length offer) e (replies.Closed why) refl
send_few Running e offered offer =
    on_cond (SendsFew (length offer)) e.tx.shut _ _ (λ t. sends_none (length offer) e replies.Shut refl)
    (λ f. on_cond (SendsFew (length offer)) (min offered (send_room e) == 0 && not (offered == 0)) _ _
    (λ t. sends_none (length offer) e replies.NotYet refl)
    (λ g. on_cond (SendsFew (length offer)) (length (take (send_room e) offer) == min offered (send_room e)) _ _
    (λ t. record { takes = record { few = omega (arith, length-take (send_room e) offer) } })
    (λ h. record { takes = record { few = omega arith } })))

pub sent_few : (caller : Caller) (t offered : ℕ) (offer : List ℕ) (n : ℕ) (host : Host)
    → TakesAtMost (length offer)
    (answer_of n (at_flow n (λ (l : Live). with_call l caller t (calls.Send offered) offer) host))
unfolding step
sent_few caller t offered offer n host =
    on_called (TakesAtMost (length offer)) caller t (calls.Send offered) offer (record { few = omega arith })
    (λ e now. (send_few (column e) e offered offer).takes) n host

-- ----- recv
-- the bytes that the reply gives
abbrev pub given_bytes : Reply → List ℕ
given_bytes (replies.Got bytes update) = bytes
given_bytes _ = []

pub record GivesAtMost (most : ℕ) (reply : Reply) : Type 0 where
  pub few : length (given_bytes reply) ≤ most

empty_few : (most : ℕ) (why : Option Reason) (ended : Bool) → GivesAtMost most (empty_reply why ended)
empty_few most (Some why) true = record { few = omega arith }
empty_few most (Some why) false = record { few = omega arith }
empty_few most None true = record { few = omega arith }
empty_few most None false = record { few = omega arith }

record RecvsFew (most : ℕ) (o : Outcome) : Type 0 where
  gives : GivesAtMost most o.reply

open_few : (e : Endpoint) (most : ℕ) → RecvsFew most (recv_open e most)
open_few e most =
    on_cond (RecvsFew most) (unread e.rx == 0) (unchanged e (empty_reply e.reason e.rx.ended)) (recv_given e most)
    (λ t. record { gives = empty_few most e.reason e.rx.ended })
    (λ f. record {
      gives = record { few = omega (arith, length-take (min most (unread e.rx)) (drop e.rx.read e.rx.got)) };
    })

recv_few : (c : Column) (e : Endpoint) (most : ℕ) → GivesAtMost most (recv_in c e most).reply
recv_few Opening e most = record { few = omega arith }
recv_few (Over reasons.Done) e most = (open_few e most).gives
recv_few (Over reasons.Reset) e most = record { few = omega arith }
recv_few (Over reasons.Refused) e most = record { few = omega arith }
recv_few (Over reasons.TimedOut) e most = record { few = omega arith }
recv_few (Over reasons.Aborted) e most = record { few = omega arith }
recv_few Running e most = (open_few e most).gives

pub got_few : (caller : Caller) (t most : ℕ) (n : ℕ) (host : Host)
    → GivesAtMost most (answer_of n (at_flow n (λ (l : Live). with_call l caller t (calls.Recv most) []) host))
unfolding step
got_few caller t most n host =
    on_called (GivesAtMost most) caller t (calls.Recv most) [] (record { few = omega arith })
    (λ e now. recv_few (column e) e most) n host
