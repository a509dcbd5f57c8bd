-- A call that is a step gives one entry more of a legal history.
use Rattle.std.proofs.Common.{◌≡◌, ℕ, ◌==◌, ◌&&◌, not, Bool, true, false, cond, List, ◌++◌, length, take, min, max}
use Rattle.std.proofs.Common.{Option, Some, None, IsSome, refl, sym, subst, ap, ◌∙◌, true≢false, arith, eq-eqb}
use Rattle.std.proofs.Common.{length-take}
use Rattle.std.proofs.lemmas.List.{take_min}
use Rattle.std.proofs.lemmas.Bool.Decides.{nat_tests}
use Rattle.tas_model.specs.declared.entry.HostParams.{HostParams}
use Rattle.tas_model.specs.declared.entry.Entry.{Entry}
use Rattle.tas_model.specs.declared.entry.Caller.{Caller}
use Rattle.tas_model.specs.declared.entry.Call.{Call}
use Rattle.tas_model.specs.declared.entry.Call.TheVariants as calls
use Rattle.tas_model.specs.declared.entry.Reply.{Reply}
use Rattle.tas_model.specs.declared.entry.Reply.TheVariants as replies
use Rattle.tas_model.specs.Endpoint.{Endpoint, send_room}
use Rattle.tas_model.specs.Segments.{Outcome, unchanged}
use Rattle.tas_model.specs.ApplicationCalls.{Column, Opening, Over, Running, column, send_in}
use Rattle.tas_model.specs.LegalHistory.{step, replay, reply_or, Gives, Legal, Offers, shown, taken_bytes, last_tick}
use Rattle.tas_model.specs.LegalHistory.{extended_by}
use Rattle.tas_model.proofs.Histories.{legal_push}

abbrev reply_of : Option Outcome → Reply
reply_of o = reply_or o replies.Nothing

gives : (o : Option Outcome) → IsSome o → Gives o (reply_of o)
gives None s = absurd (true≢false (sym s))
gives (Some o) s = refl

send_running : (e : Endpoint) (offered : ℕ) (bytes : List ℕ) → length bytes ≡ min offered (send_room e)
    → Gives (send_in Running e offered (taken_bytes (reply_of (send_in Running e offered bytes))))
    (reply_of (send_in Running e offered bytes))
send_running e offered bytes fits = by_shut e.tx.shut refl
  where
    Goal : Type 0
    Goal = Gives (send_in Running e offered (taken_bytes (reply_of (send_in Running e offered bytes))))
        (reply_of (send_in Running e offered bytes))

    same : (length bytes == min offered (send_room e)) ≡ true
    same = eq-eqb (length bytes) (min offered (send_room e)) fits

    by_none : (b : Bool) → e.tx.shut ≡ false → (min offered (send_room e) == 0 && not (offered == 0)) ≡ b → Goal
    by_none true h k = rw (h, k) refl
    by_none false h k = rw (h, k, same) (rw same refl)

    by_shut : (b : Bool) → e.tx.shut ≡ b → Goal
    by_shut true h = rw h refl
    by_shut false h = by_none (min offered (send_room e) == 0 && not (offered == 0)) h refl

send_again : (c : Column) (e : Endpoint) (offered : ℕ) (bytes : List ℕ) → length bytes ≡ min offered (send_room e)
    → Gives (send_in c e offered (taken_bytes (reply_of (send_in c e offered bytes))))
    (reply_of (send_in c e offered bytes))
send_again Opening e offered bytes fits = refl
send_again (Over why) e offered bytes fits = refl
send_again Running e offered bytes fits = send_running e offered bytes fits

again : (e : Endpoint) (t : ℕ) (call : Call) (offer : List ℕ) → Offers call offer
    → IsSome (step e t call (shown e offer))
    → Gives (step e t call (reply_of (step e t call (shown e offer)))) (reply_of (step e t call (shown e offer)))
unfolding step
again e t (calls.Connect iss) offer o s = gives (step e t (calls.Connect iss) (shown e offer)) s
again e t (calls.Passive frame iss seg) offer o s = gives (step e t (calls.Passive frame iss seg) (shown e offer)) s
again e t (calls.Rx frame seg) offer o s = gives (step e t (calls.Rx frame seg) (shown e offer)) s
again e t calls.Emit offer o s = gives (step e t calls.Emit (shown e offer)) s
again e t calls.Tick offer o s = gives (step e t calls.Tick (shown e offer)) s
again e t calls.Control offer o s = gives (step e t calls.Control (shown e offer)) s
again e t calls.Accept offer o s = gives (step e t calls.Accept (shown e offer)) s
again e t calls.Ready offer o s = gives (step e t calls.Ready (shown e offer)) s
again e t (calls.Send offered) offer o s =
    send_again (column e) e offered (take (send_room e) offer) (omega (arith, length-take (send_room e) offer, o))
again e t (calls.Recv most) offer o s = gives (step e t (calls.Recv most) (shown e offer)) s
again e t calls.Shut offer o s = gives (step e t calls.Shut (shown e offer)) s
again e t calls.Close offer o s = gives (step e t calls.Close (shown e offer)) s
again e t calls.Abort offer o s = gives (step e t calls.Abort (shown e offer)) s

-- a call that is a step makes a legal history longer by its entry
pub legal_by : (params : HostParams) (h : List Entry) (by : Caller) (tick : ℕ) (call : Call) (offer : List ℕ)
    → Legal params h → Offers call offer
    → IsSome (step (replay params h) (max tick (last_tick 0 h)) call (shown (replay params h) offer))
    → Legal params (extended_by params h by tick call offer)
legal_by params h by tick call offer legal offers steps =
    legal_push params h _ legal
    (record {
      step = again (replay params h) (max tick (last_tick 0 h)) call offer offers steps;
      number = refl;
      tick = omega arith;
    })

-- ----- the reply is the one of a longer history
given : (o : Option Outcome) (reply : Reply) → Gives o reply → reply_of o ≡ reply
given None reply gives = absurd gives
given (Some o) reply gives = gives

abbrev sends : (shut full fits : Bool) → Endpoint → List ℕ → Option Outcome
sends shut full fits e bytes =
    cond shut (Some (unchanged e replies.Shut))
    (cond full (Some (unchanged e replies.NotYet))
    (cond fits (Some (record {
      state = record e { tx = record (e.tx) { out = e.tx.out ++ bytes } };
      reply = replies.Took bytes;
    })) None))

same_reply : (shut full fits : Bool) (e : Endpoint) (bytes : List ℕ) (reply : Reply)
    → (fits ≡ true → bytes ≡ taken_bytes reply) → Gives (sends shut full fits e (taken_bytes reply)) reply
    → reply_of (sends shut full true e bytes) ≡ reply
same_reply true full fits e bytes reply same g = g
same_reply false true fits e bytes reply same g = g
same_reply false false true e bytes reply same g = ap (λ (bs : List ℕ). replies.Took bs) (same refl) ∙ g
same_reply false false false e bytes reply same g = absurd g

send_shown : (c : Column) (e : Endpoint) (offered : ℕ) (offer : List ℕ) (reply : Reply) → offered ≡ length offer
    → Gives (send_in c e offered (taken_bytes reply)) reply
    → taken_bytes reply ≡ take (length (taken_bytes reply)) offer
    → reply_of (send_in c e offered (take (send_room e) offer)) ≡ reply
send_shown Opening e offered offer reply is g first = g
send_shown (Over why) e offered offer reply is g first = g
send_shown Running e offered offer reply is g first =
    subst (λ (b : Bool). reply_of (sends e.tx.shut (n == 0 && not (offered == 0)) b e bytes) ≡ reply) (sym all)
    (same_reply e.tx.shut (n == 0 && not (offered == 0)) (length (taken_bytes reply) == n) e bytes reply same g)
  where
    n : ℕ
    n = min offered (send_room e)

    bytes : List ℕ
    bytes = take (send_room e) offer

    all : (length bytes == n) ≡ true
    all = eq-eqb (length bytes) n (omega (arith, length-take (send_room e) offer, is))

    same : (length (taken_bytes reply) == n) ≡ true → bytes ≡ taken_bytes reply
    same fit =
        let size : length (taken_bytes reply) ≡ n = grind (arith, nat_tests, fit) in
        sym (take_min (send_room e) offer) ∙ (ap (λ (k : ℕ). take k offer) (omega (arith, size, is)) ∙ sym first)

-- The reply that a call gives, with the bytes of a Send being the first of those offered, is the one that the longer
-- history has.
pub reply_shown : (e : Endpoint) (t : ℕ) (call : Call) (offer : List ℕ) (reply : Reply) → Offers call offer
    → Gives (step e t call reply) reply
    → taken_bytes reply ≡ take (length (taken_bytes reply)) offer
    → reply_or (step e t call (shown e offer)) replies.Nothing ≡ reply
unfolding step
reply_shown e t (calls.Send offered) offer reply o g first = send_shown (column e) e offered offer reply o g first
reply_shown e t (calls.Connect iss) offer reply o g first = given (step e t (calls.Connect iss) reply) reply g
reply_shown e t (calls.Passive frame iss seg) offer reply o g first =
    given (step e t (calls.Passive frame iss seg) reply) reply g
reply_shown e t (calls.Rx frame seg) offer reply o g first = given (step e t (calls.Rx frame seg) reply) reply g
reply_shown e t calls.Emit offer reply o g first = given (step e t calls.Emit reply) reply g
reply_shown e t calls.Tick offer reply o g first = given (step e t calls.Tick reply) reply g
reply_shown e t calls.Control offer reply o g first = given (step e t calls.Control reply) reply g
reply_shown e t calls.Accept offer reply o g first = given (step e t calls.Accept reply) reply g
reply_shown e t calls.Ready offer reply o g first = given (step e t calls.Ready reply) reply g
reply_shown e t (calls.Recv most) offer reply o g first = given (step e t (calls.Recv most) reply) reply g
reply_shown e t calls.Shut offer reply o g first = given (step e t calls.Shut reply) reply g
reply_shown e t calls.Close offer reply o g first = given (step e t calls.Close reply) reply g
reply_shown e t calls.Abort offer reply o g first = given (step e t calls.Abort reply) reply g

-- ----- a Send
took : (shut full fits : Bool) (e : Endpoint) (bytes : List ℕ)
    → Gives (sends shut full fits e bytes) (replies.Took bytes) → fits ≡ true
took true full fits e bytes g = absurd (cc (g))
took false true fits e bytes g = absurd (cc (g))
took false false true e bytes g = refl
took false false false e bytes g = absurd g

send_takes : (c : Column) (e : Endpoint) (offered : ℕ) (bytes : List ℕ)
    → Gives (send_in c e offered bytes) (replies.Took bytes) → length bytes ≡ min offered (send_room e)
send_takes Opening e offered bytes g = absurd (cc (g))
send_takes (Over why) e offered bytes g = absurd (cc (g))
send_takes Running e offered bytes g =
    let fits : (length bytes == min offered (send_room e)) ≡ true =
    took e.tx.shut (min offered (send_room e) == 0 && not (offered == 0))
    (length bytes == min offered (send_room e)) e bytes g in
    grind (arith, nat_tests, fits)

-- a Send takes as many bytes as there is room for, of those that are offered
pub takes_what_fits : (e : Endpoint) (tick offered : ℕ) (bytes : List ℕ)
    → Gives (step e tick (calls.Send offered) (replies.Took bytes)) (replies.Took bytes)
    → length bytes ≡ min offered (send_room e)
unfolding step
takes_what_fits e tick offered bytes g = send_takes (column e) e offered bytes g
