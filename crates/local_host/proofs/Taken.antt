-- Which bytes a Send's reply takes: the first of those that it offers.
use Rattle.std.proofs.Common.{◌≡◌, ℕ, zero, suc, ◌∷◌, length, take, min, ap, ◌==◌, ◌&&◌, not, List, [], Option, refl}
use Rattle.tas_model.specs.declared.entry.Call.TheVariants as calls
use Rattle.tas_model.specs.declared.entry.Reply.{Reply}
use Rattle.tas_model.specs.declared.entry.Reply.TheVariants as replies
use Rattle.tas_model.specs.Endpoint.{Endpoint, send_room}
use Rattle.tas_model.specs.Segments.{Outcome}
use Rattle.tas_model.specs.ApplicationCalls.{Column, Opening, Over, Running, column, send_in}
use Rattle.tas_model.specs.LegalHistory.{step, reply_or, shown, taken_bytes}
use Rattle.flow_state.specs.Calls.{answer_of}
use Rattle.tas_model.proofs.Tests.{on_cond}
use Rattle.local_host.specs.Live.{took}

-- what the reply takes is the beginning of the offer
record Begins (offer : List ℕ) (reply : Reply) : Type 0 where
  front : taken_bytes reply ≡ take (length (taken_bytes reply)) offer

front_again : (k : ℕ) (xs : List ℕ) → take k xs ≡ take (length (take k xs)) xs
front_again zero xs = refl
front_again (suc k) [] = refl
front_again (suc k) (x ∷ xs) = ap (λ (ys : List ℕ). x ∷ ys) (front_again k xs)

record SendsFront (offer : List ℕ) (o : Option Outcome) : Type 0 where
  begins : Begins offer (reply_or o replies.Nothing)

send_takes_front : (c : Column) (e : Endpoint) (offered : ℕ) (offer : List ℕ)
    → SendsFront offer (send_in c e offered (take (send_room e) offer))
send_takes_front Opening e offered offer = record { begins = record { front = refl } }
send_takes_front (Over why) e offered offer = record { begins = record { front = refl } }
send_takes_front Running e offered offer =
    on_cond (SendsFront offer) e.tx.shut _ _ (λ t. record { begins = record { front = refl } })
    (λ f. on_cond (SendsFront offer) (min offered (send_room e) == 0 && not (offered == 0)) _ _
    (λ t. record { begins = record { front = refl } })
    (λ f. on_cond (SendsFront offer) (length (take (send_room e) offer) == min offered (send_room e)) _ _
    (λ t. record { begins = record { front = front_again (send_room e) offer } })
    (λ f. record { begins = record { front = refl } })))

-- a Send takes the first of the bytes that it offers
pub send_takes : (e : Endpoint) (tick offered : ℕ) (offer : List ℕ) →
    taken_bytes (reply_or (step e tick (calls.Send offered) (shown e offer)) replies.Nothing)
    ≡ take (length (taken_bytes (reply_or (step e tick (calls.Send offered) (shown e offer)) replies.Nothing)))
    offer
unfolding step
send_takes e tick offered offer = (send_takes_front (column e) e offered offer).begins.front

-- as many as its answer says
pub took_tells : (reply : Reply) → took (answer_of reply) ≡ length (taken_bytes reply)
took_tells replies.Ok = refl
took_tells replies.Nothing = refl
took_tells (replies.Sent seg) = refl
took_tells (replies.Took bytes) = refl
took_tells (replies.Got bytes update) = refl
took_tells replies.End = refl
took_tells replies.NotYet = refl
took_tells replies.NotOpen = refl
took_tells replies.Shut = refl
took_tells (replies.Closed reason) = refl
took_tells replies.Quiet = refl
took_tells replies.Resend = refl
took_tells replies.Probe = refl
took_tells replies.Expired = refl
took_tells replies.TimedOut = refl
took_tells (replies.Window cwnd ssthresh) = refl
