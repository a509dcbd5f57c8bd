-- Which call shows whether an entry may come next.
use Rattle.std.specs.Prelude.{ℕ, ◌≤◌, max, List, [], ◌∷◌, ◌++◌, length, nat_lt, if◌then◌else◌, ⊤}
use Rattle.tas_model.specs.declared.entry.Call.{Call}
use Rattle.tas_model.specs.declared.entry.Call.TheVariants as calls
use Rattle.tas_model.specs.declared.entry.Entry.{Entry}
use Rattle.tas_model.specs.declared.entry.Reply.{Reply}
use Rattle.tas_model.specs.Endpoint.{Endpoint}
use Rattle.tas_model.specs.declared.entry.HostParams.{HostParams}
use Rattle.tas_model.specs.declared.entry.Reply.TheVariants as replies
use Rattle.tas_model.specs.LegalHistory.{taken_bytes, step, Gives, reply_or, shown, replay, next_number, last_tick}

-- Of a Send the bytes that it took, and one more where more were offered: so no more is taken than the reply shows
-- exactly where there was no room for it.
abbrev pub offer_by : Call → Reply → List ℕ
offer_by (calls.Send offered) reply =
    taken_bytes reply ++ (if nat_lt (length (taken_bytes reply)) offered then 0 ∷ [] else [])
offer_by _ reply = []

-- the call that is made: a Send of these bytes, or the call itself
abbrev pub trial_by : Call → Reply → Call
trial_by (calls.Send offered) reply = calls.Send (length (offer_by (calls.Send offered) reply))
trial_by call reply = call

abbrev pub trial : Entry → Call
trial x = trial_by x.call x.reply

abbrev pub offer : Entry → List ℕ
offer x = offer_by x.call x.reply

-- It shows no more as taken than was offered.
abbrev pub IsWithin : Call → Reply → Type 0
IsWithin (calls.Send offered) reply = length (taken_bytes reply) ≤ offered
IsWithin _ reply = ⊤

-- The endpoint answers the entry's call at this tick as the entry shows.
abbrev pub Answers : Endpoint → (tick : ℕ) → Entry → Type 0
Answers e tick x = Gives (step e tick x.call x.reply) x.reply

-- the reply that the tried call gets
abbrev pub tried_reply : Endpoint → (tick : ℕ) → Entry → Reply
tried_reply e t x = reply_or (step e t (trial x) (shown e (offer x))) replies.Nothing

-- the entry that it makes, at this tick or the last entry's
abbrev pub tried_entry : HostParams → List Entry → Entry → Entry
tried_entry params k x = record {
  caller = x.caller;
  number = next_number x.caller k;
  tick = max x.tick (last_tick 0 k);
  call = trial x;
  reply = tried_reply (replay params k) (max x.tick (last_tick 0 k)) x;
}
