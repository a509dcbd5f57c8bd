-- Which lists of entries are histories of an endpoint. A history is read from its oldest entry on.
use Rattle.std.specs.Prelude.{◌≡◌, ℕ, ◌≤◌, ◌==◌, Bool, true, false, List, [], ◌∷◌, ◌++◌, length, take, max, count_by}
use Rattle.std.specs.Prelude.{Option, Some, None, ⊤}
use Rattle.tas_model.specs.declared.entry.HostParams.{HostParams}
use Rattle.tas_model.specs.declared.entry.Entry.{Entry}
use Rattle.tas_model.specs.declared.entry.Caller.{Caller}
use Rattle.tas_model.specs.declared.entry.Caller.TheVariants.{Slow, Core, App}
use Rattle.tas_model.specs.declared.entry.Call.{Call}
use Rattle.tas_model.specs.declared.entry.Call.TheVariants as calls
use Rattle.tas_model.specs.declared.entry.Reply.{Reply}
use Rattle.tas_model.specs.declared.entry.Reply.TheVariants as replies
use Rattle.tas_model.specs.Endpoint.{Endpoint, fresh, first_rate, agreed_scaling, send_room}
use Rattle.tas_model.specs.Segments.{Outcome}
use Rattle.tas_model.specs.Receive.{rx}
use Rattle.tas_model.specs.ApplicationCalls.{Column, Opening, Over, Running, column, accept_in, ready_in, send_in}
use Rattle.tas_model.specs.ApplicationCalls.{recv_in, shut_in, close_in, abort_in}
use Rattle.tas_model.specs.NextSegment.{going, emitted}
use Rattle.tas_model.specs.Timers.{ticks, control}

-- ----- the opened endpoint (RFC 9293, sections 3.10.1 and 3.10.7.2)
-- Connect begins one, and Passive one that has taken the peer's SYN: its number, window, MSS and shift, and nothing
-- else of that segment.
abbrev pub opened : HostParams → Call → Endpoint
opened params (calls.Connect iss) = fresh params iss.0
opened params (calls.Passive frame iss seg) =
    let e : Endpoint = fresh params iss.0 in
    record e {
      peer = Some seg.head.seq.0;
      scaling = agreed_scaling params.scale seg.head.scale;
      tx = record (e.tx) { window = seg.head.window };
      rate = first_rate params seg.head.mss;
    }
opened params _ = fresh params 0

-- ----- one step
-- the bytes that a reply shows as taken
abbrev pub taken_bytes : Reply → List ℕ
taken_bytes (replies.Took bytes) = bytes
taken_bytes _ = []

-- Control is a step past the opening alone.
abbrev pub control_in : Column → Endpoint → Option Outcome
control_in Running e = Some (control e)
control_in Opening e = None
control_in (Over why) e = None

-- What the call does, where it is a step of this endpoint. The reply is read for the bytes of a Send alone.
unfoldable pub step : Endpoint → (tick : ℕ) → Call → Reply → Option Outcome
step e tick (calls.Connect iss) reply = None
step e tick (calls.Passive frame iss seg) reply = None
step e tick (calls.Rx frame seg) reply = Some (rx e tick seg)
step e tick calls.Emit reply = emitted (going e)
step e tick calls.Tick reply = ticks e tick
step e tick calls.Control reply = control_in (column e) e
step e tick calls.Accept reply = accept_in (column e) e
step e tick calls.Ready reply = Some (ready_in (column e) e)
step e tick (calls.Send offered) reply = send_in (column e) e offered (taken_bytes reply)
step e tick (calls.Recv most) reply = Some (recv_in (column e) e most)
step e tick calls.Shut reply = Some (shut_in (column e) e)
step e tick calls.Close reply = Some (close_in (column e) e)
step e tick calls.Abort reply = Some (abort_in (column e) e)

abbrev pub state_or : Endpoint → Option Outcome → Endpoint
state_or e None = e
state_or e (Some o) = o.state

-- the endpoint after an entry
abbrev pub moved : Endpoint → Entry → Endpoint
moved e x = state_or e (step e x.tick x.call x.reply)

abbrev pub replay_on : Endpoint → List Entry → Endpoint
replay_on e [] = e
replay_on e (x ∷ xs) = replay_on (moved e x) xs

-- The endpoint after a history.
unfoldable pub replay : HostParams → List Entry → Endpoint
replay params [] = fresh params 0
replay params (x ∷ xs) = replay_on (opened params x.call) xs

-- ----- facts along a list
-- A fact of each entry of `xs` and of what came before it; `earlier` came before them all.
abbrev pub Along : (List Entry → Entry → Type 0) → (earlier xs : List Entry) → Type 0
Along fact earlier [] = ⊤
Along fact earlier (x ∷ xs) = fact earlier x × Along fact (earlier ++ x ∷ []) xs

-- ----- legal histories
abbrev pub same_caller : Caller → Caller → Bool
same_caller Slow Slow = true
same_caller (Core k) (Core j) = k == j
same_caller (App k) (App j) = k == j
same_caller _ _ = false

-- a caller's entries are numbered 0, 1, 2 and so on
abbrev pub next_number : Caller → List Entry → ℕ
next_number caller xs = count_by (λ x. same_caller x.caller caller) xs

-- the tick of the last entry, or `t` where there is none
abbrev pub last_tick : (t : ℕ) → List Entry → ℕ
last_tick t [] = t
last_tick t (x ∷ xs) = last_tick x.tick xs

abbrev pub Opens : Call → Type 0
Opens (calls.Connect iss) = ⊤
Opens (calls.Passive frame iss seg) = ⊤
Opens _ = ⊥

abbrev pub Gives : Option Outcome → Reply → Type 0
Gives None reply = ⊥
Gives (Some o) reply = o.reply ≡ reply

-- The entry may be the first.
pub record IsFirst (x : Entry) : Type 0 where
  pub opens : Opens x.call
  pub reply : x.reply ≡ replies.Ok
  pub number : x.number ≡ 0

-- The entry may come next: its call is a step that gives its reply, its number is its caller's next one, and ticks do
-- not fall.
pub record MayFollow (params : HostParams) (earlier : List Entry) (x : Entry) : Type 0 where
  pub step : Gives (step (replay params earlier) x.tick x.call x.reply) x.reply
  pub number : x.number ≡ next_number x.caller earlier
  pub tick : last_tick 0 earlier ≤ x.tick

abbrev pub LegalAfter : HostParams → (earlier xs : List Entry) → Type 0
LegalAfter params earlier xs = Along (MayFollow params) earlier xs

-- A legal history: the first entry opens, and each later one may follow.
abbrev pub Legal : HostParams → List Entry → Type 0
Legal params [] = ⊥
Legal params (x ∷ xs) = IsFirst x × LegalAfter params (x ∷ []) xs

-- ----- one call more
-- the reply that a step gives
abbrev pub reply_or : Option Outcome → Reply → Reply
reply_or None reply = reply
reply_or (Some o) reply = o.reply

-- A call offers these bytes, where it is a Send.
abbrev pub Offers : Call → (offer : List ℕ) → Type 0
Offers (calls.Send offered) offer = offered ≡ length offer
Offers _ offer = ⊤

-- of the bytes offered, the first that fit
abbrev pub shown : Endpoint → (offer : List ℕ) → Reply
shown e offer = replies.Took (take (send_room e) offer)

-- The history with the one entry that this call makes, at this tick or the last entry's, whichever is later. A Send
-- offers `offer`.
abbrev pub extended_by : HostParams → List Entry → Caller → (tick : ℕ) → Call → (offer : List ℕ) → List Entry
extended_by params h caller tick call offer =
    let t : ℕ = max tick (last_tick 0 h) in
    let e : Endpoint = replay params h in
    h ++ (record {
      caller = caller;
      number = next_number caller h;
      tick = t;
      call = call;
      reply = reply_or (step e t call (shown e offer)) replies.Nothing;
    }) ∷ []
