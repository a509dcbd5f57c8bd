-- What contracts see of a record: its flow's history.
use Rattle.std.specs.Prelude.{ℕ, zero, suc, ◌+◌, List, [], ◌∷◌, max}
use Rattle.tas_num.specs.declared.seq.Seq.{Seq}
use Rattle.tas_model.specs.declared.entry.FlowId.{FlowId}
use Rattle.tas_model.specs.declared.entry.FourTuple.{FourTuple}
use Rattle.tas_model.specs.declared.entry.HostParams.{HostParams}
use Rattle.tas_model.specs.declared.entry.FrameId.{FrameId}
use Rattle.tas_model.specs.declared.entry.Seg.{Seg}
use Rattle.tas_model.specs.declared.entry.Caller.{Caller}
use Rattle.tas_model.specs.declared.entry.Caller.TheVariants.{Slow}
use Rattle.tas_model.specs.declared.entry.Call.{Call}
use Rattle.tas_model.specs.declared.entry.Call.TheVariants as calls
use Rattle.tas_model.specs.declared.entry.Reply.{Reply}
use Rattle.tas_model.specs.declared.entry.Reply.TheVariants as replies
use Rattle.tas_model.specs.declared.entry.Entry.{Entry}
use Rattle.tas_model.specs.Endpoint.{Endpoint}
use Rattle.tas_model.specs.LegalHistory.{step, replay, reply_or, shown, next_number, last_tick, extended_by}
use Rattle.flow_state.specs.declared.parts.Parts.{Parts}

-- a flow's record
pub record Flow : Type 0 where
  pub id : FlowId
  pub tuple : FourTuple
  pub params : HostParams
  pub entries : List Entry
  pub parts : Parts  -- they stand for the endpoint that the entries lead to
  pub spare_entries : ℕ  -- how many entries it can take without more memory
  pub spare_bytes : ℕ  -- how many bytes of payload these can have in all

-- a flow's history alone
pub record History : Type 0 where
  pub id : FlowId
  pub tuple : FourTuple
  pub params : HostParams
  pub entries : List Entry

-- what is left of a flow's record: its history
abbrev pub left_of : Flow → History
left_of f = record { id = f.id; tuple = f.tuple; params = f.params; entries = f.entries }

-- the entry that comes next
abbrev pub next_entry : List Entry → Caller → ℕ → Call → Reply → Entry
next_entry h caller tick call reply = record {
  caller = caller;
  number = next_number caller h;
  tick = max tick (last_tick 0 h);
  call = call;
  reply = reply;
}

-- what the endpoint of a history replies to a call at this tick or a later one; `offer` has the bytes of a Send
abbrev pub reply_to : HostParams → List Entry → ℕ → Call → (offer : List ℕ) → Reply
reply_to params h tick call offer =
    let e : Endpoint = replay params h in
    reply_or (step e (max tick (last_tick 0 h)) call (shown e offer)) replies.Nothing

-- the history with so many Ticks more by the slow path, from this tick on
abbrev pub ticked_on : HostParams → List Entry → (tick n : ℕ) → List Entry
ticked_on params h tick zero = h
ticked_on params h tick (suc n) = extended_by params (ticked_on params h tick n) Slow (tick + n) calls.Tick []

-- the reply of the last entry
abbrev pub last_reply : List Entry → Reply
last_reply [] = replies.Nothing
last_reply (x ∷ []) = x.reply
last_reply (x ∷ y ∷ xs) = last_reply (y ∷ xs)

-- the first entry of a flow that a peer's SYN opens
abbrev pub first_passive : ℕ → FrameId → Seq → Seg → Entry
first_passive tick frame iss seg = record {
  caller = Slow;
  number = 0;
  tick = tick;
  call = calls.Passive frame iss seg;
  reply = replies.Ok;
}

-- the first entry of a flow that the own host opens
abbrev pub first_connect : Caller → ℕ → Seq → Entry
first_connect caller tick iss = record {
  caller = caller;
  number = 0;
  tick = tick;
  call = calls.Connect iss;
  reply = replies.Ok;
}
