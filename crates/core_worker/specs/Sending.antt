-- What a core sends of a flow that it was told to look at.
use Rattle.std.specs.Prelude.{◌≡◌, ℕ, zero, suc, Bool, true, false, is_some, [], ◌⊎◌}
use Rattle.tas_model.specs.declared.entry.Caller.TheVariants.{Core}
use Rattle.tas_model.specs.declared.entry.Call.TheVariants.{Emit}
use Rattle.tas_model.specs.declared.entry.FlowId.{FlowId}
use Rattle.tas_model.specs.Endpoint.{Endpoint}
use Rattle.tas_model.specs.LegalHistory.{replay, extended_by}
use Rattle.tas_model.specs.NextSegment.{going}
use Rattle.flow_state.specs.Flow.{Flow}
use Rattle.flow_lock.specs.Answers.{IsRefused}
use Rattle.flow_lock.specs.declared.pass.PinRefused.{PinRefused}
use Rattle.flow_lock.specs.declared.word.Word.{Word}
use Rattle.flow_lock.specs.declared.view.History.{History}
use Rattle.flow_lock.specs.declared.view.View.{View}
use Rattle.app_reaper.specs.OneCall.{history, IsOwn, IsUse, IsCallRefused}
use Rattle.app_reaper.specs.declared.one_call.CallFault.TheVariants.{Busy}
use Rattle.core_worker.specs.Receiving.{ByPin}

-- the endpoint that a history leads to
abbrev pub endpoint_of : History → Endpoint
endpoint_of h = replay h.params h.entries

-- a segment may go
abbrev pub may_go : History → Bool
may_go h = is_some (going (endpoint_of h))

-- the history with the next segment sent by this core
abbrev pub with_emission : (core tick : ℕ) → History → History
with_emission core tick h = record h { entries = extended_by h.params h.entries (Core core) tick Emit [] }

-- so many segments were sent one after the other, each of which might go
abbrev pub AreSent : (core tick count : ℕ) → (before after : History) → Type 0
AreSent core tick zero h k = k ≡ h
AreSent core tick (suc n) h k = (may_go h ≡ true) × AreSent core tick n (with_emission core tick h) k

-- some of what may go was sent
abbrev pub IsPartSent : (core tick : ℕ) → (before after : History) → Type 0
IsPartSent core tick h k = (count : ℕ) × AreSent core tick count h k

-- all that may go was sent
abbrev pub IsAllSent : (core tick : ℕ) → (before after : History) → Type 0
IsAllSent core tick h k = IsPartSent core tick h k × (may_go k ≡ false)

-- Another pass held the record, and nothing was sent; or it was taken, and given back with so much sent.
abbrev pub IsSentByPin : FlowId → (sent : History → History → Type 0) → View → View → Type 0
IsSentByPin id sent v w =
    ((x : Word) × IsCallRefused id v w (Busy x))
    ⊎ ((r : Flow) × (after : History) × IsOwn id v r × sent (history r) after × IsUse id r after v w)

-- The flow's pin was refused, and nothing was sent; or so much was sent by the pin.
abbrev pub IsSent : FlowId → (sent : History → History → Type 0) → View → View → Type 0
IsSent id sent v w = ((e : PinRefused) × IsRefused id v w e) ⊎ ByPin id (IsSentByPin id sent) v w
