-- What a host leaves when its run is over.
use Rattle.std.specs.Prelude.{◌≡◌, ℕ, ◌+◌, ◌-◌, ◌<◌, ◌≤◌, false, List, [], ◌∷◌, ◌++◌, map, length, Option, Some, IsSome}
use Rattle.std.specs.Prelude.{⊤}
use Rattle.std.specs.Prelude.{Bool, nat_eq, ◌&&◌}
use Rattle.std.specs.Map.{lookup}
use Rattle.atomic_table.specs.Seated.{TableId}
use Rattle.tas_model.specs.declared.entry.FlowId.{FlowId}
use Rattle.tas_model.specs.LegalHistory.{Legal}
use Rattle.tas_model.specs.Valid.{InRange}
use Rattle.flow_state.specs.Flow as records
use Rattle.host_rounds.specs.Hosts.{Host, Live}
use Rattle.host_rounds.specs.Lists.{Each}
use Rattle.host_rounds.specs.Logs.{Flow}
use Rattle.flow_lock.specs.Callers.{IsOwner}
use Rattle.flow_lock.specs.Orders.{known_of, pins_at, same_flow, total, at_slot}
use Rattle.flow_lock.specs.Passes.{Seen}
use Rattle.flow_lock.specs.Steps.{IsAlone}
use Rattle.flow_lock.specs.declared.view.Held.{Held}
use Rattle.flow_lock.specs.declared.view.History.{History}
use Rattle.flow_lock.specs.declared.view.View.{View}
use Rattle.app_reaper.specs.OneCall.{history}
use Rattle.libtas_sockets.specs.Apps.{Application}
use Rattle.host_books.specs.Books.{Book}
use Rattle.sound_hosts.specs.Hosts.{CoreHost, known_in}

-- ----- histories
-- the flow that a history is of, as a run has it
abbrev pub flow_left : records.History → Flow
flow_left h = record { id = h.id; tuple = h.tuple; params = h.params; entries = h.entries }

-- the flows of a host, as its run leaves them
abbrev pub flows_of : Host → List Flow
flows_of host = map (λ (l : Live). l.flow) host.flows

-- it is a history of the endpoint, with parameters in their ranges
abbrev pub IsLegal : records.History → Type 0
IsLegal h = InRange h.params × Legal h.params h.entries

-- ----- records that were filed
abbrev pub record_id : records.Flow → FlowId
record_id r = r.id

-- the record has the history that is known of its flow
abbrev pub IsFiledAs : List Held → records.Flow → Type 0
IsFiledAs known r = history r ≡ known_of r.id known

-- each record that was filed has the history that is known of its flow
abbrev pub AreFiled : CoreHost → Type 0
AreFiled h = Each (IsFiledAs (known_in h)) h.slow.filed

-- ----- histories by flows
-- no two books are of one flow
abbrev pub AreApart : List Book → Type 0
AreApart [] = ⊤
AreApart (b ∷ bs) = Each (λ (c : Book). same_flow b.id c.id ≡ false) bs × AreApart bs

-- what is left of the flow, of which this is known
abbrev pub left_in : List Held → FlowId → records.History
left_in known id =
    let h : History = known_of id known in
    record { id = id; tuple = h.tuple; params = h.params; entries = h.entries }

abbrev pub same_pair : ℕ × ℕ → ℕ × ℕ → Bool
same_pair p q = nat_eq p.0 q.0 && nat_eq p.1 q.1

-- what is found under a flow's slot and generation
abbrev pub found_in : List ((ℕ × ℕ) × records.History) → FlowId → Option records.History
found_in es id = lookup (same_pair (id.slot, id.generation)) es

-- Each history that was found is the one that is known of its flow, and those of these flows were found.
pub record AreFound (known : List Held) (es : List ((ℕ × ℕ) × records.History)) (ids : List FlowId) : Type 0 where
  pub right : (id : FlowId) (h : records.History) → found_in es id ≡ Some h → h ≡ left_in known id
  pub all : Each (λ (id : FlowId). IsSome (found_in es id)) ids

-- ----- sockets that are given up
-- The pass is alone, and holds nothing.
pub record IsQuiet (t : TableId) (s : Seen) : Type 0 where
  pub table : s.table ≡ t
  pub alone : IsAlone s.view
  pub held : s.view.held ≡ []
  pub wide : length s.view.words ≡ t.slots

-- The words of slots have so many pins less. The view is alone still, and knows the same histories.
pub record HasFewer (fewer : ℕ → ℕ) (v w : View) : Type 0 where
  pub alone : IsAlone w
  pub slow : w.slow ≡ v.slow
  pub held : w.held ≡ v.held
  pub base : w.base ≡ v.base
  pub wide : length w.words ≡ length v.words
  pub pins : (i : ℕ) → pins_at w.words i ≡ pins_at v.words i - fewer i

-- and the view has the pins and the marks that it had
pub record HasLeft (fewer : ℕ → ℕ) (s n : Seen) : Type 0 where
  pub table : n.table ≡ s.table
  pub view : HasFewer fewer s.view n.view
  pub own : n.view.pins ≡ s.view.pins
  pub marks : n.view.marks ≡ s.view.marks

-- so many sockets of these applications are on the slot
abbrev pub sockets_on : List Application → ℕ → ℕ
sockets_on [] i = 0
sockets_on (a ∷ xs) i = total (at_slot i) a.sockets + sockets_on xs i

-- an application without a turn, which doesn't have the baton
pub record IsAtEase (t : TableId) (a : Application) : Type 0 where
  pub table : a.pass.table ≡ t
  pub turns : a.pass.view.turns ≡ []
  pub slow : a.pass.view.slow ≡ false
  pub baton : a.pass.view.baton ≡ false

-- ----- slots that are freed
-- The slow path's pin of the flow is the only one.
pub record IsSole (slots : ℕ) (s : Seen) (f : FlowId) : Type 0 where
  pub owner : IsOwner f s
  pub low : f.slot < slots
  pub pins : pins_at s.view.words f.slot ≡ 1

-- The slow path may free the slots of these flows, of which nobody else has a pin.
pub record MayFree (t : TableId) (s : Seen) (ids : List FlowId) : Type 0 where
  pub quiet : IsQuiet t s
  pub each : Each (IsSole t.slots s) ids
  pub once : (i : ℕ) → total (at_slot i) ids ≤ 1

-- The slots of these flows were freed. What is known of histories stays.
pub record AreFreed (t : TableId) (ids : List FlowId) (s n : Seen) : Type 0 where
  pub base : n.view.base ≡ s.view.base
  -- and those that could be freed beside them still can
  pub others : (more : List FlowId) → MayFree t s (ids ++ more) → MayFree t n more
