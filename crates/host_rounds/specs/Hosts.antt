-- A host in the middle of a run, and how one call, one line of the log or one opening changes it.
use Rattle.std.specs.Prelude.{ℕ, zero, suc, ◌+◌, ◌-◌, ◌^◌, ◌==◌, ◌&&◌, ◌||◌, not, Bool, true, false, List, [], ◌∷◌}
use Rattle.std.specs.Prelude.{◌++◌, length, count_by, nat_lt, nat_le, slice_get, Option, Some, None}
use Rattle.std.specs.List.{list_any}
use Rattle.tas_model.specs.declared.entry.HostParams.{HostParams}
use Rattle.tas_model.specs.declared.entry.FourTuple.{FourTuple}
use Rattle.tas_model.specs.declared.entry.Entry.{Entry}
use Rattle.tas_model.specs.declared.entry.Caller.{Caller}
use Rattle.tas_model.specs.declared.entry.Call.{Call}
use Rattle.tas_model.specs.declared.entry.Reply.{Reply}
use Rattle.tas_model.specs.declared.entry.Reply.TheVariants as replies
use Rattle.tas_model.specs.Endpoint.{Endpoint, is_closed}
use Rattle.tas_model.specs.ApplicationCalls.{Opening, Running, column}
use Rattle.tas_model.specs.LegalHistory.{replay, extended_by}
use Rattle.host_rounds.specs.declared.log.LogLine.{LogLine}
use Rattle.host_rounds.specs.declared.log.LogEvent.{LogEvent}
use Rattle.host_rounds.specs.declared.opening.Start.{Start}
use Rattle.host_rounds.specs.Logs.{Flow, HostRun}
use Rattle.host_rounds.specs.Lists.{change_first, change_at}

-- ----- a host
-- Who has the socket of a flow: nobody yet, where a SYN opened it and no application accepted it; an application, by
-- its number; or nobody any more.
pub data Holder : Type 0 where
  Waiting : Holder
  Application : (app : ℕ) → Holder
  GivenUp : Holder

-- A flow while the run goes on.
pub record Live : Type 0 where
  pub flow : Flow  -- what the run leaves of it
  pub indexed : Bool  -- the index leads frames of its four-tuple to it
  pub holder : Holder
  pub filed : Bool  -- its record was filed, and its slot is free again

-- An application listens on a port.
pub record Listener : Type 0 where
  pub port : ℕ
  pub app : ℕ

-- A host: its flows stand in the order of their opening, filed ones among them.
pub record Host : Type 0 where
  pub params : HostParams
  pub listeners : List Listener
  pub log : List LogLine
  pub flows : List Live

-- ----- one flow
abbrev pub endpoint : Live → Endpoint
endpoint l = replay l.flow.params l.flow.entries

-- its endpoint is CLOSED
abbrev pub is_over : Live → Bool
is_over l = is_closed (endpoint l)

-- in SYN-SENT or SYN-RECEIVED
abbrev pub is_opening : Live → Bool
is_opening l = elim (column (endpoint l)) [ Opening ↦ true | _ ↦ false ]

-- past these and not CLOSED
abbrev pub is_running : Live → Bool
is_running l = elim (column (endpoint l)) [ Running ↦ true | _ ↦ false ]

abbrev pub is_held_by : Holder → Bool
is_held_by (Application app) = true
is_held_by _ = false

-- an application has its socket
abbrev pub is_held : Live → Bool
is_held l = is_held_by l.holder

abbrev pub is_waiting_by : Holder → Bool
is_waiting_by Waiting = true
is_waiting_by _ = false

-- ----- one entry, one line
-- The flow makes this call. `offer` has the bytes that a Send offers, of which the first that fit are taken.
abbrev pub with_call : Live → Caller → (tick : ℕ) → Call → (offer : List ℕ) → Live
with_call l caller tick call offer =
    record l { flow = record (l.flow) { entries = extended_by l.flow.params l.flow.entries caller tick call offer } }

abbrev pub logged : Host → (tick : ℕ) → LogEvent → Host
logged host tick event = record host { log = host.log ++ (record { tick = tick; event = event }) ∷ [] }

abbrev pub last_reply : Reply → List Entry → Reply
last_reply reply [] = reply
last_reply reply (x ∷ xs) = last_reply x.reply xs

-- what the last call of a flow was answered
abbrev pub answer_of : (flow : ℕ) → Host → Reply
answer_of n host =
    elim (slice_get host.flows n) [ None ↦ replies.Nothing | Some l ↦ last_reply replies.Nothing l.flow.entries ]

-- ----- the index
abbrev pub same_tuple : FourTuple → FourTuple → Bool
same_tuple a b = a.laddr == b.laddr && a.lport == b.lport && a.raddr == b.raddr && a.rport == b.rport

abbrev pub is_indexed_as : FourTuple → Live → Bool
is_indexed_as tuple l = l.indexed && same_tuple tuple l.flow.tuple

abbrev pub is_known : Host → FourTuple → Bool
is_known host tuple = list_any (is_indexed_as tuple) host.flows

-- the flow that the index has under this four-tuple is changed, where there is one
abbrev pub changed : Host → FourTuple → (Live → Live) → Host
changed host tuple f = record host { flows = change_first (is_indexed_as tuple) f host.flows }

-- the flow with this opening number is changed
abbrev pub at_flow : (flow : ℕ) → (Live → Live) → Host → Host
at_flow n f host = record host { flows = change_at n f host.flows }

-- ----- listeners
-- an application listens on the port
abbrev pub is_listened : (port : ℕ) → Host → Bool
is_listened port host = list_any (λ (l : Listener). l.port == port) host.listeners

-- Every port of a replay's host listens; else an application does.
abbrev pub is_listening : Host → (port : ℕ) → Bool
is_listening host port = host.params.fixed || is_listened port host

-- The flow waits at this port: it is neither accepted nor closed.
abbrev pub waits_at : (port : ℕ) → Live → Bool
waits_at port l = l.flow.tuple.lport == port && is_waiting_by l.holder && not (is_over l)

-- It waits at the port, and is past its opening: it may be accepted.
abbrev pub is_ready : (port : ℕ) → Live → Bool
is_ready port l = l.flow.tuple.lport == port && is_waiting_by l.holder && is_running l

-- As many flows wait at the port as its listener takes; a replay's listeners take any number.
abbrev pub is_full : Host → (port : ℕ) → Bool
is_full host port = not host.params.fixed && not (nat_lt (count_by (waits_at port) host.flows) host.params.backlog)

-- ----- slots
-- its record stands in this slot
abbrev pub is_in_slot : (slot : ℕ) → Live → Bool
is_in_slot slot l = not l.filed && l.flow.id.slot == slot

-- the lowest free slot from `slot` on, of so many
abbrev pub free_from : (most slot : ℕ) → List Live → Option ℕ
free_from zero slot flows = None
free_from (suc most) slot flows =
    elim (list_any (is_in_slot slot) flows) [ true ↦ free_from most (slot + 1) flows | false ↦ Some slot ]

-- How many flows a host opens at most. Generations have 32 bits, and so have the numbers of flows in the names of
-- frames, where 2^32 - 1 means no flow.
abbrev pub most_flows : ℕ
most_flows = 2 ^ 32 - 1

abbrev pub free_where : (more : Bool) → (slots : ℕ) → List Live → Option ℕ
free_where true slots flows = free_from slots 0 flows
free_where false slots flows = None

-- The lowest free one of so many slots. Where as many flows were opened as may be, no slot is free any more.
abbrev pub free_slot : (slots : ℕ) → List Live → Option ℕ
free_slot slots flows = free_where (nat_lt (length flows) most_flows) slots flows

-- the lowest free slot of the host
abbrev pub lowest_free : Host → Option ℕ
lowest_free host = free_slot host.params.slots host.flows

-- The next generation of a slot: one more than there were flows in it.
abbrev pub next_generation : (slot : ℕ) → List Live → ℕ
next_generation slot flows = 1 + count_by (λ (l : Live). l.flow.id.slot == slot) flows

-- ----- ports
-- Ports from 49,152 on are given to connects, each once; nobody listens there.
abbrev pub first_port : ℕ
first_port = 49152

abbrev pub ports_given : Host → ℕ
ports_given host = count_by (λ (l : Live). nat_le first_port l.flow.tuple.lport) host.flows

-- ----- openings
-- how many flows of this four-tuple were opened
abbrev pub opened_as : FourTuple → List Live → ℕ
opened_as tuple flows = count_by (λ (l : Live). same_tuple tuple l.flow.tuple) flows

-- What a host gives its flows: to a flow of which k of its four-tuple were opened before, and n of the host.
abbrev pub Starts : Type 0
Starts = FourTuple → (k n : ℕ) → Start

-- what it gives to a flow of this four-tuple that is opened now
abbrev pub next_start : Starts → Host → FourTuple → Start
next_start starts host tuple = starts tuple (opened_as tuple host.flows) (length host.flows)

-- The parameters of a flow: the host's, and where the flow has a scale of its own, that one and a ring of 262,144
-- bytes.
abbrev pub flow_params : HostParams → (scale : Option ℕ) → HostParams
flow_params host None = host
flow_params host (Some shift) = record host { scale = Some shift; ring = 262144 }

-- the first entry of a flow
abbrev pub first_entry : Caller → (tick : ℕ) → Call → Entry
first_entry caller tick call = record { caller = caller; number = 0; tick = tick; call = call; reply = replies.Ok }

-- a flow that has just been opened in this slot, with this scale of its own, by this entry
abbrev pub new_flow : Host → (slot : ℕ) → FourTuple → (scale : Option ℕ) → Holder → Entry → Live
new_flow host slot tuple scale holder x =
    record {
      flow =
          record {
            id = record { slot = slot; generation = next_generation slot host.flows };
            tuple = tuple;
            params = flow_params host.params scale;
            entries = x ∷ [];
          };
      indexed = true;
      holder = holder;
      filed = false;
    }

abbrev pub opened_in : Host → (slot : ℕ) → FourTuple → (scale : Option ℕ) → Holder → Entry → Host
opened_in host slot tuple scale holder x =
    record host { flows = host.flows ++ new_flow host slot tuple scale holder x ∷ [] }

-- ----- what is left in the end
abbrev pub flows_of : List Live → List Flow
flows_of [] = []
flows_of (l ∷ ls) = l.flow ∷ flows_of ls

abbrev pub run_of : (name : List ℕ) → Host → HostRun
run_of name host = record { name = name; addr = host.params.addr; log = host.log; flows = flows_of host.flows }
