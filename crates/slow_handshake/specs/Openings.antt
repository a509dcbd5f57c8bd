-- What a host keeps of the flows that are being opened: who listens, which flows wait for Accept, and which numbers are
-- given next.
use Rattle.std.specs.Prelude.{ℕ, ◌+◌, ◌%◌, ◌^◌, ◌==◌, ◌&&◌, not, Bool, true, List, [], length, map, nat_lt, min, Option}
use Rattle.std.specs.Prelude.{if◌then◌else◌}
use Rattle.std.specs.List.{list_any, filter, find}
use Rattle.std.specs.Option.{option_map}
use Rattle.tas_num.specs.declared.seq.Seq.{Seq}
use Rattle.tas_model.specs.declared.entry.HostParams.{HostParams}
use Rattle.tas_model.specs.declared.entry.FlowId.{FlowId}
use Rattle.slow_handshake.specs.declared.openings.Listener.{Listener}
use Rattle.slow_handshake.specs.declared.openings.PassiveFlow.{PassiveFlow}
use Rattle.slow_handshake.specs.declared.openings.SynAnswer.{SynAnswer}
use Rattle.slow_handshake.specs.declared.openings.SynAnswer.TheVariants as syn

pub record Openings : Type 0 where
  pub params : HostParams
  pub listeners : List Listener  -- in the order in which they came
  pub flows : List PassiveFlow  -- the passive flows that are neither accepted nor closed, in the order of their opening
  pub ports : ℕ  -- how many ports were given to flows that the host opens itself
  pub next_iss : Seq  -- the first sequence number that is given next

-- ----- listeners
abbrev pub has_port : (port : ℕ) → Listener → Bool
has_port port l = l.port == port

abbrev pub is_owned_by : (app : ℕ) → Listener → Bool
is_owned_by app l = l.app == app

-- a listener has the port
abbrev pub is_taken : Openings → (port : ℕ) → Bool
is_taken o port = list_any (has_port port) o.listeners

-- ----- flows
abbrev pub is_at : (port : ℕ) → PassiveFlow → Bool
is_at port f = f.port == port

abbrev pub is_named : FlowId → PassiveFlow → Bool
is_named id f = f.id.slot == id.slot && f.id.generation == id.generation

abbrev pub is_ready_at : (port : ℕ) → PassiveFlow → Bool
is_ready_at port f = f.port == port && f.ready

abbrev pub id_of : PassiveFlow → FlowId
id_of f = f.id

-- the flow is past SYN-RECEIVED
abbrev pub readied : FlowId → PassiveFlow → PassiveFlow
readied id f = if is_named id f then record f { ready = true } else f

-- The backlog of a port: how many of its flows are neither accepted nor closed.
abbrev pub backlog_of : Openings → (port : ℕ) → ℕ
backlog_of o port = length (filter (is_at port) o.flows)

-- The first of a port's flows that may be accepted.
abbrev pub first_ready : Openings → (port : ℕ) → Option FlowId
first_ready o port = option_map id_of (find (is_ready_at port) o.flows)

-- a listener of the application has the flow's port
abbrev pub waits_for : List Listener → (app : ℕ) → PassiveFlow → Bool
waits_for listeners app f = list_any (λ (l : Listener). has_port f.port l && is_owned_by app l) listeners

-- The flows of the application's listeners, in the order of their opening.
abbrev pub waiting_for : Openings → (app : ℕ) → List FlowId
waiting_for o app = map id_of (filter (waits_for o.listeners app) o.flows)

-- ----- a SYN that comes to no flow
-- A count as 32 bits tell it: 4,294,967,295 where it is more.
abbrev pub told : (count : ℕ) → ℕ
told count = min count 4294967295

-- In a replay every port listens, and without a limit. Else it needs a listener whose backlog isn't full.
abbrev pub syn_answer : Openings → (port : ℕ) → SynAnswer
syn_answer o port =
    if o.params.fixed then syn.Opens
    else if not (is_taken o port) then syn.NoListener
    else if nat_lt (backlog_of o port) o.params.backlog then syn.Opens
    else syn.BacklogFull (told (backlog_of o port))

-- ----- ports and first numbers
-- the first port that is given, and how many are (RFC 6335, section 6: the dynamic ports)
abbrev pub first_port : ℕ
first_port = 49152

abbrev pub all_ports : ℕ
all_ports = 16384

-- The next first sequence number is 64,000 further on, modulo 2^32.
abbrev pub next_after : Seq → Seq
next_after s = record { 0 = (s.0 + 64000) % 2 ^ 32 }

-- Nothing listens, waits or was given.
abbrev pub no_openings : HostParams → Openings
no_openings params = record {
  params = params;
  listeners = [];
  flows = [];
  ports = 0;
  next_iss = record { 0 = params.iss };
}
