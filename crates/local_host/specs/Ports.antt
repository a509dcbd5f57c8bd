-- The listeners of a host, and the ports that it gives to connects.
use Rattle.std.specs.Prelude.{◌≡◌, ℕ, ◌+◌, ◌<◌, ◌^◌, true, false, List, [], length, map, nat_lt, None, Some, IsSome}
use Rattle.std.specs.Prelude.{⊤}
use Rattle.tas_model.specs.declared.entry.FourTuple.{FourTuple}
use Rattle.tas_model.specs.declared.entry.HostParams.{HostParams}
use Rattle.tas_model.specs.declared.entry.Caller.TheVariants.{App}
use Rattle.tas_model.specs.declared.entry.Call.TheVariants as calls
use Rattle.tas_model.specs.Valid.{InRange}
use Rattle.flow_state.specs.declared.call.CallIn.{CallIn}
use Rattle.flow_state.specs.declared.call.CallIn.TheVariants as ins
use Rattle.host_rounds.specs.declared.log.LogLine.{LogLine}
use Rattle.host_rounds.specs.declared.opening.Start.{Start}
use Rattle.host_rounds.specs.Lists.{Each}
use Rattle.host_rounds.specs.Hosts.{Host, Live, Listener, Application, Starts, first_port, ports_given, is_running}
use Rattle.host_rounds.specs.Hosts.{lowest_free, next_start, first_entry, opened_in}
use Rattle.local_host.specs.declared.host.Listener as code
use Rattle.local_host.specs.declared.host.Connecting.{Connecting}
use Rattle.local_host.specs.declared.host.Connecting.TheVariants.{Opened, NoSlot, NoPort}

abbrev pub listener_in : code.Listener → Listener
listener_in l = record { port = l.port; app = l.app }

-- the host with these parts
abbrev pub host_of : HostParams → List code.Listener → List LogLine → List Live → Host
host_of params listeners log flows =
    record { params = params; listeners = map listener_in listeners; log = log; flows = flows }

-- Nobody listens on a port that connects are given, and no flow has one that was not given yet.
pub record AreApart (listeners : List code.Listener) (host : Host) : Type 0 where
  pub listened : Each (λ (l : code.Listener). l.port < first_port) listeners
  pub flows : Each (λ (l : Live). l.flow.tuple.lport < first_port + ports_given host) host.flows

-- What holds of each host: its parameters are in their ranges, its flows can be counted with 32 bits, and where not
-- every port listens, its ports are apart.
pub record IsHost (params : HostParams) (listeners : List code.Listener) (flows : List Live) : Type 0 where
  pub ranges : InRange params
  pub few : length flows < 2 ^ 32
  pub ports : params.fixed ≡ false → AreApart listeners (host_of params listeners [] flows)

-- ----- connects
-- The answer is the connect's, and so is what it left: the slot is looked at first, and then the port.
abbrev pub IsConnecting : Starts → (tick app raddr rport : ℕ) → (before after : Host) → Connecting → Type 0
IsConnecting starts t app raddr rport before after NoSlot = (lowest_free before ≡ None) × (after ≡ before)
IsConnecting starts t app raddr rport before after NoPort =
    IsSome (lowest_free before) × (nat_lt (first_port + ports_given before) (2 ^ 16) ≡ false) × (after ≡ before)
IsConnecting starts t app raddr rport before after (Opened place) =
    let port : ℕ = first_port + ports_given before in
    let tuple : FourTuple =
    record { laddr = before.params.addr; lport = port; raddr = raddr; rport = rport } in
    let start : Start = next_start starts before tuple in
    (slot : ℕ) × (lowest_free before ≡ Some slot) × (nat_lt port (2 ^ 16) ≡ true) × (place ≡ length before.flows)
    × (after ≡ opened_in before slot tuple start.scale (Application app)
    (first_entry (App app) t (calls.Connect start.number)))

-- ----- calls
-- the call may be made on this flow: Accept where it is past its opening and not closed, and any other in any phase
abbrev pub MayAsk : Live → CallIn → Type 0
MayAsk l ins.Accept = is_running l ≡ true
MayAsk l call = ⊤
