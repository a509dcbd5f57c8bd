-- The ports of a host's own connections.
use Rattle.std.specs.Prelude.{◌≡◌, ℕ, zero, suc, ◌+◌, Bool, true, false, List, [], ◌∷◌, nat_le, if◌then◌else◌, ⊤}
use Rattle.std.specs.List.{list_any}
use Rattle.tas_model.specs.declared.entry.Entry.{Entry}
use Rattle.tas_model.specs.declared.entry.Call.{Call}
use Rattle.tas_model.specs.declared.entry.Call.TheVariants as calls
use Rattle.host_rounds.specs.declared.log.LogLine.{LogLine}
use Rattle.host_rounds.specs.declared.log.LogEvent.{LogEvent}
use Rattle.host_rounds.specs.declared.log.LogEvent.TheVariants as events
use Rattle.host_rounds.specs.Logs.{Flow}
use Rattle.host_rounds.specs.Hosts.{first_port}

abbrev pub is_connect : Call → Bool
is_connect (calls.Connect iss) = true
is_connect _ = false

-- the first entry is a connect
abbrev pub begins_by_connect : List Entry → Bool
begins_by_connect [] = false
begins_by_connect (x ∷ xs) = is_connect x.call

-- The local ports of the flows that were opened by a connect of their own host, in the order of their opening.
abbrev pub connect_ports : List Flow → List ℕ
connect_ports [] = []
connect_ports (f ∷ fs) =
    elim (begins_by_connect f.entries) [ true ↦ f.tuple.lport ∷ connect_ports fs | false ↦ connect_ports fs ]

-- so many ports, one after the other, from this one on
abbrev pub ports_from : (port count : ℕ) → List ℕ
ports_from port zero = []
ports_from port (suc count) = port ∷ ports_from (port + 1) count

-- Each of these flows that a connect of its host opened has the port 49,152 + n, where n of the flows before it have a
-- port from 49,152 on: `given` that stand before all of these, and those of these.
abbrev pub HaveNext : (given : ℕ) → List Flow → Type 0
HaveNext n [] = ⊤
HaveNext n (f ∷ fs) =
    (begins_by_connect f.entries ≡ true → f.tuple.lport ≡ first_port + n)
    × HaveNext (n + (if nat_le first_port f.tuple.lport then 1 else 0)) fs

-- how many ports there are from 49,152 to 65,535
abbrev pub all_ports : ℕ
all_ports = 16384

-- A connect was refused for want of a port.
abbrev pub is_port_wanting : LogEvent → Bool
is_port_wanting (events.ConnectRefused app raddr rport no_port) = no_port
is_port_wanting _ = false

abbrev pub had_no_port : List LogLine → Bool
had_no_port log = list_any (λ (line : LogLine). is_port_wanting line.event) log
