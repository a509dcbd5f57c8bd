-- What the code's frames are in the model.
use Rattle.std.specs.Prelude.{ℕ, Option, Some, None}
use Rattle.flow_state.specs.Calls.{seg_of}
use Rattle.tas_model.specs.declared.entry.Caller.TheVariants.{Slow}
use Rattle.host_rounds.specs.Hosts.{Host, Starts}
use Rattle.host_rounds.specs.Deliveries.{Packet, Damaged, Segment, Arrival, Taking, received, received_serially}
use Rattle.host_rounds.specs.Deliveries.{delivered}
use Rattle.tas_runs.specs.Records.{Item}
use Rattle.tas_runs.specs.LocalScript.{arrival_of}
use Rattle.local_host.specs.declared.arrival.Packet as code_packet
use Rattle.local_host.specs.declared.arrival.Packet.TheVariants as packets
use Rattle.local_host.specs.declared.arrival.Arrival as code
use Rattle.local_host.specs.declared.arrival.Taking as code_taking
use Rattle.local_host.specs.declared.arrival.Taking.TheVariants as takings

abbrev pub packet_in : code_packet.Packet → Packet
packet_in (packets.Damaged rule) = Damaged rule
packet_in (packets.Segment tuple seg) = Segment tuple (seg_of seg)

abbrev pub arrival_in : code.Arrival → Arrival
arrival_in x = record { frame = x.frame; packet = packet_in x.packet }

-- how a flow takes a segment
abbrev pub taking_in : code_taking.Taking → Taking
taking_in takings.Serially = received_serially
taking_in takings.Slowly = received Slow

-- the frame comes, where there is one
abbrev pub came_where : Starts → (tick : ℕ) → Option Arrival → Host → Host
came_where starts t None host = host
came_where starts t (Some x) host = delivered received_serially starts t host x

-- what comes in a record of a capture
abbrev pub came : Starts → (tick : ℕ) → Item → Host → Host
came starts t x host = came_where starts t (arrival_of x) host
