-- How the state of a connection goes on (RFC 9293, section 3.3.2).
use Rattle.std.specs.Prelude.{Bool, if◌then◌else◌}
use Rattle.tas_model.specs.declared.entry.Phase.{Phase}
use Rattle.tas_model.specs.declared.entry.Phase.TheVariants as phases

-- once more of what this side sent is acknowledged: its SYN, or its FIN
abbrev pub phase_after_ack : Phase → (ended fin_acked : Bool) → Phase
phase_after_ack phases.SynReceived ended fin_acked = if ended then phases.CloseWait else phases.Established
phase_after_ack phases.FinWait1 ended fin_acked = if fin_acked then phases.FinWait2 else phases.FinWait1
phase_after_ack phases.Closing ended fin_acked = if fin_acked then phases.TimeWait else phases.Closing
phase_after_ack phase ended fin_acked = phase

-- once the peer's FIN is taken
abbrev pub phase_after_fin : Phase → Phase
phase_after_fin phases.Established = phases.CloseWait
phase_after_fin phases.FinWait1 = phases.Closing
phase_after_fin phases.FinWait2 = phases.TimeWait
phase_after_fin phase = phase
