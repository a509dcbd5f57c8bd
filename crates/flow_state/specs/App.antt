-- The calls of an application, by what the parts tell.
use Rattle.std.specs.Prelude.{ℕ, ◌&&◌, not, Bool, true, false, nat_lt, nat_le, Option, Some, None}
use Rattle.std.specs.Prelude.{if◌then◌else◌, ⊤}
use Rattle.tas_model.specs.declared.entry.Head.{Head}
use Rattle.tas_model.specs.declared.entry.Reason.{Reason}
use Rattle.tas_model.specs.declared.entry.Phase.{Phase}
use Rattle.tas_model.specs.declared.entry.Phase.TheVariants as phases
use Rattle.tas_model.specs.Endpoint.{Endpoint, free}
use Rattle.tas_model.specs.Segments.{ack_head}
use Rattle.tas_model.specs.ApplicationCalls.{Column, Opening, Over, Running, least_update}
use Rattle.flow_state.specs.declared.stage.Stage.{Stage}
use Rattle.flow_state.specs.declared.stage.Stage.TheVariants as stages
use Rattle.flow_state.specs.declared.call.CallIn.{CallIn}
use Rattle.flow_state.specs.declared.call.CallIn.TheVariants as ins

-- the column of the table of calls
abbrev pub column_of : Stage → Column
column_of stages.Opening = Opening
column_of (stages.Over reason) = Over reason
column_of stages.Running = Running

-- the column, told by reason and phase
abbrev pub stage_by : Option Reason → Phase → Stage
stage_by (Some reason) phase = stages.Over reason
stage_by None phases.SynSent = stages.Opening
stage_by None phases.SynReceived = stages.Opening
stage_by None _ = stages.Running

-- in these phases the own stream was ended
abbrev pub is_shut_phase : Phase → Bool
is_shut_phase phases.FinWait1 = true
is_shut_phase phases.FinWait2 = true
is_shut_phase phases.Closing = true
is_shut_phase phases.LastAck = true
is_shut_phase phases.TimeWait = true
is_shut_phase _ = false

-- the phase once the own stream is ended (RFC 9293, section 3.10.4)
abbrev pub phase_after_shut : Phase → Phase
phase_after_shut phases.Established = phases.FinWait1
phase_after_shut phases.CloseWait = phases.LastAck
phase_after_shut phase = phase

-- the update of an endpoint that had this room before
abbrev pub update_from : (room : ℕ) → Endpoint → Option Head
update_from room e =
    let m : ℕ = least_update e in
    if not e.rx.ended && nat_lt room m && nat_le m (free e) then Some (ack_head e) else None

-- the calls of an application
abbrev pub IsAppCall : CallIn → Type 0
IsAppCall ins.Accept = ⊤
IsAppCall ins.Ready = ⊤
IsAppCall (ins.Send bytes) = ⊤
IsAppCall (ins.Recv most) = ⊤
IsAppCall ins.Shut = ⊤
IsAppCall ins.Close = ⊤
IsAppCall ins.Abort = ⊤
IsAppCall _ = ⊥
