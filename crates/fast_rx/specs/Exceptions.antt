-- Which segments the fast path leaves to the slow one, and why.
use Rattle.std.specs.Prelude.{◌≡◌, ◌||◌, not, Bool, true, false, Option, Some, None, if◌then◌else◌, ⊤}
use Rattle.segment_fields.specs.declared.segment.Segment.{Segment}
use Rattle.segment_fields.specs.ControlBits.{fin, syn, rst, ack, urg, has}
use Rattle.tas_model.specs.declared.entry.Phase.{Phase}
use Rattle.tas_model.specs.declared.entry.Phase.TheVariants as phases
use Rattle.flow_state.specs.declared.parts.Parts.{Parts}
use Rattle.flow_state.specs.declared.call.Answer.{Answer}
use Rattle.flow_state.specs.declared.call.CallIn.{CallIn}
use Rattle.flow_state.specs.declared.call.CallIn.TheVariants as ins
use Rattle.fast_rx.specs.declared.fast.FastAnswer.{FastAnswer}
use Rattle.fast_rx.specs.declared.fast.FastAnswer.TheVariants as answers
use Rattle.fast_rx.specs.declared.fast.Why.{Why}
use Rattle.fast_rx.specs.declared.fast.Why.TheVariants as whys

-- a segment with one of these bits begins, ends or breaks a connection, or is urgent
abbrev pub is_control : Segment → Bool
is_control seg = has seg.flags.0 syn || has seg.flags.0 fin || has seg.flags.0 rst || has seg.flags.0 urg

-- the phases in which data comes and acknowledgements of data come
abbrev pub is_common : Phase → Bool
is_common phases.Established = true
is_common phases.FinWait1 = true
is_common phases.FinWait2 = true
is_common phases.CloseWait = true
is_common _ = false

-- First by its control bits, then by ACK, then by the phase.
abbrev pub exception : Phase → Segment → Option Why
exception phase seg =
    if is_control seg then Some whys.Control
    else if not (has seg.flags.0 ack) then Some whys.NoAck
    else if is_common phase then None
    else Some whys.Phase

abbrev pub why_of : FastAnswer → Option Why
why_of (answers.Done answer) = None
why_of (answers.Exception why) = Some why

-- the calls that the fast path answers: common segments
abbrev pub IsCommon : Parts → CallIn → Type 0
IsCommon parts (ins.Rx frame seg) = exception parts.phase seg ≡ None
IsCommon parts _ = ⊥

-- the fact of the answer, where there is one
abbrev pub OnDone : FastAnswer → (Answer → Type 0) → Type 0
OnDone (answers.Done answer) fact = fact answer
OnDone (answers.Exception why) fact = ⊤
