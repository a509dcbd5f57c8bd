-- What a segment makes of a flow's record, where a core has taken it for the segment.
use Rattle.std.specs.Prelude.{ℕ, if◌then◌else◌, Option, Some, None, nat_lt}
use Rattle.segment_fields.specs.declared.segment.Segment.{Segment}
use Rattle.tas_model.specs.declared.entry.Caller.TheVariants.{Core}
use Rattle.tas_model.specs.declared.entry.FlowId.{FlowId}
use Rattle.tas_model.specs.declared.entry.FourTuple.{FourTuple}
use Rattle.tas_model.specs.declared.entry.FrameId.{FrameId}
use Rattle.flow_state.specs.declared.call.CallIn.TheVariants.{Rx}
use Rattle.flow_state.specs.Flow.{Flow}
use Rattle.flow_index.specs.Changes.{is_same}
use Rattle.flow_index.specs.declared.change.Found.{Found}
use Rattle.flow_index.specs.declared.change.Found.TheVariants as found
use Rattle.flow_lock.specs.declared.view.History.{History}
use Rattle.app_reaper.specs.OneCall.{history, history_with}
use Rattle.fast_rx.specs.Exceptions.{exception}
use Rattle.fast_rx.specs.declared.fast.Why.{Why}
use Rattle.core_worker.specs.declared.frames.Handled.{Handled}
use Rattle.core_worker.specs.declared.frames.Handled.TheVariants.{Entered, Passed}
use Rattle.core_worker.specs.declared.frames.Passed.TheVariants.{Absent, Fast}

-- the connection's ends, as the host has them that the segment comes to
abbrev pub tuple_of : Segment → FourTuple
tuple_of seg = record { laddr = seg.dst; lport = seg.dport; raddr = seg.src; rport = seg.sport }

-- the flow that the index names, where its slot is one of the table's
abbrev pub named_in : (slots : ℕ) → Found → Option FlowId
named_in slots (found.Flow id) = if nat_lt id.slot slots then Some id else None
named_in slots found.Absent = None

-- what is answered where the fast path has this reason, or none, to leave the segment to the slow path
abbrev pub answer_by : FlowId → Option Why → Handled
answer_by id None = Entered id
answer_by id (Some why) = Passed (Fast why)

-- A segment that isn't the flow's is passed on, one that the fast path leaves to the slow path too, and else it is
-- entered.
abbrev pub answer_at : Flow → Segment → Handled
answer_at r seg =
    if is_same r.tuple (tuple_of seg) then answer_by r.id (exception r.parts.phase seg) else Passed Absent

-- The history that goes back: where the segment is entered it has the model's one entry more.
abbrev pub history_by : (core tick : ℕ) → FrameId → Segment → Flow → Handled → History
history_by core tick frame seg r (Entered id) = history_with r (Core core) tick (Rx frame seg)
history_by core tick frame seg r h = history r
