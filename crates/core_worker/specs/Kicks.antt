-- Flows that have something to send, to be looked at by their cores.
use Rattle.std.specs.Prelude.{Bool, true, false, Option, Some, None, List, [], ◌∷◌}
use Rattle.tas_model.specs.declared.entry.FlowId.{FlowId}
use Rattle.tas_model.specs.declared.entry.FourTuple.{FourTuple}
use Rattle.flow_lock.specs.declared.view.History.{History}
use Rattle.context_queue.specs.declared.note.Note.{Note}
use Rattle.core_worker.specs.Sending.{may_go}
use Rattle.core_worker.specs.declared.kicks.Kick.{Kick}

abbrev pub kick_where : Bool → FlowId → FourTuple → Option Kick
kick_where true id t = Some (record { flow = id; tuple = t })
kick_where false id t = None

-- the kick of a flow with this history, where a segment may go
abbrev pub kick_of : FlowId → History → Option Kick
kick_of id h = kick_where (may_go h) id h.tuple

-- as a list of one, or none
abbrev pub one_kick : Option Kick → List Kick
one_kick None = []
one_kick (Some k) = k ∷ []

-- the note that wants the flow to be looked at
abbrev pub kick_note : Kick → Note
kick_note k = record { kind = 4; slot = k.flow.slot; generation = k.flow.generation }
