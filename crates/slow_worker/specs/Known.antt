-- Flows in a list, and a map that leads each four-tuple to the first flow that has it.
use Rattle.std.specs.Prelude.{◌≡◌, ℕ, ◌+◌, ◌≤◌, List, length, Option, Some, None, if◌then◌else◌}
use Rattle.std.specs.Option.{option_or}
use Rattle.tas_model.specs.declared.entry.FlowId.{FlowId}
use Rattle.tas_model.specs.declared.entry.FourTuple.{FourTuple}
use Rattle.slow_worker.specs.Workers.{has_tuple, flow_with}
use Rattle.slow_worker.specs.declared.known.KnownFlow.{KnownFlow}

-- what the map had for a four-tuple, or else one flow more
abbrev pub or_flow : Option FlowId → FourTuple → KnownFlow → Option FlowId
or_flow had t flow = option_or had (if has_tuple t flow then Some flow.id else None)

-- The map answers as a search of the list. Both have the room.
pub record AreFound (flows : List KnownFlow) (room capacity : ℕ) (firsts : FourTuple → Option FlowId)
    (count free : ℕ) : Type 0 where
  pub first : (t : FourTuple) → firsts t ≡ flow_with t flows
  pub few : count ≤ length flows
  pub within : length flows ≤ room
  pub listed : room ≤ capacity
  pub placed : room ≤ count + free
