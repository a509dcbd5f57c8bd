-- A worked host: what its backlog and its slots take, told by hand.
use Rattle.std.specs.Prelude.{true, false, List, [], ◌∷◌}
use Rattle.tas_model.specs.declared.entry.FlowId.{FlowId}
use Rattle.host_rounds.specs.declared.log.LogLine.{LogLine}
use Rattle.host_rounds.specs.declared.log.LogEvent.TheVariants as events
use Rattle.host_rounds.specs.Hosts.{Host}
use Rattle.host_rounds.specs.WorkedTicks.{after, with_slots, comes, from_port, head, frame, at}

-- One slot and a backlog of one. At tick 8 a SYN takes the slot, and the backlog is full: a second SYN finds neither,
-- and is dropped for the backlog, which is looked at first. At tick 9 the peer resets the first connection: a closed
-- flow counts to no backlog, but keeps its slot in this tick, so that the second SYN is dropped for the slots. At tick
-- 10 the slot is free.
abbrev pub filled : Host
filled =
    after 8 (with_slots 1 false) (
    (comes 1 (from_port 1000 80) (head 2 500 0) [] ∷ comes 2 (from_port 1001 80) (head 2 500 0) [] ∷ [])
    ∷ (comes 3 (from_port 1000 80) (head 4 501 0) [] ∷ comes 4 (from_port 1001 80) (head 2 500 0) [] ∷ [])
    ∷ (comes 5 (from_port 1001 80) (head 2 500 0) [] ∷ [])
    ∷ []
    )

abbrev pub filled_log : List LogLine
filled_log = at 8 (events.Dropped (frame 2) true) ∷ at 9 (events.Dropped (frame 4) false) ∷ []

abbrev pub filled_ids : List FlowId
filled_ids = (record { slot = 0; generation = 1 }) ∷ (record { slot = 0; generation = 2 }) ∷ []
