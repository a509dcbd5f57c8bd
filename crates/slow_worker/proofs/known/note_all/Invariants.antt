use Rattle.std.proofs.Common.{◌≡◌, ◌+◌, ◌≤◌, take}
use Rattle.std.specs.HashMap.{get, hash_map_len, spare}
use Rattle.tas_model.specs.declared.entry.FourTuple.{FourTuple}
use Rattle.flow_index.specs.Changes.{is_same}
use Rattle.slow_worker.specs.Workers.{flow_with}
use Rattle.slow_worker.proofs.known.note_all.Given as goal

-- the first flows are noted
abbrev pub invariant-loop-place : goal.invariant-loop-place
invariant-loop-place l =
    ((t : FourTuple) → get is_same l.firsts t ≡ flow_with t (take l.place l.flows.items))
    × (hash_map_len l.firsts ≤ l.place)
    × (hash_map_len l.fn.firsts + spare l.fn.firsts ≤ hash_map_len l.firsts + spare l.firsts)
