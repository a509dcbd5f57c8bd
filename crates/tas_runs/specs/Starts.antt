-- What the local host of a replay gives its flows: what its own SYN segments in the capture show, where it has them.
use Rattle.std.specs.Prelude.{◌*◌, ◌%◌, ◌^◌, ◌==◌, ◌&&◌, List, [], ◌∷◌, ◌++◌, slice_get, fold, filter_map, min}
use Rattle.std.specs.Prelude.{Option, Some, None, option_map, if◌then◌else◌}
use Rattle.std.specs.List.{list_any}
use Rattle.tas_model.specs.declared.entry.FourTuple.{FourTuple}
use Rattle.tas_model.specs.Segments.{is_syn}
use Rattle.host_rounds.specs.declared.opening.Start.{Start}
use Rattle.host_rounds.specs.Hosts.{Starts, same_tuple}
use Rattle.tas_runs.specs.Records.{Content, Damaged, Remote, Local, Item}

-- a number is listed once, with the scale that came with it first
abbrev pub with_new : List Start → Start → List Start
with_new known syn = if list_any (λ (s : Start). s.number.0 == syn.number.0) known then known else known ++ syn ∷ []

-- the number and the scale of a local SYN segment of this four-tuple
abbrev pub local_syn : FourTuple → Content → Option Start
local_syn tuple (Damaged rule) = None
local_syn tuple (Remote other seg) = None
local_syn tuple (Local other seg) =
    if same_tuple tuple other && is_syn seg then Some (record { number = seg.head.seq; scale = seg.head.scale })
    else None

-- the different numbers of the local SYN segments of a four-tuple in the whole capture, in their order, each with the
-- scale of the first segment that has it
abbrev pub local_syns : List Item → FourTuple → List Start
local_syns items tuple = fold with_new [] (filter_map (λ (x : Item). local_syn tuple x.content) items)

-- The shift of a flow is 10 at most.
abbrev pub limited : Start → Start
limited start = record start { scale = option_map (min 10) start.scale }

-- What a flow gets: `k` flows of its four-tuple were opened before it, and `n` flows of the host. It is what the
-- capture shows, where there is a number for it, and else a number alone.
unfoldable pub first_start : List Item → Starts
first_start items tuple k n =
    elim (slice_get (local_syns items tuple) k) [
      | Some syn ↦ limited syn
      | None ↦ record { number = record { 0 = 64000 * n % 2 ^ 32 }; scale = None }
    ]
