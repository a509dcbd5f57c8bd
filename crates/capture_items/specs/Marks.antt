-- Marks of the flows that a batch has segments of, so that an item of another flow is mostly compared with none.
use Rattle.std.specs.Prelude.{◌≡◌, ℕ, ◌+◌, ◌%◌, Bool, true, false, List, get_or}
use Rattle.std.specs.List.{list_any}
use Rattle.tas_model.specs.declared.entry.FourTuple.{FourTuple}
use Rattle.tas_runs.specs.Records.{Item}
use Rattle.tas_runs.specs.Batches.{is_of}

-- The place of a flow's mark. Flows may share one.
abbrev pub mark_of : FourTuple → ℕ
mark_of tuple = (tuple.raddr + tuple.rport + tuple.lport) % 256

-- Each flow that has a segment among the items is marked.
abbrev pub CoverAll : (marks : List Bool) → List Item → Type 0
CoverAll marks items = (tuple : FourTuple) → list_any (is_of tuple) items ≡ true
    → get_or marks (mark_of tuple) false ≡ true
