use Rattle.std.proofs.Common.{◌≡◌, ◌∙◌, sym, arith, map, List, Bool, false, get_or}
use Rattle.std.specs.List.{list_any}
use Rattle.tas_model.specs.declared.entry.FourTuple.{FourTuple}
use Rattle.tas_runs.specs.Records.{Item}
use Rattle.tas_runs.specs.Batches.{is_of}
use Rattle.capture_items.specs.Items.{item_in}
use Rattle.capture_items.specs.Marks.{mark_of, CoverAll}
use Rattle.capture_items.proofs.Batches.{any_mapped}
use Rattle.capture_items.proofs.batch.has_flow.Goals as goal

-- a flow that is not marked has no segment among the items
none_unmarked : (marks : List Bool) (items : List Item) (tuple : FourTuple) → CoverAll marks items
    → get_or marks (mark_of tuple) false ≡ false → list_any (is_of tuple) items ≡ false
none_unmarked marks items tuple all unmarked = grind (arith, all tuple, unmarked)

pub returns-else-may_have : goal.returns-else-may_have
returns-else-may_have c =
    c.if-may_have.false ∙ (sym (none_unmarked c.args.marks.now.marks (map item_in c.args.batch.now) c.args.tuple.now
    c.requires (sym c.if-may_have.ensures)) ∙ any_mapped (is_of c.args.tuple.now) item_in c.args.batch.now)
