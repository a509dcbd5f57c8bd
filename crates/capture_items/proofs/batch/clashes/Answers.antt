use Rattle.std.proofs.Common.{rules, ◌≡◌, ◌∙◌, sym, map, Some}
use Rattle.tas_runs.specs.Batches.{tuple_of, is_of}
use Rattle.capture_items.specs.Items.{item_in}
use Rattle.capture_items.proofs.Batches.{any_mapped, clashes_of}
use Rattle.capture_items.proofs.batch.clashes.Goals as goal

pub returns-in-Some : goal.returns-in-Some
returns-in-Some c =
    let tuple : tuple_of (item_in c.args.item.now).content ≡ Some c.in-Some.tuple = search rules in
    c.has_flow.ensures ∙ (sym (any_mapped (is_of c.in-Some.tuple) item_in c.args.batch.now)
    ∙ sym (clashes_of (map item_in c.args.batch.now) (item_in c.args.item.now) c.in-Some.tuple tuple))
