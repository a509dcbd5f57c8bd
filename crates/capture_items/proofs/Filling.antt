-- A batch that is filled with the items of a capture, the first of them perhaps read before.
use Rattle.std.proofs.Common.{◌≡◌, ◌<◌, Bool, false, List, [], ◌∷◌, ◌++◌, length, map, fold, Option, None}
use Rattle.std.proofs.Common.{sym, ap, ◌∙◌, subst, append-nil}
use Rattle.tas_runs.specs.Records.{Item}
use Rattle.tas_runs.specs.Batches.{joins, cut_at, batches_of}
use Rattle.capture_items.specs.Items.{item_in, items_with}
use Rattle.capture_items.specs.declared.item.Item as code
use Rattle.capture_items.proofs.Batches.{growing, batch_ends, batch_is_all}

-- the next item does not join
pub batch_stops : (all left : List Item) (batch lent : List code.Item) (x : code.Item) (rest : List Item) (b : Bool)
    → left ≡ item_in x ∷ rest → lent ≡ batch → b ≡ joins (map item_in lent) (item_in x) → b ≡ false
    → fold cut_at (growing []) all ≡ fold cut_at (growing (map item_in batch)) left
    → batches_of all ≡ map item_in batch ∷ batches_of (item_in x ∷ rest)
batch_stops all left batch lent x rest b is same test apart so_far =
    let not_here : joins (map item_in batch) (item_in x) ≡ false =
    ap (λ (xs : List code.Item). joins (map item_in xs) (item_in x)) (sym same) ∙ (sym test ∙ apart) in
    batch_ends all (map item_in batch) rest (item_in x) not_here
    (so_far ∙ ap (fold cut_at (growing (map item_in batch))) is)

-- no item is left
pub batch_runs_out : (all left rest : List Item) (batch : List code.Item) (ahead : Option code.Item) → ahead ≡ None
    → left ≡ [] → rest ≡ [] → 0 < length all → all ≡ map item_in batch ++ left
    → fold cut_at (growing []) all ≡ fold cut_at (growing (map item_in batch)) left
    → batches_of all ≡ map item_in batch ∷ batches_of (items_with ahead rest)
batch_runs_out all left rest batch ahead none over done some front so_far =
    let whole : all ≡ map item_in batch = front
    ∙ (ap (λ (xs : List Item). map item_in batch ++ xs) over ∙ append-nil (map item_in batch)) in
    let behind : items_with ahead rest ≡ [] = ap (λ (o : Option code.Item). items_with o rest) none ∙ done in
    batch_is_all all (map item_in batch) (subst (λ (xs : List Item). 0 < length xs) whole some)
    (so_far ∙ ap (fold cut_at (growing (map item_in batch))) over)
    ∙ ap (λ (xs : List Item). map item_in batch ∷ batches_of xs) (sym behind)
