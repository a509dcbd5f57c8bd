-- One record more: for programs that go over the records of a capture one by one.
use Rattle.std.proofs.Common.{◌≡◌, ℕ, Bool, List, [], ◌∷◌, ◌++◌, fold, filter_map, Option, Some, None, refl, ap, ◌∙◌}
use Rattle.std.specs.List.{cons_option}
use Rattle.std.proofs.lemmas.List.Elements.{filter_map-append}
use Rattle.std.proofs.lemmas.List.Sums.{fold-append}
use Rattle.tas_num.specs.Captures.{Form, Record}
use Rattle.tas_model.specs.declared.entry.FourTuple.{FourTuple}
use Rattle.host_rounds.specs.declared.opening.Start.{Start}
use Rattle.tas_runs.specs.Records.{Item, item_of, items_of}
use Rattle.tas_runs.specs.Batches.{Cut, cut_at}
use Rattle.tas_runs.specs.Starts.{with_new, local_syn, local_syns}

-- the items of one record more
pub items_push : (form : Form) (local : ℕ) (loose : Bool) (rs : List Record) (r : Record)
    → items_of form local loose (rs ++ r ∷ []) ≡ items_of form local loose rs
    ++ cons_option (item_of form local loose r) []
unfolding items_of
items_push form local loose rs r = filter_map-append (item_of form local loose) rs (r ∷ [])

-- the batches of one item more
pub cut_push : (c : Cut) (items : List Item) (x : Item)
    → fold cut_at c (items ++ x ∷ []) ≡ cut_at (fold cut_at c items) x
cut_push c items x = fold-append cut_at c items (x ∷ [])

-- the local SYN segments of one item more
abbrev pub with_syn : List Start → Option Start → List Start
with_syn known None = known
with_syn known (Some syn) = with_new known syn

one_more : (known : List Start) (o : Option Start) → fold with_new known (cons_option o []) ≡ with_syn known o
one_more known None = refl
one_more known (Some syn) = refl

pub syns_push : (items : List Item) (x : Item) (tuple : FourTuple)
    → local_syns (items ++ x ∷ []) tuple ≡ with_syn (local_syns items tuple) (local_syn tuple x.content)
syns_push items x tuple =
    let syn : Item → Option Start = λ y. local_syn tuple y.content in
    ap (fold with_new []) (filter_map-append syn items (x ∷ []))
    ∙ fold-append with_new [] (filter_map syn items) (cons_option (syn x) [])
    ∙ one_more (fold with_new [] (filter_map syn items)) (syn x)
