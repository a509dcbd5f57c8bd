-- The records of a capture's batches have rising numbers.
use Rattle.std.proofs.Common.{◌≡◌, ℕ, ◌+◌, ◌≤◌, Bool, List, [], ◌∷◌, ◌++◌, drop, filter_map, Option, Some, None, Result}
use Rattle.std.proofs.Common.{Ok, Err, sym, subst, ◌∙◌, arith}
use Rattle.std.specs.List.{cons_option}
use Rattle.tas_num.specs.Captures.{Fault, Form, Record, form_of, records_from, capture_with, capture_of}
use Rattle.tas_runs.specs.Records.{Item, item_of, items_of}
use Rattle.tas_runs.specs.Batches.{batches_of, AreBatches, flat}
use Rattle.host_rounds.specs.Lists.{Each}
use Rattle.tas_runs.specs.Replays.{items_found, items_in}
use Rattle.tas_runs.specs.Asking.{NumbersRise, IsCaptureBatch}
use Rattle.tas_runs.proofs.AllBatches.{batches_are}
use Rattle.tas_runs.proofs.OneRun.{AreNumbered, AllNumbered, Says, item_numbered, records_numbered, batches_whole}

rise_from : (low high : ℕ) (xs : List Item) → low ≤ high → NumbersRise high xs → NumbersRise low xs
rise_from low high [] le rise = tt
rise_from low high (x ∷ xs) le rise = let here : high ≤ x.number = rise.0 in (omega arith, rise.1)

-- the items of records that are numbered one after the other
items_rise : (form : Form) (local : ℕ) (loose : Bool) (k : ℕ) (rs : List Record) → AreNumbered k rs
    → NumbersRise k (filter_map (item_of form local loose) rs)
items_rise form local loose k [] all = tt
items_rise form local loose k (r ∷ rs) all =
    by_item (item_of form local loose r) (item_numbered form local loose r)
    (items_rise form local loose (k + 1) rs all.1) where
      by_item : (o : Option Item) → Says (λ (x : Item). x.number ≡ r.number) o
          → NumbersRise (k + 1) (filter_map (item_of form local loose) rs)
          → NumbersRise k (cons_option o (filter_map (item_of form local loose) rs))
      by_item None s rest = rise_from k (k + 1) (filter_map (item_of form local loose) rs) (omega arith) rest
      by_item (Some x) s rest =
          let e : x.number ≡ k = s ∙ all.0 in
          (omega arith, subst (λ (n : ℕ). NumbersRise (n + 1) (filter_map (item_of form local loose) rs)) (sym e) rest)

rise_split : (low : ℕ) (xs ys : List Item) → NumbersRise low (xs ++ ys)
    → NumbersRise low xs × ((next : ℕ) × NumbersRise next ys)
rise_split low [] ys rise = (tt, (low, rise))
rise_split low (x ∷ xs) ys rise = let rest = rise_split (x.number + 1) xs ys rise.1 in ((rise.0, rest.0), rest.1)

abbrev Rises : List Item → Type 0
Rises batch = (low : ℕ) × NumbersRise low batch

flat_rise : (low : ℕ) (batches : List (List Item)) → NumbersRise low (flat batches) → Each Rises batches
flat_rise low [] rise = tt
flat_rise low (batch ∷ batches) rise =
    let cut = rise_split low batch (flat batches) rise in
    ((low, cut.0), flat_rise cut.1.0 batches cut.1.1)

both : (batches : List (List Item)) → AreBatches batches → Each Rises batches → Each IsCaptureBatch batches
both [] are rise = tt
both (batch ∷ []) are rise = ((are, rise.0), tt)
both (batch ∷ next ∷ batches) are rise = ((are.0, rise.0), both (next ∷ batches) are.2 rise.1)

items_batches : (k : ℕ) (items : List Item) → NumbersRise k items → Each IsCaptureBatch (batches_of items)
items_batches k items rise = both (batches_of items) (batches_are items)
    (flat_rise k (batches_of items) (subst (NumbersRise k) (sym (batches_whole items)) rise))

records_rise : (form : Form) (local : ℕ) (loose : Bool) (records : List Record) → AreNumbered 1 records
    → NumbersRise 1 (items_of form local loose records)
unfolding items_of
records_rise form local loose records all = items_rise form local loose 1 records all

records_batches : (form : Form) (local : ℕ) (loose : Bool) (records : List Record) → AreNumbered 1 records
    → Each IsCaptureBatch (batches_of (items_of form local loose records))
records_batches form local loose records all =
    items_batches 1 (items_of form local loose records) (records_rise form local loose records all)

nothing_batches : Each IsCaptureBatch (batches_of [])
unfolding batches_of
nothing_batches = tt

-- Each batch of a capture is one.
pub capture_batches : (local : ℕ) (bytes : List ℕ) (loose : Bool)
    → Each IsCaptureBatch (batches_of (items_in local bytes loose))
unfolding capture_of
capture_batches local bytes loose = by_form (form_of bytes) where
  by_records : (form : Form) (r : Result (List Record) Fault) → AllNumbered 1 r
      → Each IsCaptureBatch (batches_of (items_found local loose (capture_with form r)))
  by_records form (Err fault) all = nothing_batches
  by_records form (Ok records) all = records_batches form local loose records all

  by_form : (r : Result Form Fault)
      → Each IsCaptureBatch
      (batches_of (items_found local loose
      (elim r [ Err fault ↦ Err fault | Ok form ↦ capture_with form (records_from form 1 (drop 24 bytes)) ])))
  by_form (Err fault) = nothing_batches
  by_form (Ok form) = by_records form (records_from form 1 (drop 24 bytes)) (records_numbered form 1 (drop 24 bytes))
