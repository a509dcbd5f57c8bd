-- Counts of items.
use Rattle.std.proofs.Common.{◌≡◌, ℕ, ◌+◌, ◌≤◌, Bool, List, [], ◌∷◌, length, map, cond, filter_map, count_by, Option}
use Rattle.std.proofs.Common.{Some, None, ap, arith}
use Rattle.std.specs.List.{cons_option}
use Rattle.std.proofs.lemmas.List.Folds.{fold-map}
use Rattle.tas_num.specs.Captures.{Form, Record}
use Rattle.tas_runs.specs.Records.{item_of, items_of}
use Rattle.capture_items.specs.Found.{IsFound}
use Rattle.capture_items.specs.declared.found.Found.{Found}

-- a test of what the elements stand for
pub count_mapped : {X Y : Type 0} (p : Y → Bool) (f : X → Y) (xs : List X)
    → count_by p (map f xs) ≡ count_by (λ x. p (f x)) xs
count_mapped {X} {Y} p f xs = fold-map (λ (m : ℕ) (y : Y). m + cond (p y) 1 0) f 0 xs

cons_few : {Y : Type 0} (o : Option Y) (ys : List Y) → length (cons_option o ys) ≤ length ys + 1
cons_few None ys = omega arith
cons_few (Some y) ys = omega arith

pub filtered_few : {X Y : Type 0} (f : X → Option Y) (xs : List X) → length (filter_map f xs) ≤ length xs
filtered_few f [] = omega arith
filtered_few f (x ∷ xs) = omega (arith, cons_few (f x) (filter_map f xs), filtered_few f xs)

-- there are no more items than records
pub items_of-few : (form : Form) (local : ℕ) (loose : Bool) (records : List Record)
    → length (items_of form local loose records) ≤ length records
unfolding items_of
items_of-few form local loose records = filtered_few (item_of form local loose) records

pub found_few : (bytes : List ℕ) (local : ℕ) (loose : Bool) (found : Found) → IsFound bytes local loose found
    → length found.items ≤ found.records
found_few bytes local loose found is =
    let same : length found.items
    ≡ length (items_of is.capture.form local loose is.capture.records) = ap length is.items in
    omega (arith, same, is.records, items_of-few is.capture.form local loose is.capture.records)
