-- What was found in a capture is what its run in serial order is of; and its ticks, one after the other.
use Rattle.std.proofs.Common.{◌≡◌, ℕ, ◌+◌, Bool, List, ◌∷◌, map, Ok, Err, sym, ap, ◌∙◌}
use Rattle.tas_num.specs.Captures.{Fault, capture_of}
use Rattle.tas_runs.specs.Records.{Item, items_of}
use Rattle.tas_runs.specs.Batches.{batches_of}
use Rattle.tas_runs.specs.LocalScript.{Shown, capture_scripts, due_in}
use Rattle.tas_runs.specs.SerialOrder.{serial_replay, serial_log, serial_log_found}
use Rattle.host_rounds.specs.Scripts.{Site}
use Rattle.host_rounds.specs.SerialOrder.{serial_tick, serial_ticks}
use Rattle.capture_items.specs.Found.{IsFound}
use Rattle.capture_items.specs.declared.found.Found.{Found}

pub found_is_replayed : (bytes : List ℕ) (local : ℕ) (loose : Bool) (found : Found) → IsFound bytes local loose found
    → serial_replay local bytes loose ≡ Ok (serial_log local found.records found.items)
unfolding serial_replay
found_is_replayed bytes local loose found is =
    ap (serial_log_found local loose) is.stands
    ∙ (ap (λ (n : ℕ). Ok (serial_log local n (items_of is.capture.form local loose is.capture.records)))
    (sym is.records)
    ∙ ap (λ (items : List Item). Ok (serial_log local found.records items)) (sym is.items))

pub fault_is_replayed : (bytes : List ℕ) (local : ℕ) (loose : Bool) (fault : Fault) → capture_of bytes ≡ Err fault
    → serial_replay local bytes loose ≡ Err fault
unfolding serial_replay
fault_is_replayed bytes local loose fault refused = ap (serial_log_found local loose) refused

-- the ticks of the first batch and of the others
pub ticks_next : (items xs batch rest : List Item) (t : ℕ) (site : Site (List Shown))
    → batches_of xs ≡ batch ∷ batches_of rest
    → serial_ticks (capture_scripts items) t site (map due_in (batches_of xs))
    ≡ serial_ticks (capture_scripts items) (t + 1) (serial_tick (capture_scripts items) t site (due_in batch))
    (map due_in (batches_of rest))
unfolding serial_ticks
ticks_next items xs batch rest t site first =
    ap (λ (batches : List (List Item)). serial_ticks (capture_scripts items) t site (map due_in batches)) first
