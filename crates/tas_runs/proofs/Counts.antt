-- Each record of a capture is counted once.
use Rattle.std.proofs.Common.{◌≡◌, ◌↔◌, ℕ, ◌+◌, ◌-◌, ◌≤◌, ◌∷◌, List, [], Bool, length, filter_map, count_by, Option}
use Rattle.std.proofs.Common.{Some, None, Result, Ok, Err, sym, subst, arith}
use Rattle.std.specs.List.{cons_option}
use Rattle.std.proofs.lemmas.List.Sums.{count_by-le-length}
use Rattle.tas_num.specs.Captures.{Fault, Capture, capture_of}
use Rattle.host_rounds.specs.Logs.{RunLog}
use Rattle.tas_runs.specs.Records.{Item, item_of, items_of, is_damaged}
use Rattle.tas_runs.specs.Replays.{IsReplayOf, IsReplayFound, Replay}
use Rattle.tas_runs.specs.SerialOrder.{serial_log_found, serial_replay}

kept_some : {A B : Type 0} (f : A → Option B) (xs : List A) → length (filter_map f xs) ≤ length xs
kept_some f [] = omega arith
kept_some {A} {B} f (x ∷ xs) = by_item (f x) (kept_some f xs) where
  by_item : (o : Option B) → length (filter_map f xs) ≤ length xs
      → length (cons_option o (filter_map f xs)) ≤ length (x ∷ xs)
  by_item None h = omega arith
  by_item (Some y) h = omega arith

counts_in : (local records : ℕ) (found : List Item) (log : RunLog) → length found ≤ records
    → IsReplayOf local records found log → log.records ≡ log.frames + log.passed + log.refused
counts_in local records found log fits run =
    let damaged : count_by is_damaged found ≤ length found = count_by-le-length is_damaged found in
    let sum : records ≡ (length found - count_by is_damaged found) + (records - length found)
    + count_by is_damaged found = omega arith in
    subst (λ (r : RunLog). r.records ≡ r.frames + r.passed + r.refused) (sym run.2) sum

-- a record is a frame, passed over or refused
pub records_counted : (local : ℕ) (bytes : List ℕ) (loose : Bool) (log : RunLog) → Replay local bytes loose log
    → log.records ≡ log.frames + log.passed + log.refused
unfolding items_of
records_counted local bytes loose log run = by_capture (capture_of bytes) run where
  by_capture : (r : Result Capture Fault) → IsReplayFound local loose r log
      → log.records ≡ log.frames + log.passed + log.refused
  by_capture (Err fault) h = absurd h
  by_capture (Ok c) h = counts_in local (length c.records) (items_of c.form local loose c.records) log
      (kept_some (item_of c.form local loose) c.records) h

-- the run in serial order fails exactly where the bytes are no capture
pub serial_fails : (local : ℕ) (bytes : List ℕ) (loose : Bool) (fault : Fault)
    → serial_replay local bytes loose ≡ Err fault ↔ capture_of bytes ≡ Err fault
unfolding serial_replay
serial_fails local bytes loose fault = by_capture (capture_of bytes) where
  by_capture : (r : Result Capture Fault) → serial_log_found local loose r ≡ Err fault ↔ r ≡ Err fault
  by_capture (Err other) = (λ h. cc (h), λ h. cc (h))
  by_capture (Ok c) = (λ h. absurd (cc (h)), λ h. absurd (cc (h)))
