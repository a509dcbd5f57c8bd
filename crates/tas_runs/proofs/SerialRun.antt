-- The run in serial order is one of the right runs, and has one core.
use Rattle.std.proofs.Common.{ℕ, Bool, List, length, map, Result, Ok, Err, IfOk, refl}
use Rattle.tas_num.specs.Captures.{Fault, Capture, capture_of}
use Rattle.host_rounds.specs.Scripts.{Site}
use Rattle.host_rounds.specs.SerialOrder.{serial_ticks}
use Rattle.host_rounds.specs.Cores.{CoresBelow}
use Rattle.host_rounds.proofs.AllBelow.{run_low, serial_ticks_low}
use Rattle.host_rounds.proofs.SerialRounds.{serial_rounds}
use Rattle.tas_runs.specs.Records.{Item, items_of}
use Rattle.tas_runs.specs.Batches.{batches_of}
use Rattle.tas_runs.specs.LocalScript.{Shown, capture_scripts, due_in}
use Rattle.tas_runs.specs.Replays.{at_start, IsReplayOf, IsReplayFound, Replay}
use Rattle.tas_runs.specs.SerialOrder.{serial_log, serial_log_found, serial_replay}
use Rattle.tas_runs.proofs.ByMoves.{replays_by_moves}

serial_log_is : (local records : ℕ) (items : List Item)
    → IsReplayOf local records items (serial_log local records items)
serial_log_is local records items = (
  serial_ticks (capture_scripts items) 0 (at_start local) (map due_in (batches_of items)),
  serial_rounds (capture_scripts items) 0 (at_start local) (map due_in (batches_of items)) (replays_by_moves items) tt,
  refl,
)

pub serial_is_replay : (local : ℕ) (bytes : List ℕ) (loose : Bool)
    → IfOk (serial_replay local bytes loose) (λ log. Replay local bytes loose log)
unfolding serial_replay
serial_is_replay local bytes loose = by_capture (capture_of bytes) where
  by_capture : (r : Result Capture Fault)
      → IfOk (serial_log_found local loose r) (λ log. IsReplayFound local loose r log)
  by_capture (Err fault) = tt
  by_capture (Ok c) = serial_log_is local (length c.records) (items_of c.form local loose c.records)

-- ----- its cores
serial_log_low : (local records : ℕ) (items : List Item) → CoresBelow 1 (serial_log local records items).hosts
serial_log_low local records items =
    let last : Site (List Shown) =
    serial_ticks (capture_scripts items) 0 (at_start local) (map due_in (batches_of items)) in (
      run_low 1 last.host.flows
          (serial_ticks_low (capture_scripts items) 0 (at_start local) (map due_in (batches_of items))
          (replays_by_moves items) tt tt),
      tt,
    )

pub serial_replay_low : (local : ℕ) (bytes : List ℕ) (loose : Bool)
    → IfOk (serial_replay local bytes loose) (λ log. CoresBelow 1 log.hosts)
unfolding serial_replay
serial_replay_low local bytes loose = by_capture (capture_of bytes) where
  by_capture : (r : Result Capture Fault) → IfOk (serial_log_found local loose r) (λ log. CoresBelow 1 log.hosts)
  by_capture (Err fault) = tt
  by_capture (Ok c) = serial_log_low local (length c.records) (items_of c.form local loose c.records)
