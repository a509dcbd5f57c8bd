-- The one run of a capture in serial order.
use Rattle.std.specs.Prelude.{ℕ, Bool, List, length, map, Result, Ok, Err}
use Rattle.tas_num.specs.Captures.{Fault, Capture, capture_of}
use Rattle.host_rounds.specs.Logs.{RunLog}
use Rattle.host_rounds.specs.SerialOrder.{serial_ticks}
use Rattle.tas_runs.specs.Records.{Item, items_of}
use Rattle.tas_runs.specs.Batches.{batches_of}
use Rattle.tas_runs.specs.LocalScript.{capture_scripts, due_in}
use Rattle.tas_runs.specs.Replays.{at_start, replay_log}

abbrev pub serial_log : (local records : ℕ) → List Item → RunLog
serial_log local records items =
    replay_log local records items (serial_ticks (capture_scripts items) 0 (at_start local)
    (map due_in (batches_of items))).host

abbrev pub serial_log_found : (local : ℕ) → (loose : Bool) → Result Capture Fault → Result RunLog Fault
serial_log_found local loose (Err fault) = Err fault
serial_log_found local loose (Ok c) = Ok (serial_log local (length c.records) (items_of c.form local loose c.records))

-- The log of the run in serial order, or why the bytes are no capture.
unfoldable pub serial_replay : (local : ℕ) → (bytes : List ℕ) → (loose : Bool) → Result RunLog Fault
serial_replay local bytes loose = serial_log_found local loose (capture_of bytes)
