-- What was found in a capture, and what it means that there is none.
use Rattle.std.specs.Prelude.{◌≡◌, ℕ, Bool, List, length, Ok, Err, ⊤}
use Rattle.tas_num.specs.Captures.{Capture, capture_of}
use Rattle.pcap_frames.specs.Views.{fault_in}
use Rattle.tas_runs.specs.Records.{items_of}
use Rattle.capture_items.specs.Starts.{AreStartsOf}
use Rattle.capture_items.specs.declared.found.Found.{Found}
use Rattle.capture_items.specs.declared.found.InputFault.{InputFault}
use Rattle.capture_items.specs.declared.found.InputFault.TheVariants.{OutOfMemory, Refused}

-- The bytes are a capture. The items are its records that are not passed over, the starts are those of these items,
-- and `records` counts all records.
pub record IsFound (bytes : List ℕ) (local : ℕ) (loose : Bool) (found : Found) : Type 0 where
  pub capture : Capture
  pub stands : capture_of bytes ≡ Ok capture
  pub items : found.items ≡ items_of capture.form local loose capture.records
  pub starts : AreStartsOf found.items found.starts
  pub records : found.records ≡ length capture.records

-- The bytes are no capture, for this reason, where it isn't want of memory.
abbrev pub IsNoCapture : List ℕ → InputFault → Type 0
IsNoCapture bytes OutOfMemory = ⊤
IsNoCapture bytes (Refused fault) = capture_of bytes ≡ Err (fault_in fault)
