-- How worked replays are written down: the capture's bytes as hexadecimal digits, and what the program writes for it.
use Rattle.std.specs.Prelude.{ℕ, ◌+◌, ◌-◌, ◌*◌, List, [], ◌∷◌, ◌++◌, nat_lt, Bool, Result, Ok, Err, if◌then◌else◌}
use Rattle.tas_num.specs.Captures.{Fault}
use Rattle.host_rounds.specs.Logs.{RunLog}
use Rattle.tas_runs.specs.SerialOrder.{serial_replay}
use Rattle.tas_runs.specs.Report.{line, report}
use Rattle.tas_runs.specs.SentFrames.{capture}

-- the value of a digit `0` to `9` or `a` to `f`, by its code
abbrev pub digit_value : (code : ℕ) → ℕ
digit_value code = if nat_lt code 58 then code - 48 else code - 87

-- the bytes that these digits spell, two digits each
abbrev pub unhex : (codes : List ℕ) → List ℕ
unhex [] = []
unhex (a ∷ []) = []
unhex (a ∷ b ∷ rest) = (16 * digit_value a + digit_value b) ∷ unhex rest

-- lines of text, each ended by LF
abbrev pub lines : List (List ℕ) → List ℕ
lines [] = []
lines (text ∷ texts) = line text ++ lines texts

-- what is written for a run: its report, or the capture of what it sent; nothing where the bytes are no capture
abbrev pub report_or_none : Result RunLog Fault → List ℕ
report_or_none (Err fault) = []
report_or_none (Ok log) = report log

abbrev pub capture_or_none : Result RunLog Fault → List ℕ
capture_or_none (Err fault) = []
capture_or_none (Ok log) = capture log

-- the report of the replay of a capture in serial order
abbrev pub replayed : (local : ℕ) → (bytes : List ℕ) → (loose : Bool) → List ℕ
replayed local bytes loose = report_or_none (serial_replay local bytes loose)

-- the local host of the worked replays: 10.0.0.2
abbrev pub host_address : ℕ
host_address = 167772162
