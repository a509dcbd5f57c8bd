-- Whoever makes the run that the words ask for.
use Rattle.std.specs.Prelude.{◌≤◌, length, Result, IfOk, IfErr}
use Rattle.tas_round.specs.Runs.{log_in}
use Rattle.tas_round.specs.declared.logs.RunLog as code
use Rattle.program_words.specs.Words.{Form, Asks, HasClients, HasCores}
use Rattle.program_words.specs.Requests.{input_in, request_in}
use Rattle.tas_top.specs.Runs.{IsRun}
use Rattle.tas_top.specs.Stops.{Unrun}
use Rattle.tas_top.specs.declared.runs.Job.{Job}
use Rattle.tas_top.specs.declared.stop.Stop.{Stop}

-- It is of so many clients, on so many cores and of so many bytes as may be.
pub record IsFit (job : Job) : Type 0 where
  pub clients : HasClients (input_in job.asked.input)
  pub cores : HasCores job.asked.cores
  pub short : length job.bytes.items ≤ 67108864

-- This is the log of the run that is asked for; or the bytes are none of their kind, or there was no memory.
pub record IsLogOf (job : Job) (made : Result code.RunLog Stop) : Type 0 where
  pub run : IfOk made (λ log. IsRun (request_in job.asked) job.bytes.items (log_in log))
  pub refused : IfErr made (Unrun (input_in job.asked.input) job.bytes.items)

-- One who makes each run that words of this form ask for: it may be called for that, and answers it.
abbrev pub Makes : Form → (pre : Job → Type 0) → (post : Job → Result code.RunLog Stop → Type 0) → Type 0
Makes form pre post =
    (job : Job) → Asks form (request_in job.asked) → IsFit job
    → pre job × ((made : Result code.RunLog Stop) → post job made → IsLogOf job made)
