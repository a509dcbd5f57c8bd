-- What a status of the program's call says, where its words ask for a run.
use Rattle.std.specs.Prelude.{◌≡◌, ◌≢◌, ◌⊎◌, ℕ, false}
use Rattle.std.specs.Io.KnownBytes.{Keeps}
use Rattle.tas_num.specs.Streams.{SinkState}
use Rattle.program_words.specs.Words.{form_of, IsAsked, IsMade, most_bytes}
use Rattle.tas_top.specs.Runs.{Given}
use Rattle.tas_top.specs.Stops.{Cause, status_of, ReadsFor, ReadsPast}
use Rattle.tas_top.specs.Telling.{IsTold}
use Rattle.tas_top.specs.Outputs.{WritesFront}
use Rattle.tas_top.specs.declared.stop.Stop.{Stop}

-- It is 0, or that of a stop with its cause, of which the fault line tells.
abbrev pub HasCause : Given → (faults told : SinkState) → (status : ℕ) → Type 0
HasCause g faults told status =
    (status ≡ 0) ⊎ ((stop : Stop) × (status ≡ status_of stop) × Cause g stop × IsTold stop faults told)

-- What it says of the words, of what was read, and of what was written beside the text.
pub record IsOrderly (g : Given) (faults told : SinkState) (status : ℕ) : Type 0 where
  -- at 0 nothing is told
  pub silent : status ≡ 0 → told ≡ faults
  -- The words are looked at first: every status but 2 is one of words that ask for a run, and at 2 nothing is read.
  pub order : (status ≡ 2) ⊎ IsAsked g.words
  pub unread : status ≡ 2 → g.read ≡ g.source
  -- Then all of the input is read, which is within its length at 0, 1, 3 and 5; at 7 one byte past that was taken.
  pub read_all : (status ≡ 0) ⊎ ((status ≡ 1) ⊎ ((status ≡ 3) ⊎ (status ≡ 5)))
      → ReadsFor (form_of g.words) g.source g.read
  pub past : status ≡ 7 → ReadsPast (most_bytes g.words) g.source g.read
  -- For a made scenario nothing is read, whatever the status, so that 3, 4 and 7 do not come.
  pub made : IsMade (form_of g.words) → g.read ≡ g.source
  pub sure : IsMade (form_of g.words) → (status ≢ 3) × ((status ≢ 4) × (status ≢ 7))
  -- a fault of a stream is told as its own status
  pub reading : (status ≡ 4) ⊎ (g.read.faults ≡ g.source.faults)
  pub writing : (status ≡ 5) ⊎ (g.written.faults ≡ g.sink.faults)
  -- At 5 and 6 the sink grew by a front of the text, and at 6 not at all, unless it is one that takes memory to grow.
  pub front : (status ≡ 5) ⊎ (status ≡ 6) → WritesFront g
  pub memory : status ≡ 6 → g.sink.grows ≡ false → Keeps g.sink.held g.written.held
  -- at every other status it is as it was
  pub nothing : (status ≡ 2) ⊎ ((status ≡ 3) ⊎ ((status ≡ 4) ⊎ (status ≡ 7))) → g.written ≡ g.sink
