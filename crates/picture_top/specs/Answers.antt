-- How the program ends: its status, and what became of its streams.
use Rattle.std.specs.Prelude.{◌≡◌, ◌⊎◌, ℕ, ◌≤◌, List, [], length, Some, None, IfSome, Ok, Err, Result}
use Rattle.tas_num.specs.Causes.{Rose}
use Rattle.report_lines.specs.Lines as said
use Rattle.report_picture.specs.Forms.{IsForm}
use Rattle.tas_num.specs.Streams.{SourceState, SinkState, Wrote}
use Rattle.tas_num.specs.declared.outside.IoFault.{IoFault}
use Rattle.tas_num.specs.declared.outside.IoFault.TheVariants.{Failed, OutOfMemory}
use Rattle.picture_top.specs.Words.{Asked, asked_by}
use Rattle.picture_top.specs.Pictures.{Shows, Misses}
use Rattle.picture_top.specs.Stops.{status_of, most_bytes, ReadsWhole, Undrawn}
use Rattle.picture_top.specs.Telling.{IsTold}
use Rattle.picture_top.specs.declared.stop.Stop.{Stop}
use Rattle.picture_top.specs.declared.stop.Stop.TheVariants.{Words, Write, Memory}

-- What the call was given, and what became of that: its words, its source, its sink, and the sink of its fault line.
pub record Call : Type 0 where
  pub words : List (List ℕ)
  pub source : SourceState
  pub left : SourceState
  pub sink : SinkState
  pub written : SinkState
  pub faults : SinkState
  pub told : SinkState

abbrev pub call : (words : List (List ℕ)) → (source left : SourceState) → (sink written faults told : SinkState) → Call
call words source left sink written faults told = record {
  words = words;
  source = source;
  left = left;
  sink = sink;
  written = written;
  faults = faults;
  told = told;
}

-- ----- a picture
-- The words ask for this, the whole input was read, this is the picture of it, and this came of writing that.
pub record WritesPicture (c : Call) (result : Result (Unit {0}) IoFault) : Type 0 where
  pub asked : Asked
  pub words : asked_by c.words ≡ Some asked
  pub read : ReadsWhole c.source c.left
  pub picture : List ℕ
  pub shown : IfSome c.source.left (λ b. Shows asked b picture)
  pub wrote : Wrote c.sink result c.written picture []

-- It was written whole, and no fault is told.
pub record IsDrawn (c : Call) : Type 0 where
  pub written : WritesPicture c (Ok tt)
  pub silent : c.told ≡ c.faults

-- ----- none
-- The words are of no form, and nothing was read or written.
pub record AsksNothing (c : Call) : Type 0 where
  pub words : asked_by c.words ≡ None
  pub unread : c.left ≡ c.source
  pub unwritten : c.written ≡ c.sink

-- The words ask for this, there is no picture of it in the input, and nothing was written.
pub record HasNone (c : Call) (stop : Stop) : Type 0 where
  pub asked : Asked
  pub words : asked_by c.words ≡ Some asked
  pub why : Undrawn asked c.source c.left stop
  pub unwritten : c.written ≡ c.sink

-- Why it stopped so. Where memory was wanting, it may have been for a sink that takes memory to grow.
abbrev pub Why : Call → Stop → Type 0
Why c Words = AsksNothing c
Why c Write = WritesPicture c (Err Failed)
Why c Memory = HasNone c Memory ⊎ WritesPicture c (Err OutOfMemory)
Why c stop = HasNone c stop

-- It stopped with this status, which has its cause and is told of.
pub record HasStopped (c : Call) (status : ℕ) : Type 0 where
  pub stop : Stop
  pub status_is : status ≡ status_of stop
  pub why : Why c stop
  pub told : IsTold stop c.faults c.told

-- ----- the whole
abbrev pub HasEnded : Call → (status : ℕ) → Type 0
HasEnded c status = ((status ≡ 0) × IsDrawn c) ⊎ HasStopped c status

-- ----- a right input
-- The words ask for this, the input is told and is a report with it within its length, and no count of faults rose.
pub record IsDrawable (c : Call) : Type 0 where
  pub asked : Asked
  pub words : asked_by c.words ≡ Some asked
  pub input : List ℕ
  pub tells : c.source.left ≡ Some input
  pub short : length input ≤ most_bytes
  pub lines : List said.Line
  pub form : IsForm input lines
  pub has : (number : ℕ) → ¬ Misses asked input number
  pub read : ¬ Rose c.source.faults c.left.faults
  pub written : ¬ Rose c.sink.faults c.written.faults
