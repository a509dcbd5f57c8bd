-- Why a run of the program ends with another status than 0, and what became of its streams.
use Rattle.std.specs.Prelude.{◌≡◌, ◌⊎◌, ℕ, ◌+◌, ◌<◌, ◌≤◌, List, [], length, Option, Some, Err, IfSome, Bool}
use Rattle.std.specs.Prelude.{true, false, not, ⊤}
use Rattle.std.specs.Io.KnownBytes.{Consumes, IsAtEnd}
use Rattle.tas_num.specs.Causes.{Rose}
use Rattle.tas_num.specs.Captures.{Fault, capture_of, record_of}
use Rattle.tas_num.specs.Streams.{SourceState, SinkState, Wrote}
use Rattle.tas_num.specs.declared.outside.IoFault.TheVariants.{Failed, OutOfMemory}
use Rattle.scenario_text.specs.Reads.{reads}
use Rattle.scenario_text.specs.declared.reading.ScenarioFault.TheVariants as faults
use Rattle.program_words.specs.Words.{Form, Bulk, form_of, IsForm, IsAsked, Input, Scenario, Made, Capture}
use Rattle.program_words.specs.Words.{Request, Asks, most_in, most_bytes}
use Rattle.tas_top.specs.Runs.{Given, Ran, bytes_of}
use Rattle.tas_top.specs.declared.stop.Stop.{Stop}
use Rattle.tas_top.specs.declared.stop.Stop.TheVariants.{Stalled, Words, Line, Record, Read, Write, Memory, TooLong}

-- the status that the program ends with
abbrev pub status_of : Stop → ℕ
status_of Stalled = 1
status_of Words = 2
status_of (Line number) = 3
status_of (Record number) = 3
status_of Read = 4
status_of Write = 5
status_of Memory = 6
status_of TooLong = 7

-- why the words ask for no run: they are of no form of the program
abbrev pub Unasked : (words : List (List ℕ)) → Stop → Type 0
Unasked words Words = ¬ IsForm (form_of words)
Unasked words _ = ⊥

-- why no run was taken from them: they ask for none, or there was no memory to read them
abbrev pub Untaken : (words : List (List ℕ)) → Stop → Type 0
Untaken words Words = Unasked words Words
Untaken words Memory = IsAsked words
Untaken words _ = ⊥

-- why the input is none of its kind, where its bytes are told: they are no scenario, and this is the first line that is
-- refused; or no capture, and this record is at fault, or the file header where it is 0
abbrev pub IsNoInput : Stop → Input → Option (List ℕ) → Type 0
IsNoInput (Line number) Scenario input = IfSome input (λ b. (kind : ℕ) × (reads b ≡ Err (faults.Refused number kind)))
IsNoInput (Record number) (Capture local loose) input =
    IfSome input (λ b. (fault : Fault) × (capture_of b ≡ Err fault) × (record_of fault ≡ number))
IsNoInput _ _ input = ⊥

-- the input is none of the kind that the words ask for
abbrev pub Misfits : Given → Stop → Type 0
Misfits g stop = (r : Request) × Asks (form_of g.words) r × IsNoInput stop r.input g.source.left

-- the source has more bytes than an input of the kind that the words ask for may have
abbrev pub IsTooLong : Given → Type 0
IsTooLong g =
    (r : Request) × Asks (form_of g.words) r
    × IfSome (bytes_of r.input g.source.left) (λ b. most_bytes g.words < length b)

-- why it ends so
abbrev pub Cause : Given → Stop → Type 0
Cause g Stalled = Ran g (λ r log. log.stalled ≡ true)
Cause g Words = Unasked g.words Words
Cause g (Line number) = Misfits g (Line number)
Cause g (Record number) = Misfits g (Record number)
Cause g Read = Rose g.source.faults g.read.faults
Cause g Write = Rose g.sink.faults g.written.faults
Cause g Memory = ⊤
Cause g TooLong = IsTooLong g

-- ----- the order
-- the words are looked at first: any other stop is one of words that ask for a run
abbrev pub WordsFirst : (words : List (List ℕ)) → Stop → Type 0
WordsFirst words Words = ⊤
WordsFirst words _ = IsAsked words

-- where they are not, the source is not touched
abbrev pub Untouched : (before after : SourceState) → Stop → Type 0
Untouched before after Words = after ≡ before
Untouched before after _ = ⊤

-- ----- how much is read
-- The input has no more than so many bytes, and none of them is left.
pub record ReadsAll (limit : ℕ) (before after : SourceState) : Type 0 where
  pub fits : IfSome before.left (λ b. length b ≤ limit)
  pub end : IsAtEnd after.left

-- all that words of this form want was read: nothing for a made scenario, and else all that the source has
abbrev pub ReadsFor : Form → (before after : SourceState) → Type 0
ReadsFor (Bulk clients cores) before after = after ≡ before
ReadsFor form before after = ReadsAll (most_in form) before after

-- so far the source was read for this input
abbrev pub IsReadFor : Input → (before after : SourceState) → Type 0
IsReadFor (Made clients) before after = after ≡ before
IsReadFor _ before after = IsAtEnd after.left

-- exactly one byte more than the limit was taken
abbrev pub ReadsPast : (limit : ℕ) → (before after : SourceState) → Type 0
ReadsPast limit before after = (taken : List ℕ) × (length taken ≡ limit + 1) × Consumes before.left after.left taken

-- what was read for words of this form before it stopped so
abbrev pub ReadBefore : Form → (before after : SourceState) → Stop → Type 0
ReadBefore form before after (Line number) = ReadsFor form before after
ReadBefore form before after (Record number) = ReadsFor form before after
ReadBefore form before after Write = ReadsFor form before after
ReadBefore form before after TooLong = ReadsPast (most_in form) before after
ReadBefore form before after _ = ⊤

-- why not all of the input was read, which has these bytes where they are told, and may have so many
abbrev pub Unread : (bytes : Option (List ℕ)) → (before after : SourceState) → (limit : ℕ) → Stop → Type 0
Unread bytes before after limit Read = Rose before.faults after.faults
Unread bytes before after limit Memory = ⊤
Unread bytes before after limit TooLong = IfSome bytes (λ b. limit < length b)
Unread bytes before after limit _ = ⊥

-- a made scenario has no input that could be at fault
abbrev pub IsOfMade : Stop → Type 0
IsOfMade (Line number) = ⊥
IsOfMade (Record number) = ⊥
IsOfMade Read = ⊥
IsOfMade TooLong = ⊥
IsOfMade _ = ⊤

-- ----- faults
-- no stop but that of the source tells of a fault of the source
abbrev pub SourceCalm : (before after : SourceState) → Stop → Type 0
SourceCalm before after Read = ⊤
SourceCalm before after _ = after.faults ≡ before.faults

-- and none but that of the sink of one of the sink
abbrev pub SinkCalm : (before after : SinkState) → Stop → Type 0
SinkCalm before after Write = ⊤
SinkCalm before after _ = after.faults ≡ before.faults

-- ----- what is written
-- where it stops so, nothing was written to a sink of which this says whether it grows
abbrev pub writes_nothing : (grows : Bool) → Stop → Bool
writes_nothing grows Write = false
writes_nothing grows Memory = not grows
writes_nothing grows _ = true

-- and it is as it was, but where the writing stopped
abbrev pub Unwrites : (before after : SinkState) → Stop → Type 0
Unwrites before after Write = ⊤
Unwrites before after Memory = ⊤
Unwrites before after _ = after ≡ before

-- why there is no run of these bytes
abbrev pub Unrun : Input → List ℕ → Stop → Type 0
Unrun input b Memory = ⊤
Unrun input b stop = IsNoInput stop input (Some b)

-- why not all of a text was written: the write failed; or there was no memory, before the first write or in it
abbrev pub Unwritten : (before after : SinkState) → (text : List ℕ) → Stop → Type 0
Unwritten before after text Write = Wrote before (Err Failed) after text []
Unwritten before after text Memory = (after ≡ before) ⊎ Wrote before (Err OutOfMemory) after text []
Unwritten before after text _ = ⊥
