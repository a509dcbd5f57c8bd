-- Why there is no picture, and how much of the input was then read.
use Rattle.std.specs.Prelude.{◌≡◌, ◌⊎◌, ℕ, ◌+◌, ◌<◌, ◌≤◌, List, length, IfSome, ⊤}
use Rattle.std.specs.Io.KnownBytes.{Consumes, IsAtEnd}
use Rattle.tas_num.specs.Causes.{Rose}
use Rattle.tas_num.specs.Streams.{SourceState}
use Rattle.report_picture.specs.Forms.{IsFault}
use Rattle.picture_top.specs.Words.{Asked}
use Rattle.picture_top.specs.Pictures.{Misses}
use Rattle.picture_top.specs.declared.stop.Stop.{Stop}
use Rattle.picture_top.specs.declared.stop.Stop.TheVariants.{Words, Line, Read, Write, Memory, TooLong}

-- the status that the program ends with
abbrev pub status_of : Stop → ℕ
status_of Words = 2
status_of (Line number) = 3
status_of Read = 4
status_of Write = 5
status_of Memory = 6
status_of TooLong = 7

-- the most bytes that the input may have: 64 MiB
abbrev pub most_bytes : ℕ
most_bytes = 67108864

-- ----- the input
-- The whole input was read, which is within its length, and the source did not fail.
pub record ReadsWhole (before after : SourceState) : Type 0 where
  pub fits : IfSome before.left (λ b. length b ≤ most_bytes)
  pub end : IsAtEnd after.left
  pub calm : after.faults ≡ before.faults

-- Exactly one byte more than that was taken, of an input that has more, and the source did not fail.
pub record ReadsMore (before after : SourceState) : Type 0 where
  pub long : IfSome before.left (λ b. most_bytes < length b)
  pub past : (taken : List ℕ) × (length taken ≡ most_bytes + 1) × Consumes before.left after.left taken
  pub calm : after.faults ≡ before.faults

-- why not all of it was read; want of memory is free
abbrev pub Unread : (before after : SourceState) → Stop → Type 0
Unread before after Read = Rose before.faults after.faults
Unread before after Memory = after.faults ≡ before.faults
Unread before after TooLong = ReadsMore before after
Unread before after _ = ⊥

-- ----- the report
-- why a text has no such picture: this line is the earliest at fault, or the one past a report without the flow; want
-- of memory is free
abbrev pub Lacks : Asked → (text : List ℕ) → Stop → Type 0
Lacks asked text (Line number) = IsFault text number ⊎ Misses asked text number
Lacks asked text Memory = ⊤
Lacks asked text _ = ⊥

-- The whole input was read, and this line of it, where it is told, says why it has no such picture.
pub record IsReadRefused (asked : Asked) (before after : SourceState) (number : ℕ) : Type 0 where
  pub refused : IfSome before.left (λ b. Lacks asked b (Line number))
  pub read : ReadsWhole before after

-- why no picture was made: the input has none, or was not read
abbrev pub Undrawn : Asked → (before after : SourceState) → Stop → Type 0
Undrawn asked before after (Line number) = IsReadRefused asked before after number
Undrawn asked before after stop = Unread before after stop
