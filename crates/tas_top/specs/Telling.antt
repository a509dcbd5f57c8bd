-- What the program says of a stop: its fault line.
use Rattle.std.specs.Prelude.{ℕ, List, [], ◌++◌, codes, decimal, Result}
use Rattle.tas_num.specs.declared.outside.IoFault.{IoFault}
use Rattle.tas_num.specs.Streams.{SinkState, Wrote}
use Rattle.tas_top.specs.declared.stop.Stop.{Stop}
use Rattle.tas_top.specs.declared.stop.Stop.TheVariants.{Stalled, Words, Line, Record, Read, Write, Memory, TooLong}

-- the number, and the end of the line
abbrev pub numbered : (number : ℕ) → List ℕ
numbered number = decimal number ++ codes "\n"

abbrev pub fault_line : Stop → List ℕ
fault_line Stalled = codes "tas: stalled\n"
fault_line Words = codes "tas: words\n"
fault_line (Line number) = codes "tas: input line " ++ numbered number
fault_line (Record number) = codes "tas: input record " ++ numbered number
fault_line Read = codes "tas: read\n"
fault_line Write = codes "tas: write\n"
fault_line Memory = codes "tas: memory\n"
fault_line TooLong = codes "tas: too long\n"

-- The fault line was written, or a front of it, as a write says it.
abbrev pub IsTold : Stop → (before after : SinkState) → Type 0
IsTold stop before after = (result : Result (Unit {0}) IoFault) × Wrote before result after (fault_line stop) []
