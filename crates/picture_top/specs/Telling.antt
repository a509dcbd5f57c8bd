-- What the program says of a stop: its fault line.
use Rattle.std.specs.Prelude.{ℕ, List, [], ◌++◌, codes, decimal, Result}
use Rattle.tas_num.specs.declared.outside.IoFault.{IoFault}
use Rattle.tas_num.specs.Streams.{SinkState, Wrote}
use Rattle.picture_top.specs.declared.stop.Stop.{Stop}
use Rattle.picture_top.specs.declared.stop.Stop.TheVariants.{Words, Line, Read, Write, Memory, TooLong}

-- the number, and the end of the line
abbrev pub numbered : (number : ℕ) → List ℕ
numbered number = decimal number ++ codes "\n"

abbrev pub fault_line : Stop → List ℕ
fault_line Words = codes "picture: words\n"
fault_line (Line number) = codes "picture: input line " ++ numbered number
fault_line Read = codes "picture: read\n"
fault_line Write = codes "picture: write\n"
fault_line Memory = codes "picture: memory\n"
fault_line TooLong = codes "picture: too long\n"

-- The fault line was written, or a front of it, as a write says it.
abbrev pub IsTold : Stop → (before after : SinkState) → Type 0
IsTold stop before after = (result : Result (Unit {0}) IoFault) × Wrote before result after (fault_line stop) []
