-- The lines of records of a capture, with what their numbers stand between.
use Rattle.std.specs.Prelude.{ℕ, List, ◌++◌, codes, decimal}
use Rattle.std.specs.Prelude.{if◌then◌else◌}
use Rattle.tas_core.specs.declared.stretch.RunKind.{RunKind}
use Rattle.tas_core.specs.declared.stretch.RunKind.TheVariants.{Dropped, Refused}

-- what stands between the tick and the number
abbrev pub word_of : RunKind → List ℕ
word_of (Dropped backlog) = codes " dropped r:"
word_of (Refused number) = codes " refused r:"

-- and behind the number
abbrev pub end_of : RunKind → List ℕ
end_of (Dropped backlog) = codes " = " ++ (if backlog then codes "backlogfull" else codes "noflowslot") ++ codes "\n"
end_of (Refused number) = codes " = " ++ decimal number ++ codes "\n"

abbrev pub record_line : (tick : ℕ) → RunKind → (number : ℕ) → List ℕ
record_line tick kind number = (decimal tick ++ word_of kind) ++ (decimal number ++ end_of kind)
