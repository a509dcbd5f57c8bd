-- The picture of what the words ask for.
use Rattle.std.specs.Prelude.{◌≡◌, ℕ, List, Option, Some, None}
use Rattle.report_picture.specs.Pictures.{IsPicture, IsAbsent}
use Rattle.report_picture.specs.declared.choice.Wanted.{Wanted}
use Rattle.report_picture.specs.declared.choice.Wanted.TheVariants as wants
use Rattle.picture_top.specs.Words.{FlowName, Asked}

-- the flow of this name is wanted, or the first where none is named
abbrev pub Wants : Option FlowName → Wanted → Type 0
Wants None wanted = wanted ≡ wants.First
Wants (Some f) wants.First = ⊥
Wants (Some f) (wants.Flow host number) = (host.now ≡ f.host) × (number ≡ f.number)

-- the text is a report with the flow that is asked for, and this is the picture of it
abbrev pub Shows : Asked → (text picture : List ℕ) → Type 0
Shows asked text picture = (wanted : Wanted) × Wants asked.flow wanted × IsPicture text wanted asked.absolute picture

-- the text is a report without it; the number is that of the line past the last
abbrev pub Misses : Asked → (text : List ℕ) → (number : ℕ) → Type 0
Misses asked text number = (wanted : Wanted) × Wants asked.flow wanted × IsAbsent text wanted number
