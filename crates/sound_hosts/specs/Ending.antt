-- The end of a flow.
use Rattle.std.specs.Prelude.{Bool, true, false}
use Rattle.app_reaper.specs.declared.sweeping.Swept.{Swept}
use Rattle.app_reaper.specs.declared.sweeping.Swept.TheVariants.{Freed, Pinned}
use Rattle.host_books.specs.Books.{Book}

-- its slot was freed
abbrev pub is_freed : Swept → Bool
is_freed Freed = true
is_freed (Pinned n pin) = false

-- The book of a closed flow that was swept: it left the index, and its record was filed where its slot was freed.
abbrev pub swept_as : Swept → Book → Book
swept_as a b = record b { indexed = false; filed = is_freed a }
