-- What is kept of each flow that was opened, and how it changes.
use Rattle.std.specs.Prelude.{◌&&◌, Bool, true, false, List, [], ◌∷◌, drop}
use Rattle.tas_model.specs.declared.entry.FlowId.{FlowId}
use Rattle.host_rounds.specs.Hosts as hosts
use Rattle.flow_lock.specs.Orders.{same_flow}
use Rattle.flow_lock.specs.Words.{flag}
use Rattle.host_books.specs.Books as books
use Rattle.sound_turns.specs.Passing.{swept_book}
use Rattle.core_host.specs.declared.books.Book.{Book}
use Rattle.core_host.specs.declared.books.Holder.{Holder}
use Rattle.core_host.specs.declared.books.Holder.TheVariants as holders

-- ----- one book
abbrev pub holder_of : Holder → hosts.Holder
holder_of holders.Waiting = hosts.Waiting
holder_of (holders.Application app) = hosts.Application app
holder_of holders.GivenUp = hosts.GivenUp

abbrev pub book_of : Book → books.Book
book_of b = record { id = b.id; indexed = b.indexed; holder = holder_of b.holder; filed = b.filed }

-- ----- when time passed
-- It is in the index, and its pin is the first of these.
abbrev pub is_first : List FlowId → books.Book → Bool
is_first [] b = false
is_first (p ∷ ps) b = b.indexed && same_flow p b.id

-- It stays in the index; or it left it, and its record was filed unless an application has its socket.
abbrev pub kept_where : (stays : Bool) → books.Book → books.Book
kept_where true b = b
kept_where false b = swept_book b

-- All books, of which those stay in the index whose pins these are, in the order of their opening.
abbrev pub kept_by : (pins : List FlowId) → List books.Book → List books.Book
kept_by pins [] = []
kept_by pins (b ∷ bs) = kept_where (is_first pins b) b ∷ kept_by (drop (flag (is_first pins b)) pins) bs
