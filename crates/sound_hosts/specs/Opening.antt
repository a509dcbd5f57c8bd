-- A flow that is opened.
use Rattle.std.specs.Prelude.{true, false, [], ◌∷◌, ◌++◌}
use Rattle.tas_model.specs.declared.entry.FlowId.{FlowId}
use Rattle.host_rounds.specs.Hosts.{Holder}
use Rattle.slow_worker.specs.Workers.{Worker}
use Rattle.host_books.specs.Books.{Book}
use Rattle.sound_hosts.specs.Hosts.{CoreHost}

-- the book of a flow that was just opened
abbrev pub new_book : FlowId → Holder → Book
new_book id holder = record { id = id; indexed = true; holder = holder; filed = false }

-- the host with a flow more, and this worker of its slow path
abbrev pub with_book : Book → Worker → CoreHost → CoreHost
with_book b w h = record h { slow = w; books = h.books ++ b ∷ [] }
