-- A host after a phase in which its cores and its applications worked side by side.
use Rattle.std.specs.Prelude.{List, [], ◌∷◌}
use Rattle.flow_lock.specs.declared.view.View.{View}
use Rattle.libtas_sockets.specs.Apps.{Application}
use Rattle.core_phase.specs.Lanes.{pins_left}
use Rattle.core_phase.specs.declared.lane.Lane.{Lane}
use Rattle.core_phase.specs.declared.lane.Lane.TheVariants as lanes
use Rattle.host_books.specs.Books.{Book}
use Rattle.sound_hosts.specs.Hosts.{CoreHost}
use Rattle.sound_hosts.specs.Leaving.{books_left}

-- the applications among the lanes, in their order
abbrev pub apps_in : List Lane → List Application
apps_in [] = []
apps_in (lanes.Core l ∷ ls) = apps_in ls
apps_in (lanes.App l ∷ ls) = l.app ∷ apps_in ls

-- the books, after this lane's application gave up the socket that it closed or aborted
abbrev pub books_by : (before after : Lane) → List Book → List Book
books_by (lanes.App v) (lanes.App w) books = books_left v.app.number (pins_left (lanes.App v) (lanes.App w)) books
books_by v w books = books

-- and after all lanes' did
abbrev pub books_after : (before after : List Lane) → List Book → List Book
books_after [] ws books = books
books_after (v ∷ vs) [] books = books
books_after (v ∷ vs) (w ∷ ws) books = books_after vs ws (books_by v w books)

-- The host, with what its slow path then knows, and with its applications as they are then.
abbrev pub after_phase : (before after : List Lane) → View → CoreHost → CoreHost
after_phase vs ws w h = record h {
  slow = record (h.slow) { pass = record (h.slow.pass) { view = w } };
  apps = apps_in ws;
  books = books_after vs ws h.books;
}
