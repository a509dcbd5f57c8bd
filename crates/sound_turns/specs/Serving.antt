-- The frames of a tick at the slow path: what becomes of the books, and a host whose frames aren't looked at.
use Rattle.std.specs.Prelude.{◌≡◌, List, [], ◌∷◌, ◌++◌, map}
use Rattle.tas_model.specs.declared.entry.FlowId.{FlowId}
use Rattle.host_rounds.specs.Hosts.{Waiting}
use Rattle.slow_worker.specs.Workers.{Worker}
use Rattle.slow_worker.specs.declared.served.Served.{Served}
use Rattle.slow_worker.specs.declared.served.Served.TheVariants as served
use Rattle.host_books.specs.Books.{Book}
use Rattle.sound_hosts.specs.Hosts.{CoreHost}
use Rattle.sound_hosts.specs.Moving.{with_slow}
use Rattle.sound_hosts.specs.Opening.{new_book}

-- no frame waits at the worker
abbrev pub quiet : Worker → Worker
quiet w = record w {
  exceptions = record (w.exceptions) { list = [] };
  deferred = record (w.deferred) { list = [] };
}

-- the host without the frames that wait
abbrev pub without_frames : CoreHost → CoreHost
without_frames h = with_slow (quiet h.slow) h

-- the book of a flow that a SYN opened
abbrev pub syn_book : FlowId → Book
syn_book id = new_book id Waiting

-- the flow that a frame opened, by its answer
abbrev pub ids_of : Served → List FlowId
ids_of (served.Opened id) = id ∷ []
ids_of a = []

-- the books with those of these flows behind them, which SYNs opened
abbrev pub books_opened : List FlowId → List Book → List Book
books_opened ids books = books ++ map syn_book ids

-- the host with these books and this worker of its slow path
abbrev pub with_opened : List FlowId → Worker → CoreHost → CoreHost
with_opened ids w h = record h { slow = w; books = books_opened ids h.books }

-- One worker is the other, but for what a host's soundness doesn't read: its log, its frames, how far time has passed,
-- and what it told applications and cores.
abbrev pub IsLike : Worker → Worker → Type 0
IsLike v w = w ≡ record v {
  log = w.log;
  check_sums = w.check_sums;
  exceptions = w.exceptions;
  deferred = w.deferred;
  time = w.time;
  senders = w.senders;
  kicks = w.kicks;
  kickers = w.kickers;
}
