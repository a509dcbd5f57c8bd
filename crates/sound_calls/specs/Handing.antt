-- An application that acts alone: it has the baton, with all that the slow path knew.
use Rattle.std.specs.Prelude.{ℕ, cond, List, [], ◌∷◌, ◌++◌, map, Option, Result, Ok, Err, ⊤}
use Rattle.tas_model.specs.declared.entry.FlowId.{FlowId}
use Rattle.tas_model.specs.declared.entry.Reply.{Reply}
use Rattle.flow_state.specs.declared.call.CallIn.{CallIn}
use Rattle.host_rounds.specs.Hosts as hosts
use Rattle.host_rounds.specs.Hosts.{Holder}
use Rattle.flow_lock.specs.Orders.{same_flow}
use Rattle.flow_lock.specs.Passes.{Seen, with_baton, without_baton}
use Rattle.app_reaper.specs.declared.one_call.CallFault.{CallFault}
use Rattle.slow_worker.specs.Workers.{Worker}
use Rattle.libtas_sockets.specs.Accepting.{after_accept}
use Rattle.libtas_sockets.specs.Apps.{Application, with_view}
use Rattle.libtas_sockets.specs.Calling.{HasCalled}
use Rattle.libtas_sockets.specs.declared.socket.Socket.{Socket}
use Rattle.libtas_sockets.specs.declared.socket_error.SocketError.{SocketError}
use Rattle.host_books.specs.Books.{Book}
use Rattle.sound_hosts.specs.Hosts.{CoreHost}
use Rattle.sound_hosts.specs.Leaving.{books_left, reheld}

-- The slow path hands the baton to the application.
abbrev pub handing : Worker → Worker
handing w = record w { pass = record (w.pass) { view = without_baton w.pass.view } }

abbrev pub handed : Worker → Application → Application
handed w a = with_view (with_baton a.pass.view w.pass.view) a

-- The host, were the baton given back now by this application, which stands between those.
abbrev pub given_back : (front : List Application) → Application → (back : List Application) → CoreHost → CoreHost
given_back front a back h = record h {
  slow = record (h.slow) {
    pass = record (h.slow.pass) { view = with_baton h.slow.pass.view a.pass.view };
  };
  apps = front ++ with_view (without_baton a.pass.view) a ∷ back;
}

-- with these books
abbrev pub with_books : List Book → CoreHost → CoreHost
with_books books h = record h { books = books }

-- a call on a socket was made or refused, whatever it tells of its reply
abbrev pub HasMade : (before after : Application) → Socket → (tick : ℕ) → CallIn → Option CallFault → Type 0
HasMade a b s tick call fault = HasCalled a b s tick call fault (λ (reply : Reply). ⊤)

-- The host without the application that stood between those, whose sockets are given up, and with this pass of its slow
-- path.
abbrev pub after_kill : (front : List Application) → Application → (back : List Application) → Seen
    → CoreHost → CoreHost
after_kill front a back pass h = record h {
  slow = record (h.slow) { pass = pass };
  apps = front ++ back;
  books = books_left a.number a.sockets h.books;
}

-- ----- accepts
-- the flow is this application's
abbrev pub accepted_by : (app : ℕ) → FlowId → Book → Holder
accepted_by app id b = cond (same_flow b.id id) (hosts.Application app) b.holder

-- where it was accepted
abbrev pub books_accepted : {E : Type 0} → (app : ℕ) → FlowId → Result Socket E → List Book → List Book
books_accepted app id (Ok s) books = map (reheld (accepted_by app id)) books
books_accepted app id (Err e) books = books

-- the host with these books, and without a flow in the lists of openings where that was accepted or found closed
abbrev pub after_accepting : (app : ℕ) → FlowId → Result Socket SocketError → CoreHost → CoreHost
after_accepting app id result h = record h {
  slow = record (h.slow) { path = after_accept id result h.slow.path };
  books = books_accepted app id result h.books;
}

-- ----- listeners
-- the host with a listener more
abbrev pub listening : (app port : ℕ) → CoreHost → CoreHost
listening app port h = record h {
  slow = record (h.slow) {
    path = record (h.slow.path) { listeners = h.slow.path.listeners ++ record { port = port; app = app } ∷ [] };
  };
}
