-- A host whose flows stand in a table that all its workers share, and what the table, the slow path and the
-- applications have of each of its books.
use Rattle.std.specs.Prelude.{◌≡◌, ℕ, ◌+◌, ◌<◌, ◌==◌, ◌&&◌, not, nat_le, Bool, true, false, cond, List, [], ◌∷◌, ◌++◌}
use Rattle.std.specs.Prelude.{map, count_by, ⊤}
use Rattle.atomic_table.specs.Seated.{TableId}
use Rattle.tas_model.specs.declared.entry.FlowId.{FlowId}
use Rattle.tas_model.specs.declared.entry.FourTuple.{FourTuple}
use Rattle.host_rounds.specs.Hosts as hosts
use Rattle.host_rounds.specs.Hosts.{Host, Holder, Application, is_held_by, is_waiting_by}
use Rattle.flow_lock.specs.Orders.{known_of}
use Rattle.flow_lock.specs.Words.{flag}
use Rattle.flow_lock.specs.declared.view.Held.{Held}
use Rattle.flow_lock.specs.declared.word.Word.{Word}
use Rattle.flow_clock.specs.Histories.{is_over, is_running}
use Rattle.slow_handshake.specs.Openings.{first_port}
use Rattle.slow_handshake.specs.declared.openings.Listener.{Listener}
use Rattle.slow_handshake.specs.declared.openings.PassiveFlow.{PassiveFlow}
use Rattle.slow_worker.specs.Workers.{Worker}
use Rattle.slow_worker.specs.declared.known.KnownFlow.{KnownFlow}
use Rattle.libtas_sockets.specs.Apps as libtas
use Rattle.host_books.specs.Books as books
use Rattle.host_books.specs.Books.{Book, Setting}

-- ----- a host
-- The table of its flows, the slow path's worker, the applications, and the books.
pub record CoreHost : Type 0 where
  pub table : TableId
  pub slow : Worker
  pub apps : List libtas.Application
  pub books : List Book

-- the histories that are known at the barrier
abbrev pub known_in : CoreHost → List Held
known_in h = h.slow.pass.view.base

abbrev pub listener_of : Listener → hosts.Listener
listener_of l = record { port = l.port; app = l.app }

abbrev pub setting_of : CoreHost → Setting
setting_of h = record {
  params = h.slow.path.params;
  listeners = map listener_of h.slow.path.listeners;
  log = h.slow.log;
  books = h.books;
}

-- as a run has it
abbrev pub host_of : CoreHost → Host
host_of h = books.host_of (setting_of h) (known_in h)

-- ----- one book
abbrev pub id_of : Book → FlowId
id_of b = b.id

abbrev pub is_indexed : Book → Bool
is_indexed b = b.indexed

-- it was found closed, and its record stands in its slot still
abbrev pub is_doomed : Book → Bool
is_doomed b = not b.indexed && not b.filed

abbrev pub is_filed : Book → Bool
is_filed b = b.filed

-- it is one of the slot's flows, and its record stands there
abbrev pub is_of_slot : (slot : ℕ) → Book → Bool
is_of_slot i b = b.id.slot == i

abbrev pub stands_in : (slot : ℕ) → Book → Bool
stands_in i b = not b.filed && b.id.slot == i

abbrev pub is_doomed_in : (slot : ℕ) → Book → Bool
is_doomed_in i b = is_doomed b && b.id.slot == i

abbrev pub is_holder : (app : ℕ) → Holder → Bool
is_holder app (Application n) = n == app
is_holder app holder = false

abbrev pub is_held_of : (app : ℕ) → Book → Bool
is_held_of app b = is_holder app b.holder

-- it is neither accepted nor closed
abbrev pub waits : List Held → Book → Bool
waits known b = is_waiting_by b.holder && not (is_over (known_of b.id known))

abbrev pub tuple_of : List Held → Book → FourTuple
tuple_of known b = (known_of b.id known).tuple

-- its port is one of those that are given to connects
abbrev pub has_given_port : List Held → Book → Bool
has_given_port known b = nat_le first_port (tuple_of known b).lport

abbrev pub known_flow : List Held → Book → KnownFlow
known_flow known b = record { tuple = tuple_of known b; id = b.id }

abbrev pub passive_flow : List Held → Book → PassiveFlow
passive_flow known b =
    record { id = b.id; port = (tuple_of known b).lport; ready = is_running (known_of b.id known) }

-- the word of its slot: it is pinned by the slow path, and by the application that has its socket
abbrev pub word_of : Book → Word
word_of b = record {
  generation = b.id.generation;
  pins = 1 + flag (is_held_by b.holder);
  live = true;
  doomed = not b.indexed;
  busy = false;
}

-- ----- all books
-- those that the index has, each under its four-tuple
abbrev pub flows_in : List Held → List Book → List KnownFlow
flows_in known [] = []
flows_in known (b ∷ bs) = cond b.indexed (known_flow known b ∷ flows_in known bs) (flows_in known bs)

-- those that wait for Accept
abbrev pub waiting_in : List Held → List Book → List PassiveFlow
waiting_in known [] = []
waiting_in known (b ∷ bs) = cond (waits known b) (passive_flow known b ∷ waiting_in known bs) (waiting_in known bs)

-- Each flow stands in a slot of the table, and is the next one of it after those before.
abbrev pub AreNumbered : (slots : ℕ) → (before books : List Book) → Type 0
AreNumbered slots before [] = ⊤
AreNumbered slots before (b ∷ bs) =
    (b.id.slot < slots)
    × (b.id.generation ≡ 1 + count_by (is_of_slot b.id.slot) before)
    × AreNumbered slots (before ++ b ∷ []) bs
