-- What holds of a host between ticks: its books agree with what the slow path, the applications, the index and the
-- slots of the table have of each flow.
use Rattle.std.specs.Prelude.{◌≡◌, ℕ, ◌+◌, ◌<◌, ◌≤◌, ◌==◌, not, true, false, List, [], map, count_by, length, slice_get}
use Rattle.std.specs.Prelude.{Some}
use Rattle.std.specs.Prelude.{IsPermutation}
use Rattle.std.specs.List.{list_any, filter}
use Rattle.atomic_table.specs.Seated.{TableId}
use Rattle.tas_model.specs.declared.entry.FourTuple.{FourTuple}
use Rattle.host_rounds.specs.Lists.{Each}
use Rattle.host_rounds.specs.Hosts.{is_indexed_as, is_held_by}
use Rattle.flow_state.specs.Flow.{Flow}
use Rattle.flow_index.specs.Changes.{Writing, found_after}
use Rattle.flow_index.specs.declared.change.Change.{Change}
use Rattle.flow_index.specs.declared.change.Found.TheVariants as found
use Rattle.flow_lock.specs.Steps.{IsAlone, mark, mark_at}
use Rattle.flow_lock.specs.Words.{word_at}
use Rattle.flow_lock.specs.declared.view.Held.{Held}
use Rattle.flow_lock.specs.declared.view.Mark.{Mark}
use Rattle.flow_lock.specs.declared.view.View.{View}
use Rattle.slow_handshake.specs.Openings.{Openings, first_port}
use Rattle.slow_handshake.specs.declared.openings.Listener.{Listener}
use Rattle.slow_worker.specs.Workers as slow
use Rattle.slow_worker.specs.Workers.{waiting}
use Rattle.libtas_sockets.specs.Apps as libtas
use Rattle.host_books.specs.Books.{Book, live_in}
use Rattle.host_books.specs.Indexes.{AreIndexed}
use Rattle.sound_hosts.specs.Hosts.{CoreHost, known_in, id_of, is_indexed, is_doomed, is_filed, is_of_slot, stands_in}
use Rattle.sound_hosts.specs.Hosts.{is_doomed_in, is_held_of, tuple_of, has_given_port, word_of, flows_in, waiting_in}
use Rattle.sound_hosts.specs.Hosts.{AreNumbered}

-- ----- the table
-- The slow path's mark of a slot: how many flows it had, whether one stands there, and whether that was found closed.
pub record IsMarked (books : List Book) (slot : ℕ) (m : Mark) : Type 0 where
  pub generation : m.generation ≡ count_by (is_of_slot slot) books
  pub live : m.live ≡ list_any (stands_in slot) books
  pub doomed : m.doomed ≡ list_any (is_doomed_in slot) books

-- the word of a flow's slot
abbrev pub IsWorded : View → Book → Type 0
IsWorded v b = b.filed ≡ false → word_at v.words b.id.slot ≡ word_of b

-- By its mark the slot of a flow whose record stands has it, doomed where the index doesn't lead to it.
abbrev pub IsMarkedAs : List Mark → Book → Type 0
IsMarkedAs ms b = b.filed ≡ false → mark_at ms b.id.slot ≡ mark b.id.generation true (not b.indexed)

-- the marks and words of all slots
pub record AreSlots (books : List Book) (v : View) : Type 0 where
  pub marks : (slot : ℕ) (m : Mark) → slice_get v.marks slot ≡ Some m → IsMarked books slot m
  pub words : Each (IsWorded v) books

-- ----- the slow path
-- Its lists of flows: those of the index, in the order of their opening, those found closed, and those whose record was
-- filed.
pub record AreKept (books : List Book) (known : List Held) (w : slow.Worker) : Type 0 where
  pub flows : w.flows ≡ flows_in known books
  pub pins : w.pins ≡ map id_of (filter is_indexed books)
  pub doomed : IsPermutation w.doomed (map id_of (filter is_doomed books))
  pub filed : IsPermutation (map (λ (r : Flow). r.id) w.filed) (map id_of (filter is_filed books))

-- the flow's port is below the next one that is given to a connect
abbrev pub IsBelowNext : List Held → (ports : ℕ) → Book → Type 0
IsBelowNext known ports b = (tuple_of known b).lport < first_port + ports

-- What is being opened: the flows that wait for Accept, and how many ports were given. But for a replay, nobody listens
-- on one of those (RFC 6335, section 6: the dynamic ports), and no flow has one that is still to be given.
pub record AreOpening (books : List Book) (known : List Held) (o : Openings) : Type 0 where
  pub flows : o.flows ≡ waiting_in known books
  pub ports : o.params.fixed ≡ false → o.ports ≡ count_by (has_given_port known) books
  pub listeners : o.params.fixed ≡ false → Each (λ (l : Listener). l.port < first_port) o.listeners
  pub given : o.params.fixed ≡ false → Each (IsBelowNext known o.ports) books

-- ----- the index
-- Its changes lead to the flows that it has, and to none else.
pub record AreShown (books : List Book) (known : List Held) (changes : List Change) : Type 0 where
  pub led : Each (λ (b : Book). b.indexed ≡ true → found_after (tuple_of known b) changes ≡ found.Flow b.id) books
  pub none : (t : FourTuple) → list_any (is_indexed_as t) (map (live_in known) books) ≡ false
      → found_after t changes ≡ found.Absent

-- all of them are published
pub record IsShown (books : List Book) (known : List Held) (index : Writing) : Type 0 where
  pub pending : index.pending ≡ []
  pub shown : AreShown books known index.published

-- ----- applications
-- An application has a socket of each flow that it holds, and no turn.
pub record IsApp (table : TableId) (books : List Book) (a : libtas.Application) : Type 0 where
  pub own : a.pass.table ≡ table
  pub turns : a.pass.view.turns ≡ []
  pub begun : a.begun ≡ []
  pub sockets : IsPermutation a.sockets (map id_of (filter (is_held_of a.number) books))

-- who holds a flow is an application, and the flow isn't filed
abbrev pub HasHolder : List libtas.Application → Book → Type 0
HasHolder xs b = is_held_by b.holder ≡ true
    → (list_any (λ (a : libtas.Application). is_held_of a.number b) xs ≡ true) × (b.filed ≡ false)

-- a flow whose record was filed isn't in the index
abbrev pub IsPlain : Book → Type 0
IsPlain b = b.filed ≡ true → b.indexed ≡ false

-- ----- between ticks
pub record IsHostSound (h : CoreHost) : Type 0 where
  -- nobody has a turn, the pass is the slow path's, and no frame waits
  pub alone : IsAlone h.slow.pass.view
  pub slow_pass : h.slow.pass.view.slow ≡ true
  pub waiting : waiting h.slow ≡ []
  -- the slow path's worker may work
  pub sound : slow.IsSound h.table (slow.sight_of h.slow)
  pub slots : h.slow.path.params.slots ≡ h.table.slots
  pub wide : (length h.slow.pass.view.marks ≡ h.table.slots) × (length h.slow.pass.view.words ≡ h.table.slots)
  -- the books agree with all that is known of the flows
  pub numbered : AreNumbered h.table.slots [] h.books
  pub plain : Each IsPlain h.books
  pub indexed : AreIndexed h.books (known_in h)
  pub table : AreSlots h.books h.slow.pass.view
  pub kept : AreKept h.books (known_in h) h.slow
  pub opening : AreOpening h.books (known_in h) h.slow.path
  pub shown : IsShown h.books (known_in h) h.slow.index
  -- and so do the applications
  pub apps : Each (IsApp h.table h.books) h.apps
  pub numbers : (n : ℕ) → count_by (λ (a : libtas.Application). a.number == n) h.apps ≤ 1
  pub holders : Each (HasHolder h.apps) h.books

-- ----- a new host
-- an application without sockets
pub record IsNewApp (table : TableId) (a : libtas.Application) : Type 0 where
  pub own : a.pass.table ≡ table
  pub turns : a.pass.view.turns ≡ []
  pub begun : a.begun ≡ []
  pub sockets : a.sockets ≡ []

-- the slow path and the applications of a host that opened no flow
pub record IsNewHost (table : TableId) (w : slow.Worker) (xs : List libtas.Application) : Type 0 where
  pub alone : IsAlone w.pass.view
  pub slow_pass : w.pass.view.slow ≡ true
  pub waits_not : waiting w ≡ []
  pub sound : slow.IsSound table (slow.sight_of w)
  pub slots : w.path.params.slots ≡ table.slots
  pub wide : (length w.pass.view.marks ≡ table.slots) × (length w.pass.view.words ≡ table.slots)
  pub base : w.pass.view.base ≡ []
  pub unmarked : (slot : ℕ) (m : Mark) → slice_get w.pass.view.marks slot ≡ Some m
      → m ≡ record { generation = 0; live = false; doomed = false }
  pub pins : w.pins ≡ []
  pub doomed : w.doomed ≡ []
  pub filed : w.filed ≡ []
  pub flows : w.flows ≡ []
  pub opening : w.path.flows ≡ []
  pub ports : w.path.ports ≡ 0
  pub listeners : w.path.listeners ≡ []
  pub pending : w.index.pending ≡ []
  pub published : w.index.published ≡ []
  pub new_apps : Each (IsNewApp table) xs
  pub numbers : (n : ℕ) → count_by (λ (a : libtas.Application). a.number == n) xs ≤ 1

abbrev pub without_flows : TableId → slow.Worker → List libtas.Application → CoreHost
without_flows table w xs = record { table = table; slow = w; apps = xs; books = [] }
