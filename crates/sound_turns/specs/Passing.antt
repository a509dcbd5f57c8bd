-- The time of a tick on a host: what becomes of its books, and what holds of them while some flows have had their time
-- and others not.
use Rattle.std.specs.Prelude.{◌≡◌, ◌++◌, not, true, false, List, [], ◌∷◌, map, length, IsPermutation, ◌⊎◌}
use Rattle.std.specs.List.{filter}
use Rattle.tas_model.specs.declared.entry.FlowId.{FlowId}
use Rattle.flow_state.specs.Flow.{Flow}
use Rattle.host_rounds.specs.Hosts.{is_held_by}
use Rattle.host_rounds.specs.Lists.{Each}
use Rattle.flow_lock.specs.Orders.{known_of}
use Rattle.flow_lock.specs.Steps.{IsAlone}
use Rattle.flow_lock.specs.declared.view.View.{View}
use Rattle.flow_clock.specs.Ledgers.{Ledger}
use Rattle.slow_worker.specs.Workers.{Worker}
use Rattle.host_books.specs.Books.{Book}
use Rattle.host_books.specs.Indexes.{AreIndexed}
use Rattle.sound_hosts.specs.Hosts.{CoreHost, known_in, id_of, is_indexed, is_doomed, is_filed, waiting_in, AreNumbered}
use Rattle.sound_hosts.specs.Sound.{AreSlots, AreShown, IsApp, HasHolder, IsPlain, IsMarkedAs}

-- ----- books
-- A closed flow that was swept: it left the index, and its record was filed unless an application has its socket.
abbrev pub swept_book : Book → Book
swept_book b = record b { indexed = false; filed = not (is_held_by b.holder) }

-- each book is as it was, or its flow was swept
abbrev pub AreSwept : (before after : List Book) → Type 0
AreSwept [] cs = cs ≡ []
AreSwept (b ∷ bs) [] = ⊥
AreSwept (b ∷ bs) (c ∷ cs) = ((c ≡ b) ⊎ ((b.filed ≡ false) × (c ≡ swept_book b))) × AreSwept bs cs

-- the host with these books, and this worker of its slow path
abbrev pub with_books : List Book → Worker → CoreHost → CoreHost
with_books books w h = record h { slow = w; books = books }

-- ----- while time passes
-- What the table, the histories and the applications have of the books.
pub record AreTabled (h : CoreHost) (books : List Book) (v : View) : Type 0 where
  pub alone : IsAlone v
  pub slow_pass : v.slow ≡ true
  pub wide : (length v.marks ≡ h.table.slots) × (length v.words ≡ h.table.slots)
  pub tuples : (f : FlowId) → (known_of f v.base).tuple ≡ (known_of f (known_in h)).tuple
  pub swept : AreSwept h.books books
  pub numbered : AreNumbered h.table.slots [] books
  pub plain : Each IsPlain books
  pub indexed : AreIndexed books v.base
  pub slots : AreSlots books v
  pub marked : Each (IsMarkedAs v.marks) books
  pub apps : Each (IsApp h.table books) h.apps
  pub holders : Each (HasHolder h.apps) books

-- And what the slow path's ledger has of them. The doomed flows that are still to be tried stand before its own, those
-- that are still to have their time behind its pins, and its changes of the index aren't published.
pub record IsPassing (h : CoreHost) (books : List Book) (tried left : List FlowId) (l : Ledger) : Type 0 where
  pub tabled : AreTabled h books l.view
  pub pins : l.pins ++ left ≡ map id_of (filter is_indexed books)
  pub doomed : IsPermutation (tried ++ l.doomed) (map id_of (filter is_doomed books))
  pub filed : IsPermutation (map (λ (r : Flow). r.id) l.filed) (map id_of (filter is_filed books))
  pub waiting : l.path.flows ≡ waiting_in l.view.base books
  pub path : l.path ≡ record (h.slow.path) { flows = l.path.flows }
  pub shown : AreShown books l.view.base (h.slow.index.published ++ l.changes)
