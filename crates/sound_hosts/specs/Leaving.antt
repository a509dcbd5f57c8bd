-- Sockets that applications give up.
use Rattle.std.specs.Prelude.{◌≡◌, ℕ, ◌&&◌, Bool, true, cond, List, [], ◌∷◌, map, ⊤}
use Rattle.std.specs.List.{list_any}
use Rattle.tas_model.specs.declared.entry.FlowId.{FlowId}
use Rattle.host_rounds.specs.Hosts.{Holder, GivenUp}
use Rattle.flow_lock.specs.Orders.{same_flow}
use Rattle.flow_lock.specs.Steps.{without}
use Rattle.libtas_sockets.specs.Apps.{Application}
use Rattle.host_books.specs.Books.{Book}
use Rattle.sound_hosts.specs.Hosts.{is_held_of}

-- the book with another holder
abbrev pub reheld : (Book → Holder) → Book → Book
reheld holder b = record b { holder = holder b }

-- the application has this flow
abbrev pub has_flow : (app : ℕ) → FlowId → Book → Bool
has_flow app id b = is_held_of app b && same_flow b.id id

-- and then nobody any more
abbrev pub left_by : (app : ℕ) → FlowId → Book → Holder
left_by app id b = cond (has_flow app id b) GivenUp b.holder

-- all books, after the application gave up the sockets of these flows
abbrev pub books_left : (app : ℕ) → List FlowId → List Book → List Book
books_left app [] books = books
books_left app (id ∷ ids) books = books_left app ids (map (reheld (left_by app id)) books)

-- the sockets that it has then
abbrev pub sockets_left : List FlowId → List FlowId → List FlowId
sockets_left [] sockets = sockets
sockets_left (id ∷ ids) sockets = sockets_left ids (without id.slot sockets)

-- each of these flows has a socket when its turn comes
abbrev pub AreSockets : List FlowId → (sockets : List FlowId) → Type 0
AreSockets [] sockets = ⊤
AreSockets (id ∷ ids) sockets =
    (list_any (λ (f : FlowId). same_flow f id) sockets ≡ true) × AreSockets ids (without id.slot sockets)

-- The application gave up the sockets of these flows, and has no turn.
pub record HasLeft (ids : List FlowId) (a b : Application) : Type 0 where
  pub number : b.number ≡ a.number
  pub own : b.pass.table ≡ a.pass.table
  pub turns : b.pass.view.turns ≡ []
  pub begun : b.begun ≡ a.begun
  pub sockets : b.sockets ≡ sockets_left ids a.sockets
  pub had : AreSockets ids a.sockets
