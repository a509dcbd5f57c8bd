-- Sockets that the names of scripts stand for, by the books of their host.
use Rattle.std.specs.Prelude.{◌≡◌, ℕ, ◌<◌, false, List, slice_get, Option, Some, None, ⊤}
use Rattle.host_rounds.specs.Hosts.{Holder, Waiting, Application}
use Rattle.host_rounds.specs.Lists.{Each}
use Rattle.flow_lock.specs.Orders.{same_flow}
use Rattle.host_books.specs.Books.{Book}
use Rattle.host_books.specs.Words.{ArePairs}
use Rattle.scenario_runs.specs.Applications.{Bound, AListener, ASocket, Script}
use Rattle.scenario_laws.specs.Names.{AreApart}

-- ----- one script
abbrev pub holder_by : Option Book → Holder
holder_by None = Waiting
holder_by (Some b) = b.holder

-- who has the socket of the flow at this place
abbrev pub holder_in : List Book → (place : ℕ) → Holder
holder_in books k = holder_by (slice_get books k)

-- a socket is the application's
abbrev pub IsHeldIn : List Book → (number : ℕ) → Bound → Type 0
IsHeldIn books n (AListener port) = ⊤
IsHeldIn books n (ASocket k) = holder_in books k ≡ Application n

-- Each socket that these names stand for is the application's, and no two are one.
pub record AreOwnIn (books : List Book) (n : ℕ) (names : List (List ℕ × Bound)) : Type 0 where
  pub held : Each (λ (b : List ℕ × Bound). IsHeldIn books n b.1) names
  pub apart : AreApart names

-- ----- all scripts of a host
-- applications are numbered upward
abbrev pub AreRising : List Script → Type 0
AreRising scripts = ArePairs (λ (s later : Script). s.number < later.number) scripts

-- no two books are of one flow
abbrev pub AreOfDifferentFlows : List Book → Type 0
AreOfDifferentFlows books = ArePairs (λ (b c : Book). same_flow b.id c.id ≡ false) books

-- The names of each script stand for sockets of its own application.
pub record HaveOwnSockets (books : List Book) (scripts : List Script) : Type 0 where
  pub rising : AreRising scripts
  pub flows : AreOfDifferentFlows books
  pub own : Each (λ (s : Script). AreOwnIn books s.number s.names) scripts
