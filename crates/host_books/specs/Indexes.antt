-- The index of a host whose flows are shared: it leads to each flow that isn't closed.
use Rattle.std.specs.Prelude.{◌≡◌, ℕ, true, false, List, [], ◌∷◌, ⊤, ◌⊎◌}
use Rattle.tas_model.specs.declared.entry.FlowId.{FlowId}
use Rattle.tas_model.specs.Endpoint.{Endpoint, is_closed}
use Rattle.tas_model.specs.LegalHistory.{replay}
use Rattle.host_rounds.specs.Lists.{Each}
use Rattle.host_rounds.specs.Hosts.{is_indexed_as, is_over}
use Rattle.flow_lock.specs.Histories.{longer}
use Rattle.flow_lock.specs.Orders.{known_of}
use Rattle.flow_lock.specs.declared.view.Deed.{Deed}
use Rattle.flow_lock.specs.declared.view.Held.{Held}
use Rattle.flow_lock.specs.declared.view.History.{History}
use Rattle.host_books.specs.Books.{Book, live_in, IsAt}

-- the endpoint that a history leads to
abbrev pub endpoint_of : History → Endpoint
endpoint_of h = replay h.params h.entries

-- the index has a four-tuple of no two of these flows
abbrev pub AreOnce : List Held → List Book → Type 0
AreOnce known [] = ⊤
AreOnce known (b ∷ bs) =
    (b.indexed ≡ true
    → Each (λ (c : Book). is_indexed_as (live_in known b).flow.tuple (live_in known c) ≡ false) bs)
    × AreOnce known bs

-- where the index doesn't have it, it is closed
abbrev pub IsFindable : List Held → Book → Type 0
IsFindable known b = b.indexed ≡ false → is_over (live_in known b) ≡ true

-- The index has each flow that isn't closed, and of a four-tuple one flow at most. Each flow of which something is
-- known has its book.
pub record AreIndexed (books : List Book) (known : List Held) : Type 0 where
  pub running : Each (IsFindable known) books
  pub once : AreOnce known books
  pub all : (f : FlowId) → ((known_of f known).entries ≡ []) ⊎ ((place : ℕ) × IsAt place f books)

-- a closed flow is closed after the deed, too
abbrev pub KeepsClosed : Deed → Type 0
KeepsClosed d =
    is_closed (endpoint_of d.before) ≡ true → is_closed (endpoint_of (longer d.before (d.entry ∷ []))) ≡ true
