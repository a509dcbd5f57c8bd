-- A host whose flows stand in a table that cores and applications share, seen as a host in the middle of a run: the
-- histories are those that are known at the barrier, and a book says of each flow what is not in its record.
use Rattle.std.specs.Prelude.{◌≡◌, ℕ, zero, suc, Bool, true, false, List, [], ◌∷◌, map}
use Rattle.tas_model.specs.declared.entry.FlowId.{FlowId}
use Rattle.tas_model.specs.declared.entry.HostParams.{HostParams}
use Rattle.host_rounds.specs.declared.log.LogLine.{LogLine}
use Rattle.host_rounds.specs.Lists.{Each}
use Rattle.host_rounds.specs.Hosts.{Live, Host, Holder, Listener}
use Rattle.host_rounds.specs.Scripts.{Site}
use Rattle.flow_lock.specs.Orders.{known_of, same_flow}
use Rattle.flow_lock.specs.declared.view.Held.{Held}
use Rattle.flow_lock.specs.declared.view.History.{History}

-- ----- the host
-- Of a flow: its name, whether the index leads to it, who has its socket, and whether its record was filed.
pub record Book : Type 0 where
  pub id : FlowId
  pub indexed : Bool
  pub holder : Holder
  pub filed : Bool

-- What a host has besides its histories. The books stand in the order of the openings.
pub record Setting : Type 0 where
  pub params : HostParams
  pub listeners : List Listener
  pub log : List LogLine
  pub books : List Book

abbrev pub live_as : Book → History → Live
live_as b h = record {
  flow = record { id = b.id; tuple = h.tuple; params = h.params; entries = h.entries };
  indexed = b.indexed;
  holder = b.holder;
  filed = b.filed;
}

abbrev pub live_in : List Held → Book → Live
live_in known b = live_as b (known_of b.id known)

-- The host. `known` has the histories of all flows that were ever opened.
abbrev pub host_of : Setting → List Held → Host
host_of s known =
    record { params = s.params; listeners = s.listeners; log = s.log; flows = map (live_in known) s.books }

-- with how far its scripts are
abbrev pub site_of : {S : Type 0} → Setting → List Held → S → Site S
site_of s known scripts = record { host = host_of s known; scripts = scripts }

-- ----- places
-- the flow stands at this place, and nowhere else
abbrev pub IsAt : (place : ℕ) → FlowId → List Book → Type 0
IsAt n id [] = ⊥
IsAt zero id (b ∷ bs) = (b.id ≡ id) × Each (λ (c : Book). same_flow id c.id ≡ false) bs
IsAt (suc n) id (b ∷ bs) = (same_flow id b.id ≡ false) × IsAt n id bs

-- the first that passes the test stands at this place
abbrev pub IsFirstAt : {X : Type 0} → (X → Bool) → (place : ℕ) → List X → Type 0
IsFirstAt test n [] = ⊥
IsFirstAt test zero (x ∷ xs) = test x ≡ true
IsFirstAt test (suc n) (x ∷ xs) = (test x ≡ false) × IsFirstAt test n xs
