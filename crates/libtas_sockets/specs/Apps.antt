-- What contracts see of an application, and of its sockets.
use Rattle.std.specs.Prelude.{◌≡◌, ℕ, ◌<◌, cond, true, ◌==◌, List, [], ◌∷◌, ◌++◌, All}
use Rattle.std.specs.List.{list_any}
use Rattle.tas_model.specs.declared.entry.FlowId.{FlowId}
use Rattle.context_queue.specs.Notes.{Receiver}
use Rattle.flow_lock.specs.Passes.{Seen}
use Rattle.flow_lock.specs.Steps.{without, unpinned}
use Rattle.flow_lock.specs.declared.view.View.{View}
use Rattle.app_reaper.specs.Lists.{is_on}
use Rattle.app_reaper.specs.Reaping.{ArePins}
use Rattle.libtas_sockets.specs.declared.begun.Begun.{Begun}
use Rattle.libtas_sockets.specs.declared.socket.Socket.{Socket}

pub record Application : Type 0 where
  pub number : ℕ
  pub pass : Seen
  pub notes : Receiver  -- the receiver of its own queue
  pub begun : List Begun  -- the flows that it opened and has no pin of, in the order of their opening
  pub sockets : List FlowId  -- the flow that each socket has pinned, the oldest first

-- ----- sockets
-- A socket is named by the slot of its flow: an application has at most one pin on a slot.
abbrev pub socket_on : FlowId → Socket
socket_on f = record { 0 = f.slot }

abbrev pub IsSocket : Application → Socket → Type 0
IsSocket a s = list_any (is_on s.0) a.sockets ≡ true

-- the flow of the socket on this slot
abbrev pub flow_on : List FlowId → (slot : ℕ) → FlowId
flow_on [] slot = record { slot = slot; generation = 0 }
flow_on (f ∷ fs) slot = cond (f.slot == slot) f (flow_on fs slot)

abbrev pub flow_of : Application → Socket → FlowId
flow_of a s = flow_on a.sockets s.0

-- ----- what changes
-- its pass has this view
abbrev pub with_view : View → Application → Application
with_view v a = record a { pass = record (a.pass) { view = v } }

-- it has a socket on this flow
abbrev pub with_socket : FlowId → Application → Application
with_socket f a = record a { sockets = a.sockets ++ f ∷ [] }

-- the socket's pin was given up
abbrev pub without_socket : Socket → Application → Application
without_socket s a =
    record (with_view (unpinned (flow_of a s) a.pass.view) a) { sockets = without s.0 a.sockets }

-- ----- between two calls
-- The pins of the pass are the sockets', each once, and the pass holds nothing.
pub record IsSound (s : Seen) (begun : List Begun) (sockets : List FlowId) : Type 0 where
  pub pins : ArePins s.table.slots s.view sockets
  pub idle : s.view.held ≡ []
  pub slots : All (λ (b : Begun). b.id.slot < s.table.slots) begun
