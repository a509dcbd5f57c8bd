-- Passes and applications between their turns.
use Rattle.std.specs.Prelude.{◌≡◌, ℕ, true, false, List, [], ◌∷◌, map}
use Rattle.atomic_table.specs.Seated.{TableId}
use Rattle.tas_model.specs.declared.entry.FlowId.{FlowId}
use Rattle.flow_lock.specs.Claims.{HasPin}
use Rattle.flow_lock.specs.Passes.{Seen, first, right}
use Rattle.flow_lock.specs.Steps.{IsAlone}
use Rattle.flow_lock.specs.declared.view.Turn.{Turn}
use Rattle.flow_lock.specs.declared.view.View.{View}
use Rattle.libtas_sockets.specs.Apps.{Application, IsSocket}
use Rattle.libtas_sockets.specs.declared.socket.Socket.{Socket}

-- ----- turns by their names
abbrev pub turns_of : View → List ℕ
turns_of v = map (λ (t : Turn). t.name) v.turns

-- The slow path's pass, with the first of the two turns that were made, the baton, and the pin of the flow on this
-- list. It holds nothing.
pub record HasFirstTurn (t : TableId) (pins : List FlowId) (s : Seen) : Type 0 where
  pub table : s.table ≡ t
  pub turns : turns_of s.view ≡ 0 ∷ []
  pub baton : s.view.baton ≡ true
  pub made : s.view.made ≡ 2
  pub held : s.view.held ≡ []
  pub parts : s.view.parts ≡ 4096
  pub pin : (id : FlowId) × (pins ≡ id ∷ []) × HasPin s.view id

-- an application that did nothing yet, with the second turn
pub record IsNewApp (t : TableId) (a : Application) : Type 0 where
  pub table : a.pass.table ≡ t
  pub view : a.pass.view ≡ right (first 2)
  pub begun : a.begun ≡ []
  pub sockets : a.sockets ≡ []

-- the application, with the second of them and this socket
pub record HasSecondTurn (t : TableId) (socket : Socket) (a : Application) : Type 0 where
  pub table : a.pass.table ≡ t
  pub turns : turns_of a.pass.view ≡ 1 ∷ []
  pub plain : (a.pass.view.slow ≡ false) × (a.pass.view.baton ≡ false)
  pub socket_is : IsSocket a socket

-- ----- nobody has a turn
-- the slow path's pass, with this pin; it holds nothing
pub record IsRested (t : TableId) (id : FlowId) (s : Seen) : Type 0 where
  pub table : s.table ≡ t
  pub alone : IsAlone s.view
  pub held : s.view.held ≡ []
  pub pin : HasPin s.view id

-- the application, with this socket
pub record IsSettled (t : TableId) (socket : Socket) (a : Application) : Type 0 where
  pub table : a.pass.table ≡ t
  pub turns : a.pass.view.turns ≡ []
  pub plain : (a.pass.view.slow ≡ false) × (a.pass.view.baton ≡ false)
  pub socket_is : IsSocket a socket

-- a pass that has nothing
pub record IsOff (t : TableId) (s : Seen) : Type 0 where
  pub table : s.table ≡ t
  pub turns : s.view.turns ≡ []
  pub plain : (s.view.slow ≡ false) × (s.view.baton ≡ false)
  pub pins : s.view.pins ≡ []
  pub held : s.view.held ≡ []
