-- What an application may do next.
use Rattle.std.specs.Prelude.{◌≡◌, ℕ, ◌<◌, true, false, List, [], ◌∷◌, map}
use Rattle.atomic_table.specs.Seated.{TableId}
use Rattle.flow_lock.specs.Callers.{IsTurned, IsUser, IsKeeper}
use Rattle.flow_lock.specs.Passes.{Seen}
use Rattle.flow_lock.specs.Steps.{IsAlone}
use Rattle.flow_lock.specs.declared.view.Turn.{Turn}
use Rattle.flow_lock.specs.declared.view.View.{View}
use Rattle.tas_model.specs.declared.entry.FlowId.{FlowId}
use Rattle.libtas_sockets.specs.Apps.{Application, IsSocket}
use Rattle.libtas_sockets.specs.declared.socket.Socket.{Socket}

-- it has a turn, and no flow that it opened waits for its pin
abbrev pub IsGoing : TableId → Application → Type 0
IsGoing t a = IsTurned t a.pass × (a.begun ≡ [])

-- it has a turn, and this socket
abbrev pub HasOpened : TableId → Socket → Application → Type 0
HasOpened t s a = IsTurned t a.pass × IsSocket a s

-- a pass of the table that holds nothing
abbrev pub IsIdle : TableId → Seen → Type 0
IsIdle t s = (s.table ≡ t) × (s.view.held ≡ [])

-- the slow path's pass of a table of two slots, before a flow was opened; it can be split
pub record IsFresh (t : TableId) (s : Seen) : Type 0 where
  pub keeper : IsKeeper t s
  pub baton : s.view.baton ≡ true
  pub parts : 4000 < s.view.parts
  pub slots : t.slots ≡ 2
  pub unopened : s.view.opened ≡ 0

-- a pass that has pinned this flow of the table
abbrev pub MayAsk : TableId → FlowId → Seen → Type 0
MayAsk t f s = IsUser t f s × (f.slot < t.slots)

-- ----- turns by their names
abbrev pub turns_of : View → List ℕ
turns_of v = map (λ (t : Turn). t.name) v.turns

-- the slow path's pass, with the first of the two turns that were made, and the baton; it holds nothing
pub record HasFirstTurn (t : TableId) (s : Seen) : Type 0 where
  pub table : s.table ≡ t
  pub turns : turns_of s.view ≡ 0 ∷ []
  pub baton : s.view.baton ≡ true
  pub made : s.view.made ≡ 2
  pub held : s.view.held ≡ []

-- another pass, with the second of them
pub record HasSecondTurn (t : TableId) (s : Seen) : Type 0 where
  pub table : s.table ≡ t
  pub turns : turns_of s.view ≡ 1 ∷ []
  pub plain : (s.view.slow ≡ false) × (s.view.baton ≡ false)

-- ----- where nobody has a turn
-- the slow path's pass, which is alone; it holds nothing
pub record HasAllAlone (t : TableId) (s : Seen) : Type 0 where
  pub table : s.table ≡ t
  pub alone : IsAlone s.view
  pub held : s.view.held ≡ []

-- another pass, with no turn
pub record HasNoTurn (t : TableId) (s : Seen) : Type 0 where
  pub table : s.table ≡ t
  pub turns : s.view.turns ≡ []
  pub plain : (s.view.slow ≡ false) × (s.view.baton ≡ false)
