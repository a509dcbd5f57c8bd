-- What a caller may do next, by its pass.
use Rattle.std.specs.Prelude.{◌≡◌, Bool, true, false, [], ◌∷◌}
use mathlib.Core.Option as O
use lib.ListN.{get_elem?}
use Rattle.atomic_table.specs.Seated.{TableId}
use Rattle.tas_model.specs.declared.entry.FlowId.{FlowId}
use Rattle.flow_lock.specs.Claims.{HasPin}
use Rattle.flow_lock.specs.Steps.{HasTurn, mark}
use Rattle.flow_lock.specs.Passes.{Seen}
use Rattle.flow_lock.specs.declared.view.History.{History}

-- a pass of the table, other than the slow path's, with a turn
abbrev pub IsTurned : TableId → Seen → Type 0
IsTurned t s = (s.table ≡ t) × HasTurn s.view × (s.view.slow ≡ false) × (s.view.baton ≡ false)

-- it has no pin and holds nothing
abbrev pub IsGuest : TableId → Seen → Type 0
IsGuest t s = IsTurned t s × (s.view.pins ≡ []) × (s.view.held ≡ [])

-- it has one pin, and holds nothing
abbrev pub IsUser : TableId → FlowId → Seen → Type 0
IsUser t f s = IsTurned t s × (s.view.pins ≡ f ∷ []) × (s.view.held ≡ [])

-- it has one pin, and holds the record with this history
abbrev pub IsHolder : TableId → FlowId → History → Seen → Type 0
IsHolder t f h s = IsTurned t s × (s.view.pins ≡ f ∷ []) × (s.view.held ≡ record { flow = f; history = h } ∷ [])

-- the slow path's pass, with a turn; it holds nothing
abbrev pub IsKeeper : TableId → Seen → Type 0
IsKeeper t s = (s.table ≡ t) × HasTurn s.view × (s.view.held ≡ [])

-- it has a pin of the flow, whose slot is live
abbrev pub IsOwner : FlowId → Seen → Type 0
IsOwner f s = HasPin s.view f
    × ((doomed : Bool) × (get_elem? s.view.marks f.slot ≡ O.some (mark f.generation true doomed)))
