-- What contracts see of a list that may be given room in advance, and of one of pins.
use Rattle.std.specs.Prelude.{◌≡◌, ℕ, ◌+◌, ◌==◌, ◌≤◌, Bool, List, length, map}
use Rattle.tas_model.specs.declared.entry.FlowId.{FlowId}

-- a list, and how many more it can take without memory
pub record Roomy (A : Type 0) : Type 0 where
  pub list : List A
  pub spare : ℕ

-- a pin on this slot
abbrev pub is_on : (slot : ℕ) → FlowId → Bool
is_on slot f = f.slot == slot

abbrev pub slot_of : FlowId → ℕ
slot_of f = f.slot

-- The numbers are the slots of the pins, and the list of pins has the room that the numbers have.
pub record HasSlots (pins : List FlowId) (capacity : ℕ) (slots : Roomy ℕ) : Type 0 where
  pub slots_are : slots.list ≡ map slot_of pins
  pub room : length pins + slots.spare ≤ capacity
