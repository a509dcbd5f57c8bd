-- Which core a frame goes to.
use Rattle.std.specs.Prelude.{◌≡◌, ℕ, false, List, Option, Some, None}
use Rattle.segment_fields.specs.declared.segment.Segment.{Segment}
use Rattle.segment_fields.specs.declared.segment.Refused.{Refused}
use Rattle.segment_fields.specs.Text.{IsText, refusal}
use Rattle.steering.specs.Tables.{Table, IsCoreIn, group_of}
use Rattle.core_worker.specs.Frames.{tuple_of}

-- the group of the segment that the packet spells, or 0 where it breaks a rule of reading
abbrev pub IsGroupBy : Option Refused → (packet : List ℕ) → (group : ℕ) → Type 0
IsGroupBy None packet group = (seg : Segment) × IsText packet seg × (group ≡ group_of (tuple_of seg))
IsGroupBy (Some r) packet group = group ≡ 0

abbrev pub IsGroupFor : (packet : List ℕ) → (group : ℕ) → Type 0
IsGroupFor packet = IsGroupBy (refusal false packet) packet

-- the core of that group, as the last of these tables of steering has it
abbrev pub IsCoreFor : (packet : List ℕ) → List Table → (core : ℕ) → Type 0
IsCoreFor packet tables core = (group : ℕ) × IsGroupFor packet group × IsCoreIn tables group core
