-- What the code's values stand for among the records of a capture.
use Rattle.std.specs.Prelude.{ℕ, nat_lt, Bool, List, [], ◌∷◌, Option, Some, None, Result, Ok, Err}
use Rattle.tas_num.specs.Captures.{Fault, Form, Record, records_from}
use Rattle.segment_fields.specs.Fields.{fields_of}
use Rattle.segment_fields.specs.Refusals.{number_of}
use Rattle.segment_fields.specs.declared.segment.Refused.{Refused}
use Rattle.segment_fields.specs.declared.segment.Refused.TheVariants.{IpSum}
use Rattle.segment_fields.specs.declared.segment.Segment.{Segment}
use Rattle.tas_model.specs.declared.entry.FourTuple.{FourTuple}
use Rattle.flow_state.specs.Calls.{seg_of}
use Rattle.tas_runs.specs.Records.{Content, Damaged, Remote, Local, Item, items_of, sender_tuple, receiver_tuple}
use Rattle.capture_items.specs.declared.item.Content as code
use Rattle.capture_items.specs.declared.item.Content.TheVariants as contents
use Rattle.capture_items.specs.declared.item.Item as code_item

-- a packet that breaks a rule by the rule's number, and a segment with its payload as a list
abbrev pub content_in : code.Content → Content
content_in (contents.Damaged rule) = Damaged (number_of rule)
content_in (contents.Remote tuple segment) = Remote tuple (seg_of segment)
content_in (contents.Local tuple segment) = Local tuple (seg_of segment)

abbrev pub item_in : code_item.Item → Item
item_in x = record { number = x.number; content = content_in x.content }

-- the four-tuple of a segment as its sender sees it, and as the host sees it that it goes to
abbrev pub sends : Segment → FourTuple
sends s = sender_tuple (fields_of s)

abbrev pub receives : Segment → FourTuple
receives s = receiver_tuple (fields_of s)

-- the rule is tried before any checksum is looked at
abbrev pub is_before_sums : Refused → Bool
is_before_sums rule = nat_lt (number_of rule) (number_of IpSum)

-- ----- the items that are left
-- the items of these records; none where the bytes are no capture
abbrev pub items_among : Form → (local : ℕ) → (loose : Bool) → Result (List Record) Fault → List Item
items_among form local loose (Ok records) = items_of form local loose records
items_among form local loose (Err fault) = []

-- the items of all records of the bytes left, of which the first has this number
abbrev pub items_from : Form → (local : ℕ) → (loose : Bool) → (number : ℕ) → List ℕ → List Item
items_from form local loose number b = items_among form local loose (records_from form number b)

-- an item that was read already, in front of those that are left
abbrev pub items_with : Option code_item.Item → List Item → List Item
items_with None items = items
items_with (Some x) items = item_in x ∷ items
