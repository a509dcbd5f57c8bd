-- What each record of a capture is for the one host that the replay plays: a frame that comes to it, a segment that it
-- sent itself, or nothing.
use Rattle.std.specs.Prelude.{ℕ, ◌==◌, ◌||◌, not, Bool, true, false, List, filter_map, Option, Some, None}
use Rattle.std.specs.Prelude.{if◌then◌else◌}
use Rattle.tas_num.specs.Captures.{Form, Record, packet_of}
use Rattle.segment_fields.specs.Fields.{Fields}
use Rattle.segment_fields.specs.Refusals.{number_of}
use Rattle.segment_fields.specs.Text.{refusal, fields_in}
use Rattle.tas_model.specs.declared.entry.FourTuple.{FourTuple}
use Rattle.tas_model.specs.declared.entry.Seg.{Seg}

-- What a packet is: one that breaks a rule of reading, whose number stands here; a segment that another host sent; or a
-- segment that this host sent.
-- A segment bears the four-tuple that it has as this host sees it.
pub data Content : Type 0 where
  Damaged : (rule : ℕ) → Content
  Remote : FourTuple → Seg → Content
  Local : FourTuple → Seg → Content

-- A record that is not passed over, by its number in the capture, which counts from 1.
pub record Item : Type 0 where
  pub number : ℕ
  pub content : Content

-- ----- the fields of a packet
-- the segment of a packet's fields, its addresses and ports apart
abbrev pub segment_of : Fields → Seg
segment_of f = record {
  head = record {
    flags = f.flags;
    seq = record { 0 = f.seq };
    ack = record { 0 = f.ack };
    window = f.window;
    mss = f.mss;
    scale = f.scale;
  };
  bytes = f.payload;
}

-- the four-tuple of a packet as its sender sees it, and as the host sees it that it goes to
abbrev pub sender_tuple : Fields → FourTuple
sender_tuple f = record { laddr = f.src; lport = f.sport; raddr = f.dst; rport = f.dport }

abbrev pub receiver_tuple : Fields → FourTuple
receiver_tuple f = record { laddr = f.dst; lport = f.dport; raddr = f.src; rport = f.sport }

-- ----- one packet
-- Not IPv4, a fragment, or not TCP: such packets are passed over.
abbrev pub is_other_traffic : (rule : ℕ) → Bool
is_other_traffic rule = rule == 2 || rule == 5 || rule == 6

-- A packet on its way to the host, read with its checksums unless they are `loose`.
abbrev pub due_content : (loose : Bool) → List ℕ → Content
due_content loose b =
    elim (refusal (not loose) b) [
      | Some rule ↦ Damaged (number_of rule)
      | None ↦ Remote (receiver_tuple (fields_in b))
          (segment_of (fields_in b))
    ]

-- The packet is first read without its checksums. Other traffic is passed over, and so is a segment with neither
-- address local. What the host sent itself is taken as it is,
-- also where both addresses are local. All else comes to the host: a packet that breaks a rule of reading is refused
-- there, whatever its addresses.
abbrev pub content_of_packet : (local : ℕ) (loose : Bool) → List ℕ → Option Content
content_of_packet local loose b =
    elim (refusal false b) [
      | Some rule ↦ if is_other_traffic (number_of rule) then None else Some (due_content loose b)
      | None ↦
          if (fields_in b).src == local then Some (Local (sender_tuple (fields_in b)) (segment_of (fields_in b)))
          else if (fields_in b).dst == local then Some (due_content loose b)
          else None
    ]

-- ----- the records
-- A record that is not whole, or is no IPv4 packet, is passed over.
abbrev pub item_of : Form → (local : ℕ) (loose : Bool) → Record → Option Item
item_of form local loose r =
    elim (packet_of form r) [
      | None ↦ None
      | Some b ↦ elim (content_of_packet local loose b) [
        | None ↦ None
        | Some content ↦ Some
            (record { number = r.number; content = content })
      ]
    ]

-- The records that are not passed over, in the order of the capture.
unfoldable pub items_of : Form → (local : ℕ) (loose : Bool) → List Record → List Item
items_of form local loose records = filter_map (item_of form local loose) records

-- ----- tests
abbrev pub is_damaged : Item → Bool
is_damaged x = elim x.content [ Damaged rule ↦ true | _ ↦ false ]

abbrev pub is_remote : Content → Bool
is_remote (Remote tuple seg) = true
is_remote _ = false
