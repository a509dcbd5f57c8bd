-- A segment of the code and the fields of a packet.
use Rattle.std.proofs.Common.{◌≡◌, ℕ, List}
use Rattle.segment_fields.specs.declared.segment.Segment.{Segment}
use Rattle.segment_fields.specs.Fields.{Fields, fields_of}
use Rattle.segment_fields.specs.Text.{IsText, fields_in}

-- a segment that was read has the fields that the packet spells
pub text_fields : (b : List ℕ) (s : Segment) → IsText b s → ◌≡◌ {A = Fields} (fields_of s) (fields_in b)
text_fields b s t = cc (t.src, t.dst, t.sport, t.dport, t.seq, t.ack, t.flags, t.window, t.mss, t.scale, t.payload)
