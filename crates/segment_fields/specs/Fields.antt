-- A TCP segment in an IPv4 packet, as the numbers that its headers hold and its payload (RFC 791, section 3.1; RFC
-- 9293, section 3.1).
use Rattle.std.specs.Prelude.{ℕ, List, Option}
use Rattle.segment_fields.specs.declared.segment.Segment.{Segment}

-- `flags` is the byte of control bits, `mss` the value of the option Maximum Segment Size, `scale` the shift of the
-- option Window Scale (RFC 7323, section 2.2), and the payload is a list of bytes.
pub record Fields : Type 0 where
  pub src : ℕ
  pub dst : ℕ
  pub sport : ℕ
  pub dport : ℕ
  pub seq : ℕ
  pub ack : ℕ
  pub flags : ℕ
  pub window : ℕ
  pub mss : Option ℕ
  pub scale : Option ℕ
  pub payload : List ℕ

-- the fields of a segment of the code
abbrev pub fields_of : Segment → Fields
fields_of s =
    record {
      src = s.src;
      dst = s.dst;
      sport = s.sport;
      dport = s.dport;
      seq = s.seq.0;
      ack = s.ack.0;
      flags = s.flags.0;
      window = s.window;
      mss = s.mss;
      scale = s.scale;
      payload = s.payload.now;
    }
