-- What the bytes of an IPv4 packet with a TCP segment say: an equation for each field, at its place in the bytes (RFC
-- 791, section 3.1; RFC 9293, section 3.1).
use Rattle.std.specs.Prelude.{◌≡◌, ℕ, ◌+◌, ◌*◌, ◌/◌, ◌%◌, ◌==◌, ◌&&◌, ◌||◌, not, Bool, List, length, slice_range, sum}
use Rattle.std.specs.Prelude.{take, drop, nat_lt, Option, Some, None, if◌then◌else◌}
use Rattle.tas_num.specs.Sums.{words}
use Rattle.segment_fields.specs.Bytes.{byte, half, word}
use Rattle.segment_fields.specs.ControlBits.{has, syn}
use Rattle.segment_fields.specs.Fields.{Fields}
use Rattle.segment_fields.specs.Options.{options_past, first_mss, first_scale}
use Rattle.segment_fields.specs.declared.segment.FirstOption.{FirstOption}
use Rattle.segment_fields.specs.declared.segment.Segment.{Segment}
use Rattle.segment_fields.specs.declared.segment.Refused.{Refused}
use Rattle.segment_fields.specs.declared.segment.Refused.TheVariants.{Short, NotIpv4, HeaderLength, TotalLength}
use Rattle.segment_fields.specs.declared.segment.Refused.TheVariants.{Fragment, NotTcp, IpSum, DataOffset, TcpSum}

-- ----- the parts of a packet
-- the bytes of the IPv4 header, which says its length (IHL) in words of four bytes
abbrev pub ip_len : List ℕ → ℕ
ip_len b = 4 * (byte b 0 % 16)

-- the bytes of the packet; what follows them is padding
abbrev pub total_len : List ℕ → ℕ
total_len b = half b 2

-- TCP's bytes: its header and the payload
abbrev pub tcp : List ℕ → List ℕ
tcp b = slice_range b (ip_len b) (total_len b)

-- the bytes of the TCP header, where `t` are TCP's bytes; it says its length (Data Offset) in words of four bytes
abbrev pub data_offset : List ℕ → ℕ
data_offset t = 4 * (byte t 12 / 16)

-- ----- the checksums
-- the sum of the words of the pseudo-header: both addresses, the protocol and the TCP length
abbrev pub pseudo_sum : List ℕ → ℕ
pseudo_sum b = half b 12 + half b 14 + half b 16 + half b 18 + 6 + length (tcp b)

-- the sum of the words that the checksum of the IPv4 header covers, and of those that TCP's covers; each holds its own
-- field
abbrev pub ip_sum : List ℕ → ℕ
ip_sum b = sum (words (take (ip_len b) b))

abbrev pub tcp_sum : List ℕ → ℕ
tcp_sum b = pseudo_sum b + sum (words (tcp b))

-- a sum is right where it is above 0 and divisible by 65535
abbrev pub is_wrong : ℕ → Bool
is_wrong total = total == 0 || not (total % 65535 == 0)

-- ----- the rules of reading
-- The first rule that the bytes break. Where `check` is false no checksum is looked at.
-- Bytes 6 and 7 hold three flags and the fragment offset; MF and the offset are the low 14 bits.
unfoldable pub refusal : (check : Bool) → List ℕ → Option Refused
refusal check b =
    if nat_lt (length b) 20 then Some Short
    else if not (byte b 0 / 16 == 4) then Some NotIpv4
    else if nat_lt (ip_len b) 20 || nat_lt (length b) (ip_len b) then Some HeaderLength
    else if nat_lt (total_len b) (ip_len b) || nat_lt (length b) (total_len b) then Some TotalLength
    else if not (half b 6 % 16384 == 0) then Some Fragment
    else if not (byte b 9 == 6) then Some NotTcp
    else if check && is_wrong (ip_sum b) then Some IpSum
    else if nat_lt (length (tcp b)) 20 || nat_lt (data_offset (tcp b)) 20
    || nat_lt (length (tcp b)) (data_offset (tcp b)) then Some DataOffset
    else if check && is_wrong (tcp_sum b) then Some TcpSum
    else None

-- ----- the fields
-- the options behind the fixed part of TCP's header
abbrev pub options_of : List ℕ → List FirstOption
options_of t = options_past 0 (slice_range t 20 (data_offset t))

-- the MSS that TCP's bytes bear: the first one among the options, and that of a SYN alone
unfoldable pub mss_of : List ℕ → Option ℕ
mss_of t = if has (byte t 13) syn then first_mss (options_of t) else None

-- and the shift of windows
unfoldable pub scale_of : List ℕ → Option ℕ
scale_of t = if has (byte t 13) syn then first_scale (options_of t) else None

-- the fields that the bytes spell
abbrev pub fields_in : List ℕ → Fields
fields_in b =
    record {
      src = word b 12;
      dst = word b 16;
      sport = half (tcp b) 0;
      dport = half (tcp b) 2;
      seq = word (tcp b) 4;
      ack = word (tcp b) 8;
      flags = byte (tcp b) 13;
      window = half (tcp b) 14;
      mss = mss_of (tcp b);
      scale = scale_of (tcp b);
      payload = drop (data_offset (tcp b)) (tcp b);
    }

-- The bytes spell this segment: one equation for each field. They are those of `fields_in`.
pub record IsText (b : List ℕ) (s : Segment) : Type 0 where
  pub src : s.src ≡ word b 12
  pub dst : s.dst ≡ word b 16
  pub sport : s.sport ≡ half (tcp b) 0
  pub dport : s.dport ≡ half (tcp b) 2
  pub seq : s.seq.0 ≡ word (tcp b) 4
  pub ack : s.ack.0 ≡ word (tcp b) 8
  pub flags : s.flags.0 ≡ byte (tcp b) 13
  pub window : s.window ≡ half (tcp b) 14
  pub mss : s.mss ≡ mss_of (tcp b)
  pub scale : s.scale ≡ scale_of (tcp b)
  pub payload : s.payload.now ≡ drop (data_offset (tcp b)) (tcp b)
