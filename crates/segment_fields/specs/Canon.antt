-- The one packet that a segment is written as (RFC 791, section 3.1; RFC 9293, section 3.1).
use Rattle.std.specs.Prelude.{ℕ, ◌+◌, ◌*◌, ◌/◌, ◌%◌, List, [], ◌∷◌, ◌++◌, length, sum, Option, Some, None, IsSome}
use Rattle.std.specs.Prelude.{IfSome, IsTrue, ◌≤◌, if◌then◌else◌}
use Rattle.tas_num.specs.Sums.{words, checksum}
use Rattle.segment_fields.specs.Bytes.{two, four}
use Rattle.segment_fields.specs.ControlBits.{has, syn}
use Rattle.segment_fields.specs.Fields.{Fields}

-- ----- the pieces
-- the option Maximum Segment Size: kind 2, length 4, and the number
abbrev pub mss_bytes : Option ℕ → List ℕ
mss_bytes None = []
mss_bytes (Some mss) = 2 ∷ 4 ∷ two mss

-- the option Window Scale (RFC 7323, section 2.2): kind 3, length 3, and the shift, behind one byte of kind 1, which
-- makes it four bytes long
abbrev pub scale_bytes : Option ℕ → List ℕ
scale_bytes None = []
scale_bytes (Some shift) = 1 ∷ 3 ∷ 3 ∷ shift ∷ []

-- both stand in a SYN alone
abbrev pub borne_mss : Fields → Option ℕ
borne_mss f = if has f.flags syn then f.mss else None

abbrev pub borne_scale : Fields → Option ℕ
borne_scale f = if has f.flags syn then f.scale else None

-- the options of a packet, the MSS first
abbrev pub option_bytes : Fields → List ℕ
option_bytes f = mss_bytes (borne_mss f) ++ scale_bytes (borne_scale f)

-- The options are ones that a packet bears as they are: there is none, or SYN is set, and the shift is at most 14.
pub record HasOptionsInSynAlone (f : Fields) : Type 0 where
  pub mss : IsSome f.mss → IsTrue (has f.flags syn)
  pub scale : IsSome f.scale → IsTrue (has f.flags syn)
  pub shift : IfSome f.scale (λ shift. shift ≤ 14)

-- The IPv4 header without options: version 4 and IHL 5, type of service 0, total length, identification 0, DF and
-- fragment offset 0, TTL 64, protocol 6,
-- checksum, and the addresses.
unfoldable pub ip_header : (total checksum src dst : ℕ) → List ℕ
ip_header total checksum src dst = 69 ∷ 0 ∷ two total
    ++ (0 ∷ 0 ∷ 64 ∷ 0 ∷ 64 ∷ 6 ∷ two checksum ++ (four src ++ four dst))

-- The fixed part of the TCP header, with this byte of data offset and reserved bits, and this checksum. The urgent
-- pointer is 0.
unfoldable pub tcp_fixed : Fields → (offset checksum : ℕ) → List ℕ
tcp_fixed f offset checksum =
    two f.sport ++ (two f.dport
    ++ (four f.seq ++ (four f.ack ++ (offset ∷ f.flags ∷ two f.window ++ (two checksum ++ (0 ∷ 0 ∷ []))))))

-- ----- their lengths and sums
-- the TCP length, in bytes
abbrev pub tcp_len : Fields → (option : List ℕ) → ℕ
tcp_len f option = 20 + length option + length f.payload

-- the data offset, in words of four bytes, stands in the high half of its byte
abbrev pub offset_byte : (option : List ℕ) → ℕ
offset_byte option = (20 + length option) / 4 * 16

-- the sum of both words of a number of 32 bits
abbrev pub halves : ℕ → ℕ
halves n = n / 65536 + n % 65536

-- the number that makes the sum of the IPv4 header right
abbrev pub ip_checksum : (total src dst : ℕ) → ℕ
ip_checksum total src dst = checksum (sum (words (ip_header total 0 src dst)))

-- the number that makes the sum of the pseudo-header, the header and the payload right
abbrev pub tcp_checksum : Fields → (option : List ℕ) → ℕ
tcp_checksum f option =
    checksum (halves f.src + halves f.dst + 6 + tcp_len f option + sum (words (tcp_fixed f (offset_byte option) 0))
    + sum (words option) + sum (words f.payload))

-- ----- the packet
-- the packet with these options
abbrev pub packet : Fields → (option : List ℕ) → List ℕ
packet f option =
    let total : ℕ = 20 + tcp_len f option in
    ip_header total (ip_checksum total f.src f.dst) f.src f.dst
    ++ (tcp_fixed f (offset_byte option) (tcp_checksum f option) ++ (option ++ f.payload))

-- the one packet of a segment's fields
abbrev pub canon : Fields → List ℕ
canon f = packet f (option_bytes f)

-- its length: 40 bytes of headers, 4 with an MSS, 4 with a window scale, and the payload
abbrev pub canon_len : Fields → ℕ
canon_len f = 40 + length (option_bytes f) + length f.payload
