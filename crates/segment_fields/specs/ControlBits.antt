-- The control bits of a segment, by their values in the byte of flags (RFC 9293, section 3.1; ECE and CWR of RFC 3168,
-- section 6.1).
use Rattle.std.specs.Prelude.{ℕ, ◌/◌, ◌%◌, ◌==◌, Bool}

abbrev pub fin : ℕ
fin = 1

abbrev pub syn : ℕ
syn = 2

abbrev pub rst : ℕ
rst = 4

abbrev pub psh : ℕ
psh = 8

abbrev pub ack : ℕ
ack = 16

abbrev pub urg : ℕ
urg = 32

abbrev pub ece : ℕ
ece = 64

abbrev pub cwr : ℕ
cwr = 128

-- whether these flags have this bit
abbrev pub has : (flags bit : ℕ) → Bool
has flags bit = flags / bit % 2 == 1
