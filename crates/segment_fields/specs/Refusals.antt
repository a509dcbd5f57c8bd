-- The numbers by which reports name the rules of reading.
use Rattle.std.specs.Prelude.{ℕ}
use Rattle.segment_fields.specs.declared.segment.Refused.{Refused}
use Rattle.segment_fields.specs.declared.segment.Refused.TheVariants.{Short, NotIpv4, HeaderLength, TotalLength}
use Rattle.segment_fields.specs.declared.segment.Refused.TheVariants.{Fragment, NotTcp, IpSum, DataOffset, TcpSum}

-- the number of a rule, in the order in which they are tried
abbrev pub number_of : Refused → ℕ
number_of Short = 1
number_of NotIpv4 = 2
number_of HeaderLength = 3
number_of TotalLength = 4
number_of Fragment = 5
number_of NotTcp = 6
number_of IpSum = 7
number_of DataOffset = 8
number_of TcpSum = 9
