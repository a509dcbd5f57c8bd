-- How long the headers are.
use Rattle.std.proofs.Common.{◌≡◌, ℕ, length, refl}
use Rattle.segment_fields.specs.Fields.{Fields}
use Rattle.segment_fields.specs.Canon.{ip_header, tcp_fixed}

pub length-ip_header : (total sum src dst : ℕ) → length (ip_header total sum src dst) ≡ 20
unfolding ip_header
length-ip_header total sum src dst = refl

pub length-tcp_fixed : (f : Fields) (offset sum : ℕ) → length (tcp_fixed f offset sum) ≡ 20
unfolding tcp_fixed
length-tcp_fixed f offset sum = refl
