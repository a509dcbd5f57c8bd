use Rattle.std.proofs.Common.{◌≡◌, ◌+◌, ◌-◌, ◌≤◌, ◌++◌, replicate, vec_len, vec_capacity}
use Rattle.payload_ring.proofs.filling.fill_with_zeros.Given as goal

abbrev pub invariant-loop-bytes : goal.invariant-loop-bytes
invariant-loop-bytes l = record {
  items : l.bytes.items ≡ l.fn.bytes.items ++ replicate (vec_len l.bytes - vec_len l.fn.bytes) 0;
  longer : vec_len l.fn.bytes ≤ vec_len l.bytes;
  most : vec_len l.bytes ≤ vec_len l.fn.bytes + (l.end - vec_len l.fn.bytes);
  capacity : vec_capacity l.fn.bytes ≤ vec_capacity l.bytes;
}

abbrev pub decreases-loop-bytes : goal.decreases-loop-bytes
decreases-loop-bytes l = l.end - vec_len l.bytes
