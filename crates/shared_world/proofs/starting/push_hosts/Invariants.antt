-- Measures or invariants of starting/push_hosts.
use Rattle.std.proofs.Common.{◌≡◌, take}
use Rattle.std.specs.Prelude.{vec_capacity, vec_len}
use Rattle.shared_world.specs.Sites.{AreNew}
use Rattle.shared_world.proofs.starting.push_hosts.Given as goal

-- the hosts of the first lines
abbrev pub invariant-loop-number : goal.invariant-loop-number
invariant-loop-number g l = record {
  new : AreNew l.s l.cores (take l.number l.s.hosts) l.hosts.items;
  len : vec_len l.hosts ≡ l.number;
  room : vec_capacity l.hosts ≡ vec_capacity l.fn.hosts;
}
