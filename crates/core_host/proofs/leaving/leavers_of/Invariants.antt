-- Measures or invariants of leaving/leavers_of.
use Rattle.std.proofs.Common.{◌≡◌, map, take}
use Rattle.core_host.specs.Leaving.{leaver_of}
use Rattle.core_host.proofs.leaving.leavers_of.Given as goal

-- the first lanes have theirs
abbrev pub invariant-loop-i : goal.invariant-loop-i
invariant-loop-i l = l.leavers.items ≡ map leaver_of (take l.i l.lanes)
