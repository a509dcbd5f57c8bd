use Rattle.std.proofs.Common.{◌≡◌, ◌++◌, take}
use Rattle.local_host.proofs.lanes.pass_on.Given as goal

abbrev pub invariant-loop-handed : goal.invariant-loop-handed
invariant-loop-handed g l = l.left.items ≡ l.fn.left.items ++ take l.handed-index l.strays
