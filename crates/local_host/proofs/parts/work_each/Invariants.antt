use Rattle.std.proofs.Common.{◌≡◌, ◌++◌, map, take, drop}
use Rattle.local_host.proofs.parts.work_each.Given as goal

-- the flows that are left stand as they were
abbrev pub invariant-loop-k : goal.invariant-loop-k
invariant-loop-k g l = l.flows ≡ map (g.C.Chore.change l.chore) (take l.k l.fn.flows) ++ drop l.k l.fn.flows
