-- Measures or invariants of emission/forget_all.
use Rattle.std.proofs.Common.{◌≡◌, ◌++◌, drop, map, take}
use Rattle.core_host.specs.Emission.{untried}
use Rattle.core_host.proofs.emission.forget_all.Given as goal

-- the first lanes try nothing
abbrev pub invariant-loop-lane : goal.invariant-loop-lane
invariant-loop-lane l =
    l.lane-items ≡ map untried (take l.lane-index l.fn.lanes.items) ++ drop l.lane-index l.fn.lanes.items
