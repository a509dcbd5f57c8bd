use Rattle.std.proofs.Common.{◌≡◌, ◌++◌, drop}
use Rattle.local_host.specs.Lanes.{worked_flow, left_of}
use Rattle.local_host.proofs.lanes.work_flow.Given as goal

-- the frames that are left lead to the same end
abbrev pub invariant-loop-handed : goal.invariant-loop-handed
invariant-loop-handed g l =
    (worked_flow l.core l.tick (drop l.handed-index l.frames) l.flow ≡ worked_flow l.core l.tick l.frames l.fn.flow)
    × (l.left.items ++ left_of l.core l.tick (drop l.handed-index l.frames) l.flow
    ≡ l.fn.left.items ++ left_of l.core l.tick l.frames l.fn.flow)
