use Rattle.std.proofs.Common.{◌≡◌, take, filter}
use Rattle.frame_steering.specs.Handing.{waits, AreMoved}
use Rattle.frame_steering.proofs.handing.move_waiting.Given as goal

-- the moves so far are made where their groups wait
abbrev pub invariant-loop-moving : goal.invariant-loop-moving
invariant-loop-moving g l =
    (l.steer.place ≡ l.fn.steer.place)
    × AreMoved l.fn.cores l.fn.steer.tables (filter (waits l.fn.waiting) (take l.moving-index l.fn.moves))
    l.steer.tables
