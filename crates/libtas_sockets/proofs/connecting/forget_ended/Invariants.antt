use Rattle.std.proofs.Common.{◌-◌, length, not, ◌||◌}
use Rattle.flow_lock.specs.Answers.{is_open_in}
use Rattle.libtas_sockets.specs.Connecting.{fits}
use Rattle.libtas_sockets.specs.declared.begun.Begun.{Begun}
use Rattle.libtas_sockets.proofs.Waiting.{Kept}
use Rattle.libtas_sockets.proofs.connecting.forget_ended.Given as goal

abbrev pub invariant-loop-at : goal.invariant-loop-at
invariant-loop-at l =
    Kept (λ (b : Begun). not (fits l.target b) || is_open_in l.sp.view.marks b.id) l.fn.begun.items l.begun.items
    l.kept l.at

abbrev pub decreases-loop-at : goal.decreases-loop-at
decreases-loop-at l = length l.begun.items - l.at
