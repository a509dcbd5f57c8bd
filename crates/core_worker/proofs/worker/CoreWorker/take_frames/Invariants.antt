use Rattle.std.proofs.Common.{length}
use Rattle.core_worker.specs.Workers.{IsFree, HasSenders}
use Rattle.core_worker.proofs.Turns.{Handling}
use Rattle.core_worker.proofs.worker.CoreWorker.take_frames.Given as goal

abbrev pub invariant-loop-self : goal.invariant-loop-self
invariant-loop-self g l =
    Handling l.shared l.tick l.fn.self l.self × IsFree l.shared l.self × HasSenders l.shared l.self

abbrev pub decreases-loop-self : goal.decreases-loop-self
decreases-loop-self g l = length l.self.frames
