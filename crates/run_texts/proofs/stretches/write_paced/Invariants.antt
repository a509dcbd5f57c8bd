use Rattle.run_texts.proofs.Paced.{Between}
use Rattle.run_texts.proofs.stretches.write_paced.Given as goal

abbrev pub invariant-loop-left : goal.invariant-loop-left
invariant-loop-left g l =
    Between (g.K.Sink.state l.fn.sink) l.fn.writer (g.K.Sink.state l.sink) l.writer l.runs l.left

abbrev pub decreases-loop-left : goal.decreases-loop-left
decreases-loop-left g l = l.left.more
