use Rattle.std.proofs.Common.{◌+◌, ◌-◌, ◌≤◌, Ok}
use Rattle.run_texts.specs.Counting.{lines_from}
use Rattle.run_texts.specs.Writes.{Writes}
use Rattle.run_texts.proofs.writer.push_lines.Given as goal

abbrev pub invariant-loop-done : goal.invariant-loop-done
invariant-loop-done g l = record {
  writes : Writes (g.K.Sink.state l.fn.sink) l.fn.waiting (Ok tt) (g.K.Sink.state l.sink) l.waiting
      (lines_from (g.L.CountedLines.line l.lines) 0 l.done);
  within : l.done ≤ g.L.CountedLines.more l.lines + 1;
}

abbrev pub decreases-loop-done : goal.decreases-loop-done
decreases-loop-done g l = g.L.CountedLines.more l.lines + 1 - l.done
