use Rattle.std.proofs.Common.{◌≡◌, ◌+◌, ◌*◌, ◌≤◌, ◌++◌, length}
use Rattle.run_texts.specs.Counting.{lines_from}
use Rattle.run_texts.proofs.counted_lines.add_lines.Given as goal

abbrev pub invariant-loop-k : goal.invariant-loop-k
invariant-loop-k g l = record {
  text : l.waiting ≡ l.fn.waiting ++ lines_from (g.L.CountedLines.line l.lines) l.j (l.k + 1);
  short : length l.waiting ≤ length l.fn.waiting + 57 * (l.k + 1);
}
