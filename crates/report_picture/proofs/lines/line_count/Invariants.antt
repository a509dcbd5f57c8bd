use Rattle.std.proofs.Common.{◌≡◌, ◌≤◌, ◌+◌, length}
use Rattle.trace_audit.specs.TextLines.{text_lines}
use Rattle.report_picture.proofs.lines.line_count.Given as goal

abbrev pub invariant-loop-behind : goal.invariant-loop-behind
invariant-loop-behind l = record {
  count : l.count + length (text_lines l.rest) ≡ length (text_lines l.fn.text);
  few : l.count + length l.rest ≤ length l.fn.text;
}

abbrev pub decreases-loop-behind : goal.decreases-loop-behind
decreases-loop-behind l = length l.rest
