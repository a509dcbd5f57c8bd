use Rattle.std.proofs.Common.{◌≡◌, ◌≤◌, ◌+◌, length, map, drop}
use Rattle.trace_audit.specs.TextLines.{text_lines}
use Rattle.trace_audit.specs.Watching.{HasReadSome, IsBounded}
use Rattle.trace_audit.proofs.auditing.judged_by.Given as goal

abbrev pub invariant-loop-line : goal.invariant-loop-line
invariant-loop-line l = record {
  read : HasReadSome (map (λ n. n.now) l.fn.names) l.fn.hosts l.auditor (text_lines l.fn.report)
      l.auditor.counts.lines;
  rest : drop l.auditor.counts.lines (text_lines l.fn.report) ≡ text_lines l.rest;
  bounded : IsBounded l.auditor;
  within : l.auditor.counts.lines ≤ length (text_lines l.fn.report);
  few : l.auditor.counts.lines + length l.rest ≤ length l.fn.report;
}

abbrev pub decreases-loop-line : goal.decreases-loop-line
decreases-loop-line l = length l.rest
