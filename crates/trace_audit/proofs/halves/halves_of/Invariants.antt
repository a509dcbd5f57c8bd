use Rattle.std.proofs.Common.{◌≤◌, ◌-◌, length}
use Rattle.trace_audit.proofs.FirstLines.{AreBefore}
use Rattle.trace_audit.proofs.halves.halves_of.Given as goal

abbrev pub invariant-loop-line : goal.invariant-loop-line
invariant-loop-line l = record {
  before : AreBefore l.text l.count l.from;
  within : l.from ≤ length l.text;
  few : l.count ≤ l.from;
}

abbrev pub decreases-loop-line : goal.decreases-loop-line
decreases-loop-line l = length l.text - l.from
