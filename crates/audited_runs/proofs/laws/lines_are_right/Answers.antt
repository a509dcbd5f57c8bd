use Rattle.audited_runs.proofs.Order.{in_order}
use Rattle.audited_runs.proofs.Right.{are_right}
use Rattle.audited_runs.proofs.Counts.{flows_counted, entries_counted}
use Rattle.audited_runs.proofs.laws.lines_are_right.Goals as goal

pub returns-clause-order : goal.returns-clause-order
returns-clause-order c = in_order

pub returns-clause-right : goal.returns-clause-right
returns-clause-right c = are_right

pub returns-clause-flows : goal.returns-clause-flows
returns-clause-flows c = flows_counted

pub returns-clause-entries : goal.returns-clause-entries
returns-clause-entries c = entries_counted
