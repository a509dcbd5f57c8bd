use Rattle.scenario_text.proofs.Cuts.{too_high_next}
use Rattle.report_lines.proofs.fronts.number_in.Goals as goal

pub returns-then-value-high-clause-number : goal.returns-then-value-high-clause-number
returns-then-value-high-clause-number c =
    too_high_next 0 c.args.high c.loop-c.value c.loop-c.c-index _ c.args.word.now c.loop-c-test.true
    c.loop-c.invariant.value c.saturating_sub.ensures c.if-value-high.true
