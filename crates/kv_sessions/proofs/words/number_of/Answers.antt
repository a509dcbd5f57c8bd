use Rattle.std.proofs.Common.{arith}
use Rattle.kv_sessions.proofs.Worded.{too_high}
use Rattle.kv_sessions.proofs.words.number_of.Goals as goal

pub returns-then-value-from : goal.returns-then-value-from
returns-then-value-from c =
    too_high c.loop-c.value c.loop-c.c-index _ c.args.word.now c.loop-c-test.true c.loop-c.invariant.value
    c.saturating_sub.ensures (omega (arith, c.if-value-from.true, c.from.ensures, c.from-in-loop-c.ensures))
