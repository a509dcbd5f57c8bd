use Rattle.capture_items.proofs.Filling.{batch_stops, batch_runs_out}
use Rattle.capture_items.proofs.batch.BatchReader.next_batch.Goals as goal

pub returns-then-not-joins-clause-first : goal.returns-then-not-joins-clause-first
returns-then-not-joins-clause-first c = λ some.
    let l = c.loop-item in
    batch_stops c.args.self.now l.self-inside.items l.batch.items c.deref.result.now c.in-Some.item
    c.next_item.new.self _ c.in-Some.ensures.some c.deref.ensures.value c.joins.ensures c.if-not-joins.true
    l.invariant.so_far

pub returns-clause-first : goal.returns-clause-first
returns-clause-first c = λ some.
    let l = c.loop-item in
    batch_runs_out c.args.self.now l.self-inside.items c.next_item.new.self l.batch.items l.self-inside.ahead
    l.invariant.none c.in_default.ensures.none c.in_default.ensures.done some l.invariant.front l.invariant.so_far
