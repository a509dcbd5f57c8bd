use Rattle.socket_tests.proofs.Steps.{sweeps}
use Rattle.socket_tests.proofs.threads.sweep_once.Goals as goal

pub returns-in-Ok-Freed-clause-keeper : goal.returns-in-Ok-Freed-clause-keeper
returns-in-Ok-Freed-clause-keeper c =
    let made = c.in-Ok-Freed.ensures in
    let r = sweeps c.args.table.now c.args.pin c.args.slow.now c.sweep.new.slow c.in-Ok-Freed.field-0
    c.sweep.ensures.table made.pin made.view c.requires.0 c.requires.1 in
    (r.0, r.2)

pub returns-in-Ok-Pinned-clause-keeper : goal.returns-in-Ok-Pinned-clause-keeper
returns-in-Ok-Pinned-clause-keeper c =
    let made = c.in-Ok-Pinned.ensures in
    let r = sweeps c.args.table.now c.args.pin c.args.slow.now c.sweep.new.slow c.in-Ok-Pinned.field-0
    c.sweep.ensures.table made.pin made.view c.requires.0 c.requires.1 in
    (r.0, r.2)
