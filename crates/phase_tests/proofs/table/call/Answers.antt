-- Answers of the proof of table/call.
use Rattle.std.proofs.Common.{inr}
use Rattle.phase_tests.proofs.Resting.{rested_use, rested_refused}
use Rattle.phase_tests.proofs.table.call.Goals as goal

pub make_slow_call-requires-clause-slow : goal.make_slow_call-requires-clause-slow
make_slow_call-requires-clause-slow g c =
    (c.requires.slow.0.table, c.requires.slow.0.pin, inr c.requires.slow.0.alone)

pub returns-in-Ok : goal.returns-in-Ok
returns-in-Ok g c =
    let m = c.in-Ok.ensures.made in
    rested_use c.args.table.now c.args.pin.now m.flow m.after c.args.slow.now c.make_slow_call.new.slow
    c.requires.slow.0 m.given c.make_slow_call.ensures.table

pub returns-in-Err : goal.returns-in-Err
returns-in-Err g c =
    rested_refused c.args.table.now c.args.pin.now _ c.args.slow.now c.make_slow_call.new.slow c.requires.slow.0
    c.in-Err.ensures.refused c.make_slow_call.ensures.table
