-- Answers of the proof of table/connected.
use Rattle.phase_tests.proofs.Resting.{first_of}
use Rattle.phase_tests.proofs.table.connected.Goals as goal

pub returns-clause-slow : goal.returns-clause-slow
returns-clause-slow c =
    first_of c.args.table.now c.connect.new.pins.list c.remove.result c.connect.new.slow c.in-Ok.ensures.slow
    c.remove.ensures.pin
