-- Answers of the proof of table/connect.
use Rattle.std.proofs.Common.{[], inl, ap}
use Rattle.flow_lock.specs.declared.view.View.{View}
use Rattle.phase_tests.proofs.Resting.{none_found, first_connects, second_connects}
use Rattle.phase_tests.proofs.table.connect.Goals as goal

pub connect-requires-clause-pass : goal.connect-requires-clause-pass
connect-requires-clause-pass c =
    (c.requires.app.table, inl (_, [], ap (λ (v : View). v.turns) c.requires.app.view))

pub connect-requires-clause-slow : goal.connect-requires-clause-slow
connect-requires-clause-slow c = (c.requires.slow.0, inl (_, [], ap (λ (v : View). v.turns) c.requires.slow.1))

pub returns-clause-slow : goal.returns-clause-slow
returns-clause-slow c =
    let made = none_found _ _ c.args.app.now.begun _ c.requires.app.begun c.connect.ensures.opened in
    first_connects c.args.table.now _ _ _ c.args.path.now _ c.connect.new.self _ _ c.connect.result made
    c.requires.slow.0 c.requires.slow.1 c.requires.pins

pub returns-clause-app : goal.returns-clause-app
returns-clause-app c =
    let made = none_found _ _ c.args.app.now.begun _ c.requires.app.begun c.connect.ensures.opened in
    second_connects c.args.table.now _ _ _ c.args.path.now _ c.connect.new.self _ _ c.connect.result made
    c.requires.app.table c.requires.app.view c.requires.app.sockets
