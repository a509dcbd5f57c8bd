use Rattle.std.proofs.Common.{[], inl, ap}
use Rattle.std.specs.List.{filter}
use Rattle.socket_tests.proofs.Steps.{none_found}
use Rattle.socket_tests.proofs.Resting.{has_turn, first_connects, second_connects}
use Rattle.socket_tests.proofs.alone.connect.Goals as goal

pub connect-requires-clause-pass : goal.connect-requires-clause-pass
connect-requires-clause-pass c =
    let h = c.requires.app.0 in (h.table, inl (has_turn c.args.app.now.pass.view 1 [] h.turns))

pub connect-requires-clause-slow : goal.connect-requires-clause-slow
connect-requires-clause-slow c =
    let h = c.requires.slow in (h.table, inl (has_turn c.args.slow.now.view 0 [] h.turns))

pub returns-clause-slow : goal.returns-clause-slow
returns-clause-slow c =
    let made = none_found _ _ c.args.app.now.begun _ c.requires.app.1 c.connect.ensures.opened in
    first_connects c.args.table.now _ _ _ c.args.path.now _ c.connect.new.self _ _ c.connect.result made
    c.requires.slow

pub returns-clause-app : goal.returns-clause-app
returns-clause-app c =
    let made = none_found _ _ c.args.app.now.begun _ c.requires.app.1 c.connect.ensures.opened in
    second_connects c.args.table.now _ _ _ c.args.path.now _ c.connect.new.self _ _ c.connect.result made
    c.requires.app.0 (ap (filter _) c.requires.app.1)
