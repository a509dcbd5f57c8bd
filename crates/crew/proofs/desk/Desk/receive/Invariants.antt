-- Measures or invariants of desk/Desk/receive.
use Rattle.crew.specs.Desks.{IsOut}
use Rattle.crew.proofs.desk.Desk.receive.Given as goal

abbrev pub invariant-loop : goal.invariant-loop
invariant-loop g l =
    (goal.iterator-loop g).can_next l.iterator' × (goal.iterator-loop g).is_finite l.iterator'
    × ((x : g.row.W.Denot) × IsOut l.self x l.dispatcher.seat)
    × ((x : g.row.W.Denot) → IsOut l.self x l.fn.dispatcher.seat → IsOut l.self x l.dispatcher.seat)
