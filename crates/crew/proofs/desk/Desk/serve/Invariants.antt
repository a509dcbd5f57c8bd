-- Measures or invariants of desk/Desk/serve.
use Rattle.crew.specs.Desks.{IsFree}
use Rattle.crew.proofs.desk.Desk.serve.Given as goal

abbrev pub invariant-loop : goal.invariant-loop
invariant-loop g l =
    (goal.iterator-loop g).can_next l.iterator' × (goal.iterator-loop g).is_finite l.iterator'
    × IsFree l.self l.worker.seat
