use Rattle.std.proofs.Common.{◌≡◌, []}
use Rattle.tas_model.specs.Valid.{InRange}
use Rattle.socket_tests.specs.Going.{HasFirstTurn, HasSecondTurn}
use Rattle.socket_tests.proofs.many.connections.Given as goal

abbrev pub invariant-loop-made : goal.invariant-loop-made
invariant-loop-made l =
    HasFirstTurn l.table l.slow × HasSecondTurn l.table l.app.pass × (l.app.begun ≡ []) × InRange l.path.params
