use Rattle.std.proofs.Common.{arith}
use Rattle.flow_state.proofs.Pacing.{rest_is}
use Rattle.flow_state.proofs.paced.PacedRun.rest.Goals as goal

pub returns-clause-rest : goal.returns-clause-rest
returns-clause-rest c =
    rest_is c.args.self.now _ _ _ (omega (arith, c.in_ok-more.ensures)) (omega (arith, c.from.ensures)) (omega arith)
