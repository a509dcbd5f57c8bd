use Rattle.std.proofs.Common.{ap}
use Rattle.flow_lock.specs.Passes.{Seen}
use Rattle.socket_tests.proofs.Steps.{keeper_joins}
use Rattle.socket_tests.proofs.flows.farewell.Goals as goal

pub returns-clause-keeper : goal.returns-clause-keeper
returns-clause-keeper c = (
  keeper_joins c.args.table.now c.args.slow.now c.args.pass c.join.new.into c.join.ensures c.requires.0,
  ap (λ (x : Seen). x.view.baton) c.join.ensures,
)
