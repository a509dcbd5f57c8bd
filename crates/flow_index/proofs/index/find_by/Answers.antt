use Rattle.flow_index.proofs.Publishing.{found_seen}
use Rattle.flow_index.proofs.Steps.{looks}
use Rattle.flow_index.proofs.index.find_by.Goals as goal

pub enter_as-requires : goal.enter_as-requires
enter_as-requires g c = looks _ _

pub returns-in-Ok-clause-found : goal.returns-in-Ok-clause-found
returns-in-Ok-clause-found g c =
    found_seen _ _ _ _ c.args.t _ c.find-found.ensures c.get.ensures c.in-Ok.ensures.1.1 c.leave-reader.ensures.1
