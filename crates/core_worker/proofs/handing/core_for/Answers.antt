use Rattle.core_worker.proofs.handing.core_for.Goals as goal

pub returns-clause-core : goal.returns-clause-core
returns-clause-core g c = (c.group_for.result, c.group_for.ensures.group, c.core_of.ensures.core)
