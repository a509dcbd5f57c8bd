use Rattle.core_host.proofs.FiledTicks.{tick_filed, alone_filed}
use Rattle.core_host.proofs.flow_laws.filed_histories_are_kept.Goals as goal

pub returns-clause-tick : goal.returns-clause-tick
returns-clause-tick g c = tick_filed

pub returns-clause-alone : goal.returns-clause-alone
returns-clause-alone g c = alone_filed
