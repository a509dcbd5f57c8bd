use Rattle.run_laws.proofs.Computed.{broken_is}
use Rattle.run_laws.proofs.worked.worked_records.Goals as goal

pub returns : goal.returns
returns c = broken_is
