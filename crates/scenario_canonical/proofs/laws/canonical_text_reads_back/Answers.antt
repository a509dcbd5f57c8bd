use Rattle.scenario_canonical.proofs.Back.{canonical_read}
use Rattle.scenario_canonical.proofs.laws.canonical_text_reads_back.Goals as goal

pub returns : goal.returns
returns c = canonical_read
