use Rattle.host_rounds.proofs.AllStanding.{round_filed, round_apart}
use Rattle.host_rounds.proofs.laws.slots_are_kept.Goals as goal

pub returns-clause-filed : goal.returns-clause-filed
returns-clause-filed g c = round_filed

pub returns-clause-apart : goal.returns-clause-apart
returns-clause-apart g c = round_apart
