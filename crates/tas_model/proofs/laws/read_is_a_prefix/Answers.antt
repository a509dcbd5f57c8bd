use Rattle.tas_model.proofs.MovesLaws.{read_is_of_got, read_is_of_stream}
use Rattle.tas_model.proofs.laws.read_is_a_prefix.Goals as goal

pub returns-clause-of_received : goal.returns-clause-of_received
returns-clause-of_received c = read_is_of_got

pub returns-clause-of_stream : goal.returns-clause-of_stream
returns-clause-of_stream c = read_is_of_stream
