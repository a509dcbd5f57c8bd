use Rattle.tas_model.proofs.MovesLaws.{bucket_law}
use Rattle.tas_model.proofs.laws.bucket_bounds_data.Goals as goal

pub returns : goal.returns
returns c = bucket_law
