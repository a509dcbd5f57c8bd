use Rattle.tas_model.proofs.MovesLaws.{places_of}
use Rattle.tas_model.proofs.laws.places_grow_slowly.Goals as goal

pub returns : goal.returns
returns c = places_of
