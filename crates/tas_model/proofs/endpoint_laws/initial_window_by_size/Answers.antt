use Rattle.std.proofs.Common.{refl}
use Rattle.tas_model.proofs.endpoint_laws.initial_window_by_size.Goals as goal

pub returns-clause-four : goal.returns-clause-four
returns-clause-four c = refl

pub returns-clause-three : goal.returns-clause-three
returns-clause-three c = refl

pub returns-clause-still_three : goal.returns-clause-still_three
returns-clause-still_three c = refl

pub returns-clause-two : goal.returns-clause-two
returns-clause-two c = refl
