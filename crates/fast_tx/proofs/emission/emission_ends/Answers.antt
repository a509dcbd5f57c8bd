use Rattle.tas_model.proofs.LeftToSend.{falls}
use Rattle.fast_tx.proofs.Ends.{left_falls}
use Rattle.fast_tx.proofs.emission.emission_ends.Goals as goal

pub returns : goal.returns
returns c = record { ends = falls; falls = left_falls }
