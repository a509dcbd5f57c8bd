use Rattle.tas_model.proofs.PeersWindow.{window_bounded}
use Rattle.tas_model.proofs.scaling_laws.peers_window_is_bounded.Goals as goal

pub returns : goal.returns
returns c = window_bounded
