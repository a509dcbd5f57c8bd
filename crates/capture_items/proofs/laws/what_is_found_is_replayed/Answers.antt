use Rattle.capture_items.proofs.Replays.{found_is_replayed}
use Rattle.capture_items.proofs.laws.what_is_found_is_replayed.Goals as goal

pub returns-clause-found : goal.returns-clause-found
returns-clause-found c = found_is_replayed
