use Rattle.fast_tx.proofs.Alike.{piece_is_next}
use Rattle.fast_tx.proofs.Told.{serves_is}
use Rattle.fast_tx.proofs.piece.piece_is_next_segment.Goals as goal

pub returns : goal.returns
returns c = record { segment = piece_is_next; serves = serves_is }
