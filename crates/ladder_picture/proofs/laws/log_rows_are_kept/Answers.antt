use Rattle.ladder_picture.proofs.Merged.{log_kept, log_in_order}
use Rattle.ladder_picture.proofs.laws.log_rows_are_kept.Goals as goal

pub returns : goal.returns
returns c = record { kept = log_kept; order = log_in_order }
