use Rattle.core_worker.proofs.Told.{nothing_new}
use Rattle.core_worker.proofs.laws.no_change_is_no_news.Goals as goal

pub returns : goal.returns
returns c id e = nothing_new id e
