-- Answers of the proof of hiring/+stop_all.
use Rattle.std.proofs.Common.{sym, subst}
use Rattle.std.specs.Prelude.{All}
use Rattle.std.proofs.lemmas.List.Elements.{All-push}
use Rattle.crew.specs.Crews.{HasStopped}
use Rattle.crew.proofs.hiring.+stop_all.Goals as goal

pub returns-in-Some-clause-stopped : goal.returns-in-Some-clause-stopped
returns-in-Some-clause-stopped g t c =
    subst (All (HasStopped {W = g.row.W.Denot})) (sym c.push_reserved.ensures.items)
    (All-push HasStopped _ _ c.stop_all.ensures.stopped c.stop.ensures.stopped)
