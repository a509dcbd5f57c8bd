-- Answers of the proof of hiring/man.
use Rattle.std.proofs.Common.{sym, subst}
use Rattle.std.specs.Prelude.{All}
use Rattle.std.proofs.lemmas.List.Elements.{All-push}
use Rattle.crew.specs.Desks.{IsAtRest}
use Rattle.crew.specs.Crews.{IsReady}
use Rattle.crew.proofs.hiring.man.Goals as goal

pub returns-clause-ready : goal.returns-clause-ready
returns-clause-ready g c =
    subst (All (IsReady {W = g.row.W.Denot})) (sym c.push_reserved.ensures.items)
    (All-push IsReady _ _ c.requires.ready record {
      rests = subst (λ t. IsAtRest t c.in_ok-desk.dispatcher.seat) (sym c.in_ok-desk-2.ensures.ok)
          c.in_ok-desk.ensures.dispatcher;
    })
