use Rattle.std.proofs.Common.{◌++◌, ◌∷◌, [], subst, sym}
use Rattle.ladder_picture.specs.declared.row.Framed.{Framed}
use Rattle.ladder_picture.specs.Arrows.{pass}
use Rattle.ladder_picture.specs.Joined.{AreOf}
use Rattle.ladder_picture.proofs.OneMore.{nothing_taken}
use Rattle.ladder_picture.proofs.joins.Arrows.take_up.Goals as goal

pub returns-in-Nothing : goal.returns-in-Nothing
returns-in-Nothing c = λ ps are.
    subst (λ (f : Framed). AreOf c.args.self.now (ps ++ pass c.args.side c.args.y f ∷ [])) (sym c.in-Nothing.is)
    (nothing_taken c.args.self.now ps c.args.side c.args.y are)
