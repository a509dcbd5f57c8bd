use Rattle.ladder_picture.proofs.OneMore.{met_taken}
use Rattle.ladder_picture.proofs.joins.Arrows.meet.Goals as goal

pub returns : goal.returns
returns c = λ ps are.
    met_taken c.args.self.now c.arrive.new.self ps c.args.side c.args.y c.args.id c.args.fate are
    c.in_ok-arrive.ensures.sent c.arrive.ensures.places c.arrive.ensures.came
