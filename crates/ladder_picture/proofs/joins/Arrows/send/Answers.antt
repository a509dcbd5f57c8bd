use Rattle.std.proofs.Common.{◌≡◌, refl, ◌∙◌, ap, length, rules}
use Rattle.ladder_picture.specs.declared.joins.Arrows.{Arrows}
use Rattle.ladder_picture.proofs.OneMore.{sent_taken, placed_alike, sent_as}
use Rattle.ladder_picture.proofs.joins.Arrows.send.Goals as goal

pub returns : goal.returns
returns c = λ ps are.
    let before : Arrows = record {
      sent = c.push.new.self;
      came = c.args.self.now.came;
      left = c.args.self.now.left;
      right = c.args.self.now.right;
    } in
    let place : c.len-place.result ≡ length c.args.self.now.sent.items = search rules in
    sent_taken c.args.self.now c.note.new.self ps c.args.side c.args.y c.args.frame _ are
    (c.note.ensures.sent ∙ c.in_ok-push.ensures.items)
    (ap (sent_as c.args.side c.args.y c.args.frame) c.new.ensures.items) c.note.ensures.came
    (placed_alike c.args.self.now before c.note.new.self c.args.side c.key_of.result _ c.len-place.result _ refl refl
    c.key_of.ensures place c.in_ok-note.ensures.places)
