use Rattle.std.proofs.Common.{true, false, refl, ◌∙◌, sym, append-nil}
use Rattle.ladder_picture.specs.declared.joins.Arrows.{Arrows}
use Rattle.ladder_picture.proofs.OneMore.{had_taken, same_again, came_one}
use Rattle.ladder_picture.proofs.joins.Arrows.come.Goals as goal

pub returns-in_ok-push : goal.returns-in_ok-push
returns-in_ok-push c = λ ps are.
    let after : Arrows = record {
      sent = c.arrive.new.self.sent;
      came = c.push.new.self;
      left = c.arrive.new.self.left;
      right = c.arrive.new.self.right;
    } in
    had_taken c.args.self.now after ps c.args.side c.args.y c.args.frame false are c.in_ok-arrive.ensures.sent
    (same_again c.args.self.now c.arrive.new.self after refl refl c.arrive.ensures.places)
    (sym c.if-not-branch.true ∙ c.in_ok-arrive.ensures.found)
    (c.in_ok-push.ensures.items
    ∙ came_one c.args.y c.args.frame c.arrive.new.self.came.items c.args.self.now.came.items c.across.result _
    c.arrive.ensures.came c.across.ensures)

pub returns-else-not-branch : goal.returns-else-not-branch
returns-else-not-branch c = λ ps are.
    had_taken c.args.self.now c.arrive.new.self ps c.args.side c.args.y c.args.frame true are
    c.in_ok-arrive.ensures.sent c.arrive.ensures.places
    (sym c.if-not-branch.false ∙ c.in_ok-arrive.ensures.found)
    (c.arrive.ensures.came ∙ sym (append-nil c.args.self.now.came.items))
