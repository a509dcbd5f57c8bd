use Rattle.std.proofs.Common.{◌<◌, sym, refl, subst}
use Rattle.frame_steering.specs.Handing.{AreMoved}
use Rattle.frame_steering.proofs.Growing.{none_of, all_but, chosen_of, left_but}
use Rattle.frame_steering.proofs.handing.move_group.Goals as goal

pub returns-then-not-waiting-group-clause-moved : goal.returns-then-not-waiting-group-clause-moved
returns-then-not-waiting-group-clause-moved g c =
    subst (λ l. AreMoved c.args.cores c.args.steer.now.tables l c.args.steer.now.tables)
    (sym (none_of c.args.waiting.now c.args.group c.args.moves.now c.if-not-waiting-group.true)) refl

pub returns-then-not-waiting-group-clause-left : goal.returns-then-not-waiting-group-clause-left
returns-then-not-waiting-group-clause-left g c =
    all_but c.args.waiting.now c.args.group c.args.moves.now c.if-not-waiting-group.true

pub returns-clause-moved : goal.returns-clause-moved
returns-clause-moved g c =
    subst (λ l. AreMoved c.args.cores c.args.steer.now.tables l c.move_waiting.new.steer.tables)
    (chosen_of c.args.waiting.now c.only.result c.args.group c.args.moves.now c.if-not-waiting-group.false
    c.only.ensures) c.move_waiting.ensures.moved

pub returns-clause-left : goal.returns-clause-left
returns-clause-left g c =
    left_but c.args.waiting.now c.args.group c.args.moves.now
    (subst (λ n. c.args.group < n) (sym c.told-waiting) c.requires.group)
