use Rattle.std.proofs.Common.{ap, arith, rules, ◌<◌, length}
use Rattle.ladder_picture.proofs.OneMore.{end_set, end_past, with_ends}
use Rattle.ladder_picture.proofs.joins.Arrows.end.Goals as goal

pub returns-in_ok-push-clause-sent : goal.returns-in_ok-push-clause-sent
returns-in_ok-push-clause-sent c =
    let below : c.args.place < length c.args.self.now.sent.items = search rules in
    end_set c.args.self.now.sent.items c.args.place c.in-Some.sent.now _ c.args.arrival
    below c.in-Some.ensures.value
    (ap (with_ends c.in-Some.sent.now) c.in_ok-push.ensures.items)

pub returns-in_default-clause-sent : goal.returns-in_default-clause-sent
returns-in_default-clause-sent c =
    end_past c.args.self.now.sent.items c.args.place c.args.arrival (omega (arith, c.in_default.ensures.item))
