use Rattle.std.proofs.Common.{drop}
use Rattle.left_right.specs.Sides.{view}
use Rattle.flow_index.proofs.Steps.{publishes}
use Rattle.flow_index.proofs.Publishing as publishing
use Rattle.flow_index.proofs.index.publish_all.Goals as goal

pub publish_as-requires : goal.publish_as-requires
publish_as-requires g c next is = let w = c.args.writer in
    publishes _ _ w.desk.shown.value next (drop w.behind w.log.items) is

pub returns-clause-later : goal.returns-clause-later
returns-clause-later g c =
    let w = c.args.writer in let r = c.publish_as.result in
    let x = w.desk in let y = r.0.desk in
    let before = drop w.behind w.log.items in let after = drop r.0.behind r.0.log.items in
    publishing.later (view x.place) (view y.place) x.shown.value y.shown.value before after r.1
    c.publish_as.ensures.rule

pub returns-clause-published : goal.returns-clause-published
returns-clause-published g c =
    let w = c.args.writer in let r = c.publish_as.result in
    let x = w.desk in let y = r.0.desk in
    let before = drop w.behind w.log.items in let after = drop r.0.behind r.0.log.items in
    publishing.published (view x.place) (view y.place) x.shown.value y.shown.value before after r.1
    c.publish_as.ensures.rule c.publish_as.ensures.values

pub returns-clause-made : goal.returns-clause-made
returns-clause-made g c =
    let w = c.args.writer in let r = c.publish_as.result in
    let x = w.desk in let y = r.0.desk in
    let before = drop w.behind w.log.items in let after = drop r.0.behind r.0.log.items in
    publishing.made (view x.place) (view y.place) x.shown.value y.shown.value before after r.1
    c.publish_as.ensures.rule c.publish_as.ensures.values
