use Rattle.std.proofs.Common.{◌≡◌, Some, None, sym, ap, ◌∙◌}
use Rattle.std.specs.HashMap.{get}
use Rattle.capture_items.specs.Starts.{equal_tuple}
use Rattle.host_rounds.specs.Hosts.{opened_as}
use Rattle.local_host.specs.Index.{count_of}
use Rattle.local_host.proofs.flows.Flows.opened_as.Goals as goal

pub returns-in-Some : goal.returns-in-Some
returns-in-Some c =
    let kept : get equal_tuple c.self.inside.table.openings c.args.tuple.now
    ≡ Some c.in-Some.openings.now = sym c.in-Some.ensures.value in
    sym (ap count_of kept) ∙ (c.self.invariant.index.counts c.args.tuple.now
    ∙ ap (opened_as c.args.tuple.now) c.self.view_is)

pub returns-in-None : goal.returns-in-None
returns-in-None c =
    let none : get equal_tuple c.self.inside.table.openings c.args.tuple.now ≡ None = sym c.in-None.ensures.value in
    sym (ap count_of none) ∙ (c.self.invariant.index.counts c.args.tuple.now
    ∙ ap (opened_as c.args.tuple.now) c.self.view_is)
