use Rattle.std.proofs.Common.{rules, ◌≡◌, ◌<◌, true, false, List, length, Some, None, sym, ap, subst, ◌∙◌, position}
use Rattle.std.proofs.Common.{get_or}
use Rattle.std.specs.HashMap.{get}
use Rattle.capture_items.specs.Starts.{equal_tuple}
use Rattle.host_rounds.specs.Hosts.{Live, is_indexed_as}
use Rattle.local_host.specs.Index.{latest_of, passes_at, is_standing}
use Rattle.local_host.proofs.Indexing.{latest_found, latest_not_found, none_latest}
use Rattle.local_host.proofs.Standing.{found_stands}
use Rattle.local_host.proofs.flows.Flows.find_latest.Goals as goal

pub index-requires : goal.index-requires
index-requires c =
    let kept : get equal_tuple c.self.inside.table.openings c.args.tuple.now
    ≡ Some c.in_ok-latest.field-0.now = sym c.in_ok-latest.ensures.value in
    let below : c.in_ok-latest.field-0.now.latest < length c.self.inside.table.flows.items =
    c.self.invariant.index.within c.args.tuple.now c.in_ok-latest.field-0.now.latest (ap latest_of kept) in
    search rules

pub returns-in_err-latest-clause-place : goal.returns-in_err-latest-clause-place
returns-in_err-latest-clause-place c =
    let none : get equal_tuple c.self.inside.table.openings c.args.tuple.now
    ≡ None = sym c.in_err-latest.ensures.value in
    c.from_residual.ensures ∙ subst (λ (ls : List Live). None ≡ position (is_indexed_as c.args.tuple.now) ls)
    c.self.view_is
    (none_latest (get equal_tuple c.self.inside.table.openings) c.args.tuple.now c.self.inside.table.flows.items
    c.self.invariant.index (ap latest_of none))

found : (c : goal.Then-is_indexed_as) → Some c.in_ok-latest.field-0.now.latest
    ≡ position (is_indexed_as c.args.tuple.now) c.self.inside.table.flows.items
found c =
    let kept : get equal_tuple c.self.inside.table.openings c.args.tuple.now
    ≡ Some c.in_ok-latest.field-0.now = sym c.in_ok-latest.ensures.value in
    let here : is_indexed_as c.args.tuple.now (get_or c.self.inside.table.flows.items c.in_ok-latest.field-0.now.latest
    c.index.result.now) ≡ true = ap (is_indexed_as c.args.tuple.now) (sym c.index.ensures)
    ∙ (sym c.is_indexed_as.ensures ∙ c.if-is_indexed_as.true) in
    latest_found (get equal_tuple c.self.inside.table.openings) c.args.tuple.now c.self.inside.table.flows.items
    c.in_ok-latest.field-0.now.latest c.index.result.now c.self.invariant.index (ap latest_of kept) here

pub returns-then-is_indexed_as-clause-place : goal.returns-then-is_indexed_as-clause-place
returns-then-is_indexed_as-clause-place c = subst
    (λ (ls : List Live). Some c.in_ok-latest.field-0.now.latest ≡ position (is_indexed_as c.args.tuple.now) ls)
    c.self.view_is (found c)

pub returns-else-is_indexed_as-clause-place : goal.returns-else-is_indexed_as-clause-place
returns-else-is_indexed_as-clause-place c =
    let kept : get equal_tuple c.self.inside.table.openings c.args.tuple.now
    ≡ Some c.in_ok-latest.field-0.now = sym c.in_ok-latest.ensures.value in
    let away : is_indexed_as c.args.tuple.now (get_or c.self.inside.table.flows.items c.in_ok-latest.field-0.now.latest
    c.index.result.now) ≡ false = ap (is_indexed_as c.args.tuple.now) (sym c.index.ensures)
    ∙ (sym c.is_indexed_as.ensures ∙ c.if-is_indexed_as.false) in
    subst (λ (ls : List Live). None ≡ position (is_indexed_as c.args.tuple.now) ls) c.self.view_is
    (latest_not_found (get equal_tuple c.self.inside.table.openings) c.args.tuple.now c.self.inside.table.flows.items
    c.in_ok-latest.field-0.now.latest c.index.result.now c.self.invariant.index (ap latest_of kept) away)

pub returns-then-is_indexed_as-clause-standing : goal.returns-then-is_indexed_as-clause-standing
returns-then-is_indexed_as-clause-standing c =
    subst (λ (ls : List Live). passes_at is_standing ls c.in_ok-latest.field-0.now.latest ≡ true) c.self.view_is
    (found_stands c.args.tuple.now c.self.inside.table.flows.items c.in_ok-latest.field-0.now.latest
    (sym (found c)) c.self.invariant.filed)
