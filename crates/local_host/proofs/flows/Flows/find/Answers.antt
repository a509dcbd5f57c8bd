use Rattle.std.proofs.Common.{◌≡◌, true, List, Some, sym, ap, subst, ◌∙◌, position}
use Rattle.host_rounds.specs.Hosts.{Live, is_indexed_as}
use Rattle.local_host.specs.Index.{passes_at, is_standing}
use Rattle.local_host.proofs.Standing.{indexed_found, found_stands}
use Rattle.local_host.proofs.flows.Flows.find.Goals as goal

found : (c : goal.Then-is_indexed_at) → Some c.self.inside.table.recent
    ≡ position (is_indexed_as c.args.tuple.now) c.self.inside.table.flows.items
found c =
    indexed_found c.args.tuple.now c.self.inside.table.flows.items c.self.inside.table.recent c.self.invariant.index
    (subst (λ (ls : List Live). passes_at (is_indexed_as c.args.tuple.now) ls c.self.inside.table.recent ≡ true)
    c.deref.ensures.value (sym c.is_indexed_at.ensures ∙ c.if-is_indexed_at.true))

pub returns-then-is_indexed_at-clause-place : goal.returns-then-is_indexed_at-clause-place
returns-then-is_indexed_at-clause-place c = found c ∙ ap (position (is_indexed_as c.args.tuple.now)) c.self.view_is

pub returns-then-is_indexed_at-clause-standing : goal.returns-then-is_indexed_at-clause-standing
returns-then-is_indexed_at-clause-standing c =
    subst (λ (ls : List Live). passes_at is_standing ls c.self.inside.table.recent ≡ true) c.self.view_is
    (found_stands c.args.tuple.now c.self.inside.table.flows.items c.self.inside.table.recent
    (sym (found c)) c.self.invariant.filed)
