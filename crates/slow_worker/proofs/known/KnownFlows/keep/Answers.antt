use Rattle.std.proofs.Common.{◌≡◌, ◌≤◌, ◌∙◌, ap, length, arith, rules, tests}
use Rattle.std.specs.Prelude.{vec_capacity}
use Rattle.std.specs.HashMap.{get, hash_map_len, spare}
use Rattle.std.proofs.lemmas.Fn.{filter_same}
use Rattle.flow_index.specs.Changes.{is_same}
use Rattle.app_reaper.specs.Lists.{Roomy}
use Rattle.slow_worker.specs.Turns.{is_pinned, still_known}
use Rattle.slow_worker.specs.declared.known.KnownFlow.{KnownFlow}
use Rattle.slow_worker.proofs.Found.{same_flows}
use Rattle.slow_worker.proofs.known.KnownFlows.keep.Goals as goal

pub returns : goal.returns
returns c = record {
  list =
      filter_same _ (λ (f : KnownFlow). is_pinned c.args.pins.now.list f.id) _ (λ x b q k. search (rules, tests)) _ _
      c.retain.ensures.filtered
      ∙ ap (λ (l : Roomy KnownFlow). still_known c.args.pins.now.list l.list) c.self.view_is;
}

-- ----- none was left out
pub invariant_of-self : goal.invariant_of-self
invariant_of-self c =
    let before = c.self.inside.flows.ok.0 in
    let after = c.retain.new.self.ok.0 in
    let many : length c.retain.new.self.items ≡ length c.self.inside.flows.items =
    let test = c.if-len.true in
    let old = c.len-len.ensures in
    let now = c.len.ensures in grind (arith, tests, before, after, test, old, now) in
    let listed : vec_capacity c.self.inside.flows ≤ vec_capacity c.retain.new.self =
    let same = c.retain.ensures.capacity in omega (arith, same) in
    same_flows (λ (f : KnownFlow). is_pinned c.args.pins.now.list f.id) c.self.inside.flows.items
    c.retain.new.self.items c.self.inside.room _ _ (get is_same c.self.inside.firsts)
    (hash_map_len c.self.inside.firsts) (spare c.self.inside.firsts) c.self.invariant
    (filter_same _ (λ (f : KnownFlow). is_pinned c.args.pins.now.list f.id) _ (λ x b q k. search (rules, tests)) _ _
    c.retain.ensures.filtered) many listed

pub returns-then-len : goal.returns-then-len
returns-then-len c = record {
  list =
      filter_same _ (λ (f : KnownFlow). is_pinned c.args.pins.now.list f.id) _ (λ x b q k. search (rules, tests)) _ _
      c.retain.ensures.filtered
      ∙ ap (λ (l : Roomy KnownFlow). still_known c.args.pins.now.list l.list) c.self.view_is;
}
