-- Answers of the proof of collecting/collect_host.
use Rattle.std.proofs.Common.{◌≡◌, ◌-◌, ◌++◌, length, replicate, vec_len, ap, ◌∙◌, arith, rules}
use Rattle.scenario_world.proofs.Counted.{fewer_counted, opened_counts}
use Rattle.core_host.specs.Views.{seen_by}
use Rattle.shared_world.proofs.collecting.collect_host.Goals as goal

pub open_to-requires : goal.open_to-requires
open_to-requires c =
    omega (
      arith,
      fewer_counted c.args.tick (seen_by c.args.host.now) c.args.counts.now c.requires.counted,
      c.flow_count.ensures,
    )

pub collect_flows-requires-clause-counted : goal.collect_flows-requires-clause-counted
collect_flows-requires-clause-counted c =
    let old = c.args.counts.now.flows in
    let len : vec_len old ≡ length old.items = search rules in
    opened_counts c.args.tick (vec_len old) (seen_by c.args.host.now) c.args.counts.now
    c.open_to.new.self.flows.items c.requires.counted len
    (c.in_ok-open_to.ensures.flows ∙ ap (λ n. old.items ++ replicate (n - vec_len old) 0) c.flow_count.ensures)
