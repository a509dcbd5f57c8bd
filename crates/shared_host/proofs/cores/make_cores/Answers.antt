use Rattle.std.proofs.Common.{map, refl, sym, ap, ◌∙◌}
use Rattle.shared_host.specs.Cores.{first_sender}
use Rattle.shared_host.proofs.Adding.{no_cores}
use Rattle.shared_host.proofs.SlowPaths.{all_left, core_added}
use Rattle.slow_worker.specs.Workers.{Sight}
use Rattle.shared_host.proofs.cores.make_cores.Goals as goal

pub loop-core-init : goal.loop-core-init
loop-core-init g c = record {
  slow = all_left c.args.slow.now.path.params c.args.table.now c.args.cores c.args.slow.now c.requires.slow;
  made = no_cores c.args.host c.args.table.now c.new.result.items c.new-2.result.items c.new.ensures.items
      c.new-2.ensures.items;
  kickers = c.requires.none ∙ sym (ap (map first_sender) c.new.ensures.items);
  steer = refl;
}

pub loop-core-preserved : goal.loop-core-preserved
loop-core-preserved g c = record {
  slow = core_added c.args.slow.now.path.params c.args.table.now c.loop-core.core c.args.cores c.loop-core.slow
      c.add_core.new.slow c.loop-core.invariant.slow c.in_ok-add_core.ensures.pass c.in_ok-add_core.ensures.reader
      c.in_ok-add_core.ensures.index c.add_core.ensures.rest;
  made = c.in_ok-add_core.ensures.cores;
  kickers = c.in_ok-add_core.ensures.kickers;
  steer = c.add_core.ensures.steer ∙ c.loop-core.invariant.steer;
}

pub add_core-requires-clause-made : goal.add_core-requires-clause-made
add_core-requires-clause-made g c = ap (λ (s : Sight). s.pass.view.made) c.loop-core.invariant.slow.sight
