use Rattle.std.proofs.Common.{◌<◌, length, arith}
use Rattle.std.proofs.lemmas.List.Elements.{All-set}
use Rattle.host_tests.specs.Hosts.{IsCore}
use Rattle.host_tests.proofs.host.collect_all.Goals as goal

pub collect-requires : goal.collect-requires
collect-requires c =
    let near : c.loop-core.core < length c.loop-core.workers =
    omega (arith, c.loop-core-test.true, c.loop-core.auto.workers) in
    (c.loop-core.invariant.0, c.loop-core.invariant.1 c.loop-core.core c.index-workers-core.result near)

pub returns-then-not-collect-clause-cores : goal.returns-then-not-collect-clause-cores
returns-then-not-collect-clause-cores c =
    All-set (IsCore c.args.shared.now) c.loop-core.workers c.loop-core.core c.collect.new.core c.collect.ensures.1
    c.loop-core.invariant.1

pub loop-core-preserved : goal.loop-core-preserved
loop-core-preserved c = (
  c.collect.ensures.0,
  All-set (IsCore c.args.shared.now) c.loop-core.workers c.loop-core.core c.collect.new.core c.collect.ensures.1
      c.loop-core.invariant.1,
)
