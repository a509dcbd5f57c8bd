use Rattle.std.proofs.Common.{◌<◌, length, subst, arith}
use Rattle.core_worker.specs.Workers.{Worker}
use Rattle.host_tests.specs.Hosts.{IsCore}
use Rattle.host_tests.proofs.host.work_all.Goals as goal

pub returns : goal.returns
returns g c = λ k d near.
    let old : k < length c.args.workers.now = omega (arith, near, c.for_each_mut.auto.s) in
    let at = (c.for_each_mut.ensures k d old).1 in
    subst (λ (w : Worker). IsCore c.args.shared.now w) at.left at.call
