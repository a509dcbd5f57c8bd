use Rattle.scenario_text.specs.Canonical.{host_text}
use Rattle.scenario_text.proofs.Appended.{one_more}
use Rattle.scenario_text.proofs.printing.put_hosts.Goals as goal

pub loop-host-preserved : goal.loop-host-preserved
loop-host-preserved c =
    one_more host_text c.args.hosts.now c.loop-host.host-index c.host-item.result c.args.out.now.items
    c.loop-host.out.items c.put_host.new.out.items c.loop-host-test.true c.host-item.is c.loop-host.invariant
    c.in_ok-put_host.ensures
