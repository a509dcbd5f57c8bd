use Rattle.scenario_runs.specs.Worlds.{starts_of, address_in}
use Rattle.scenario_host.specs.Turns.{turn_of}
use Rattle.local_host.proofs.Places.{ok_by}
use Rattle.scenario_host.proofs.Stepping.{send_step, fill_step}
use Rattle.scenario_host.proofs.script.AppScript.take_step.Goals as goal

pub returns-in-Send-clause-made : goal.returns-in-Send-clause-made
returns-in-Send-clause-made g c =
    ok_by c.send.result
    (send_step (starts_of c.args.starts.now.params) (address_in c.args.hosts.now) c.args.tick c.args.step.now
    c.in-Send.socket c.in-Send.text c.as_slice-in-Send.result.now c.as_slice-in-Send-2.result.now
    (turn_of (g.H.AskedHost.seen c.args.host.now) c.args.self.now) (turn_of (g.H.AskedHost.seen c.send.new.host)
    c.send.new.self) c.in-Send.is
    c.as_slice-in-Send.ensures c.as_slice-in-Send-2.ensures)
    c.send.ensures.made

pub returns-in-Fill-clause-made : goal.returns-in-Fill-clause-made
returns-in-Fill-clause-made g c =
    ok_by c.fill.result
    (fill_step (starts_of c.args.starts.now.params) (address_in c.args.hosts.now) c.args.tick c.args.step.now
    c.in-Fill.socket c.as_slice-in-Fill.result.now c.in-Fill.count (turn_of (g.H.AskedHost.seen c.args.host.now)
    c.args.self.now)
    (turn_of (g.H.AskedHost.seen c.fill.new.host) c.fill.new.self) c.in-Fill.is c.as_slice-in-Fill.ensures)
    c.fill.ensures.made
