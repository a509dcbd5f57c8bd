use Rattle.std.proofs.Common.{map, ◌∙◌}
use Rattle.local_host.specs.Arriving.{arrival_in}
use Rattle.local_host.proofs.Places.{ok_by}
use Rattle.scenario_host.specs.Resting.{scripts_in}
use Rattle.scenario_host.proofs.Playing.{sound_later, lasts_deliveries, played}
use Rattle.scenario_host.proofs.host.play_tick.Goals.{In_ok-deliver_all}
use Rattle.scenario_host.proofs.host.play_tick.Goals as goal

pub ask_all-requires : goal.ask_all-requires
ask_all-requires c = record {
  sound = sound_later c.args.host.now c.deliver_all.new.host (scripts_in c.args.scripts.now)
      (lasts_deliveries c.args.starts.now.params c.args.tick (map arrival_in c.args.arrivals.now) c.args.host.now
      c.pass_time.new.self c.deliver_all.new.host c.in_ok-pass_time.ensures.made c.in_ok-deliver_all.ensures)
      c.requires.sound;
  kept = c.requires.kept;
}

pub returns-clause-made : goal.returns-clause-made
returns-clause-made c =
    ok_by c.send_all.result
    (λ made.
    played c.args.s.now c.args.starts.now.params c.args.tick (map arrival_in c.args.arrivals.now) c.args.host.now
    c.pass_time.new.self c.deliver_all.new.host c.ask_all.new.host c.send_all.new.self (scripts_in c.args.scripts.now)
    (scripts_in c.ask_all.new.scripts) c.in_ok-pass_time.ensures.made c.in_ok-deliver_all.ensures
    c.in_ok-ask_all.ensures.made made)
    c.send_all.ensures.made

pub returns-clause-params : goal.returns-clause-params
returns-clause-params c =
    ok_by c.send_all.result
    (λ made.
    c.send_all.ensures.params
    ∙ (c.in_ok-ask_all.ensures.params
    ∙ (lasts_deliveries c.args.starts.now.params c.args.tick (map arrival_in c.args.arrivals.now) c.args.host.now
    c.pass_time.new.self c.deliver_all.new.host c.in_ok-pass_time.ensures.made c.in_ok-deliver_all.ensures).params))
    c.send_all.ensures.made
