use Rattle.std.proofs.Common.{◌≡◌, ◌<◌, ◌+◌, not, false, length, sym, ap, ◌∙◌, arith}
use Rattle.std.proofs.lemmas.Result.{IfOk-weaker}
use Rattle.scenario_runs.specs.Worlds.{all_ended}
use Rattle.scenario_world.specs.Ends.{AreEnds}
use Rattle.scenario_world.proofs.Ended.{ends_len}
use Rattle.scenario_world.proofs.Finishing.{end_by, goes_on, rests, runs_out, end_shown}
use Rattle.scenario_world.proofs.world.play_scenario.Goals as goal

pub returns-then-is_at_rest-clause-run : goal.returns-then-is_at_rest-clause-run
returns-then-is_at_rest-clause-run c =
    let s = c.args.s.now in
    let p = c.play_tick.new.p in
    let t = c.loop-tick.tick in
    let inside : t < s.limit = omega arith in
    let world = c.in_ok-play_tick.ensures.world in
    end_shown s p.hosts.items (t + 1) false c.end_of.result
    (rests s t c.loop-tick.playing.hosts.items p.hosts.items inside c.loop-tick.invariant.run
    c.in_ok-play_tick.ensures.hosts
    (sym (c.is_at_rest.ensures s world) ∙ c.if-is_at_rest.true))
    world.params c.end_of.ensures.ends c.end_of.ensures.ticks c.end_of.ensures.stalled

pub returns-then-is_at_rest-clause-hosts : goal.returns-then-is_at_rest-clause-hosts
returns-then-is_at_rest-clause-hosts c =
    let s = c.args.s.now in
    let p = c.play_tick.new.p in
    IfOk-weaker c.end_of.result (λ end. AreEnds p.hosts.items end.hosts.items)
    (λ end. length end.hosts.items ≡ length s.hosts)
    (λ end ends. ends_len s.hosts p.hosts.items end.hosts.items c.in_ok-play_tick.ensures.world.params ends)
    c.end_of.ensures.ends

pub loop-tick-preserved : goal.loop-tick-preserved
loop-tick-preserved c =
    let s = c.args.s.now in
    let p = c.play_tick.new.p in
    let t = c.loop-tick.tick in
    let inside : t < s.limit = omega arith in
    let world = c.in_ok-play_tick.ensures.world in
    record {
      world = world;
      run = goes_on s t c.loop-tick.playing.hosts.items p.hosts.items inside c.loop-tick.invariant.run
          c.in_ok-play_tick.ensures.hosts (sym (c.is_at_rest.ensures s world) ∙ c.if-is_at_rest.false);
    }

pub returns-clause-run : goal.returns-clause-run
returns-clause-run c =
    let s = c.args.s.now in
    let t = c.loop-tick.tick in
    let p = c.loop-tick.playing in
    let over : t ≡ s.limit = omega arith in
    let ended : c.have_ended-stalled.result ≡ all_ended p.hosts.items =
    c.have_ended-stalled.ensures ∙ ap all_ended c.deref.ensures.value in
    end_shown s p.hosts.items s.limit (not c.have_ended-stalled.result) c.end_of-2.result
    (runs_out s t p.hosts.items over c.loop-tick.invariant.run
    ∙ ap (λ b. end_by p.hosts.items s.limit (not b)) (sym ended))
    c.loop-tick.invariant.world.params c.end_of-2.ensures.ends c.end_of-2.ensures.ticks c.end_of-2.ensures.stalled

pub returns-clause-hosts : goal.returns-clause-hosts
returns-clause-hosts c =
    let s = c.args.s.now in
    let p = c.loop-tick.playing in
    IfOk-weaker c.end_of-2.result (λ end. AreEnds p.hosts.items end.hosts.items)
    (λ end. length end.hosts.items ≡ length s.hosts)
    (λ end ends. ends_len s.hosts p.hosts.items end.hosts.items c.loop-tick.invariant.world.params ends)
    c.end_of-2.ensures.ends
