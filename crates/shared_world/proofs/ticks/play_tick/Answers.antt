-- Answers of the proof of ticks/play_tick.
use Rattle.std.proofs.Common.{◌≡◌, length, refl, sym, subst, ap, ◌∙◌, arith}
use Rattle.scenario_runs.specs.Histories.{AreBelow}
use Rattle.scenario_runs.specs.Runs.{IsTick}
use Rattle.scenario_runs.specs.Worlds.{World}
use Rattle.shared_world.specs.Sites.{HasPlayed, world_of}
use Rattle.shared_world.proofs.Rounds.{ready_len, stepped, steps_made}
use Rattle.shared_world.proofs.ticks.play_tick.Goals as goal

pub play_steps-requires-clause-count : goal.play_steps-requires-clause-count
play_steps-requires-clause-count g c =
    ap length c.deref_mut.ensures.value
    ∙ ready_len c.args.s.now c.args.tick c.requires.ready.0 c.args.w.now c.requires.ready.1

pub send_on-requires-clause-played : goal.send_on-requires-clause-played
send_on-requires-clause-played g c =
    let w = c.args.w.now in
    let hs = c.play_steps.new.hosts in
    let ys = c.play_steps.new.scripts in
    let hosts_len : length hs ≡ w.hosts.len = omega arith in
    let next_len : length ys ≡ w.scripts.len = omega arith in (
      c.requires.ready.0,
      c.made_ticks_are_right.ensures.played c.args.s.now c.args.tick c.requires.ready.0 w (stepped w hs ys)
          c.in_ok-due.due c.requires.ready.1 c.in_ok-due.ensures
          (steps_made c.args.s.now c.args.tick c.in_ok-due.due w c.deref_mut.result.now hs c.deref_mut-2.result.now ys
          c.deref_mut.ensures.value c.deref_mut-2.ensures.value hosts_len next_len c.in_ok-play_steps.ensures.made)
          refl,
    )

pub returns-clause-tick : goal.returns-clause-tick
returns-clause-tick g c =
    let w = c.args.w.now in
    let hs = c.play_steps.new.hosts in
    let ys = c.play_steps.new.scripts in
    let hosts_len : length hs ≡ w.hosts.len = omega arith in
    let next_len : length ys ≡ w.scripts.len = omega arith in
    subst (λ (az : World). IsTick c.args.s.now c.args.tick (world_of w) az) (sym c.in_ok-send_on.ensures.same)
    (c.made_ticks_are_right.ensures.tick c.args.s.now c.args.tick c.requires.ready.0 w (stepped w hs ys)
    c.in_ok-due.due c.requires.ready.1 c.in_ok-due.ensures
    (steps_made c.args.s.now c.args.tick c.in_ok-due.due w c.deref_mut.result.now hs c.deref_mut-2.result.now ys
    c.deref_mut.ensures.value c.deref_mut-2.ensures.value hosts_len next_len c.in_ok-play_steps.ensures.made))

pub returns-clause-below : goal.returns-clause-below
returns-clause-below g c = λ cores ready low.
    let w = c.args.w.now in
    let hs = c.play_steps.new.hosts in
    let ys = c.play_steps.new.scripts in
    let hosts_len : length hs ≡ w.hosts.len = omega arith in
    let next_len : length ys ≡ w.scripts.len = omega arith in
    subst (AreBelow cores) (sym c.in_ok-send_on.ensures.same)
    (c.made_ticks_are_right.ensures.below c.args.s.now c.args.tick cores w (stepped w hs ys) c.in_ok-due.due ready
    c.in_ok-due.ensures
    (steps_made c.args.s.now c.args.tick c.in_ok-due.due w c.deref_mut.result.now hs c.deref_mut-2.result.now ys
    c.deref_mut.ensures.value c.deref_mut-2.ensures.value hosts_len next_len c.in_ok-play_steps.ensures.made) low)

pub returns-clause-ready : goal.returns-clause-ready
returns-clause-ready g c = λ cores ready.
    let w = c.args.w.now in
    let hs = c.play_steps.new.hosts in
    let ys = c.play_steps.new.scripts in
    let hosts_len : length hs ≡ w.hosts.len = omega arith in
    let next_len : length ys ≡ w.scripts.len = omega arith in
    let played : HasPlayed c.args.s.now c.args.tick cores (stepped w hs ys) =
    c.made_ticks_are_right.ensures.played c.args.s.now c.args.tick cores w (stepped w hs ys) c.in_ok-due.due ready
    c.in_ok-due.ensures
    (steps_made c.args.s.now c.args.tick c.in_ok-due.due w c.deref_mut.result.now hs c.deref_mut-2.result.now ys
    c.deref_mut.ensures.value c.deref_mut-2.ensures.value hosts_len next_len c.in_ok-play_steps.ensures.made) refl in
    let next = c.in_ok-send_on.ensures.ready cores played in
    record {
      playable = next.playable;
      hosts = next.hosts;
      world = c.forget.ensures.world (world_of c.send_on.new.w) next.world;
      few = next.few;
    }
