-- Answers of the proof of run/play_all.
use Rattle.std.proofs.Common.{◌≡◌, ◌<◌, ◌+◌, List, arith, refl, ap, ◌∙◌, rules}
use Rattle.std.specs.List.{list_all}
use Rattle.scenario_runs.specs.Applications.{Script, has_ended}
use Rattle.shared_world.proofs.Running.{comes_to_rest, goes_further, runs_out_so, sets_out}
use Rattle.shared_world.proofs.run.play_all.Goals as goal

pub loop-tick-init : goal.loop-tick-init
loop-tick-init g c = record {
  empty = search rules;
  way = λ cores start. sets_out c.args.s.now cores c.args.world.now start;
  crew = search rules;
}

pub play_tick-requires-clause-ready : goal.play_tick-requires-clause-ready
play_tick-requires-clause-ready g c =
    let start = c.requires.start in (start.0, (c.loop-tick.invariant.way start.0 start.1).ready)

pub is_at_rest-requires : goal.is_at_rest-requires
is_at_rest-requires g c =
    let start = c.requires.start in (
      c.args.s.now,
      start.0,
      c.in_ok-play_tick.ensures.ready start.0 (c.loop-tick.invariant.way start.0 start.1).ready,
    )

pub returns-then-is_at_rest-clause-over : goal.returns-then-is_at_rest-clause-over
returns-then-is_at_rest-clause-over g c =
    λ cores start.
    let s = c.args.s.now in
    let t = c.loop-tick.tick in
    let inside : t < s.limit = omega arith in
    let way = c.loop-tick.invariant.way cores start in
    let ready = c.in_ok-play_tick.ensures.ready cores way.ready in
    comes_to_rest s t cores c.loop-tick.world c.play_tick.new.w c.is_at_rest.new.w c.is_at_rest.result inside way
    (record {
      tick = c.in_ok-play_tick.ensures.tick;
      below = c.in_ok-play_tick.ensures.below cores way.ready;
      rest = c.is_at_rest.ensures.rest s cores ready;
      same = c.is_at_rest.ensures.same;
      ready = c.is_at_rest.ensures.ready s cores ready;
    })
    c.if-is_at_rest.true

pub loop-tick-preserved : goal.loop-tick-preserved
loop-tick-preserved g c = record {
  empty = c.in_ok-play_tick.ensures.empty;
  way = λ cores start.
      let s = c.args.s.now in
      let t = c.loop-tick.tick in
      let inside : t < s.limit = omega arith in
      let way = c.loop-tick.invariant.way cores start in
      let ready = c.in_ok-play_tick.ensures.ready cores way.ready in
      goes_further s t cores c.loop-tick.world c.play_tick.new.w c.is_at_rest.new.w c.is_at_rest.result inside way
      (record {
        tick = c.in_ok-play_tick.ensures.tick;
        below = c.in_ok-play_tick.ensures.below cores way.ready;
        rest = c.is_at_rest.ensures.rest s cores ready;
        same = c.is_at_rest.ensures.same;
        ready = c.is_at_rest.ensures.ready s cores ready;
      })
      c.if-is_at_rest.false;
  crew = c.play_tick.ensures.crew ∙ c.loop-tick.invariant.crew;
}

pub returns-clause-over : goal.returns-clause-over
returns-clause-over g c =
    λ cores start.
    let s = c.args.s.now in
    let t = c.loop-tick.tick in
    let over : t ≡ s.limit = omega arith in
    runs_out_so s t cores c.loop-tick.world c.have_ended.result over (c.loop-tick.invariant.way cores start)
    (c.have_ended.ensures
    ∙ ap (λ (xs : List (List Script)). list_all (λ (ys : List Script). list_all has_ended ys) xs) c.deref.ensures.value)
