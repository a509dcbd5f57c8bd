-- Answers of the proof of ending/leave_all.
use Rattle.std.proofs.Common.{rules, List, length, ap, sym, ◌∙◌, arith}
use Rattle.core_phase.specs.declared.lane.Lane.{Lane}
use Rattle.core_host.proofs.Pins.{leaving_begins, leaving_more, leaving_ends, next_ease, no_lanes, still_quiet}
use Rattle.core_host.proofs.ending.leave_all.Goals as goal

pub loop-lane-init : goal.loop-lane-init
loop-lane-init c =
    let items = c.into_iter-lane-iterator.ensures.into_iter_gives.0 in record {
      left = leaving_begins c.args.table.now c.args.lanes.items c.into_iter-lane-iterator.result.rest.items
          c.args.slow.now c.requires.slow c.requires.idle items;
      count = search rules;
    }

pub leave_lane-requires-clause-slow : goal.leave_lane-requires-clause-slow
leave_lane-requires-clause-slow c =
    still_quiet c.args.table.now c.loop-lane.invariant.left.done c.args.slow.now c.loop-lane.slow c.requires.slow
    c.loop-lane.invariant.left.view

pub leave_lane-requires-clause-idle : goal.leave_lane-requires-clause-idle
leave_lane-requires-clause-idle c =
    next_ease c.args.table.now c.args.lanes.items c.loop-lane.lane-iterator.rest.items c.next.new.self.rest.items
    c.args.slow.now c.loop-lane.slow c.in-Some.lane c.loop-lane.invariant.left c.in-Some.ensures.steps.0

pub loop-lane-preserved : goal.loop-lane-preserved
loop-lane-preserved c = record {
  left = leaving_more c.args.table.now c.args.lanes.items c.loop-lane.lane-iterator.rest.items
      c.next.new.self.rest.items
      c.args.slow.now c.loop-lane.slow c.leave_lane.new.slow c.in-Some.lane c.loop-lane.invariant.left
      c.in-Some.ensures.steps.0 c.leave_lane.ensures;
  count =
      let items = ap (λ (l : List Lane). length l) c.in-Some.ensures.steps.0 in
      let len = c.in-Some.ensures.steps.1 in
      let count = c.loop-lane.invariant.count in omega (arith, items, len, count);
}

pub returns : goal.returns
returns c =
    leaving_ends c.args.table.now c.args.lanes.items c.loop-lane.lane-iterator.rest.items c.args.slow.now
    c.loop-lane.slow c.loop-lane.invariant.left
    (no_lanes c.loop-lane.lane-iterator.rest.items (sym c.loop-lane.invariant.count ∙ c.in-None.ensures.steps.0))
