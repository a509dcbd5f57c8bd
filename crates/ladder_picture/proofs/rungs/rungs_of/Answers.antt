use Rattle.std.proofs.Common.{sym, ◌∙◌, arith}
use Rattle.ladder_picture.proofs.Sides.{next_rung, all_put, next_high, still_small}
use Rattle.ladder_picture.proofs.rungs.rungs_of.Goals as goal

pub rungs-preserved : goal.rungs-preserved
rungs-preserved c = record {
  rest = next_rung c.rungs.invariant.rest.0 c.rungs.last c.rungs.ours.now c.rungs.theirs.now
      c.rows_behind-ours.result.now
      c.rows_behind-theirs.result.now c.rungs.rungs.items c.push.new.self.items _ c.first_tick-tick.result
      c.row_at.result c.row_at-in-rungs.result c.below-rung.result (sym c.are_over.ensures ∙ c.rungs-test.true)
      c.first_tick-tick.ensures c.row_at.ensures c.row_at-in-rungs.ensures c.below-rung.ensures
      c.rows_behind-ours.ensures c.rows_behind-theirs.ensures c.in_ok-push.ensures.items c.rungs.invariant.rest.1
      c.rungs.invariant.rest.2;
  high = next_high c.rungs.last c.first_tick-tick.result c.row_at.result c.row_at-in-rungs.result c.below-rung.result
      c.rungs.rungs.items c.push.new.self.items c.rungs.invariant.high c.below-rung.ensures c.in_ok-push.ensures.items;
}

pub below-rung-requires : goal.below-rung-requires
below-rung-requires c = still_small c.rungs.last c.rungs.rungs.items c.rungs.invariant.high
    (omega (arith, c.rungs.rungs.small, c.rungs.rungs.ok))

pub returns : goal.returns
returns c = all_put c.rungs.invariant.rest.0 c.rungs.last c.rungs.ours.now c.rungs.theirs.now c.rungs.rungs.items _
    (sym c.are_over.ensures ∙ c.rungs-test.false) c.rungs.invariant.rest.2
