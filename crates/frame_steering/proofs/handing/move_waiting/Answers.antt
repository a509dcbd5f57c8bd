use Rattle.std.proofs.Common.{◌∙◌}
use Rattle.frame_steering.proofs.Growing.{waiting_more}
use Rattle.frame_steering.proofs.handing.move_waiting.Goals as goal

pub loop-moving-preserved : goal.loop-moving-preserved
loop-moving-preserved g c = (
  c.move_one.ensures.own ∙ c.loop-moving.invariant.0,
  waiting_more c.args.cores _ _ _ c.args.waiting.now c.args.moves.now c.loop-moving.moving-index _
      c.loop-moving-test.true c.loop-moving.invariant.1 c.move_one.ensures.moved,
)
