use Rattle.std.proofs.Common.{◌++◌}
use Rattle.local_host.specs.Lanes.{worked_job, left_by}
use Rattle.local_host.proofs.LaneWork.{mapped_more, left_more}
use Rattle.local_host.proofs.lanes.work_jobs.Goals as goal

pub loop-k-preserved : goal.loop-k-preserved
loop-k-preserved g c = (
  mapped_more (worked_job c.args.tick) c.args.jobs.now c.loop-k.jobs c.loop-k.k c.index-jobs-k.result
      c.work_job.new.job c.loop-k-test.true c.in_ok-work_job.ensures.job c.loop-k.invariant.0,
  left_more c.args.tick c.args.jobs.now c.loop-k.jobs c.loop-k.k c.index-jobs-k.result c.loop-k.left.items
      c.work_job.new.left.items (c.args.left.now.items ++ left_by c.args.tick c.args.jobs.now) c.loop-k-test.true
      c.in_ok-work_job.ensures.left c.loop-k.invariant.0 c.loop-k.invariant.1,
)
