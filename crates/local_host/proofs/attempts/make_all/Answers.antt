use Rattle.local_host.specs.Trying.{tried_trial}
use Rattle.local_host.proofs.LaneWork.{mapped_more}
use Rattle.local_host.proofs.attempts.make_all.Goals as goal

pub loop-k-preserved : goal.loop-k-preserved
loop-k-preserved g c =
    mapped_more (tried_trial c.args.tick) c.args.trials.now c.loop-k.trials c.loop-k.k c.index-trials-k.result
    c.make_one.new.trial c.loop-k-test.true c.in_ok-make_one.ensures c.loop-k.invariant
