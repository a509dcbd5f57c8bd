use Rattle.std.proofs.Common.{[], take, refl}
use Rattle.local_host.proofs.HandingOut.{stray_more}
use Rattle.local_host.proofs.jobs.give_strays.Goals as goal

pub loop-handed-preserved : goal.loop-handed-preserved
loop-handed-preserved c = λ jobs are.
    stray_more c.args.strays.now c.loop-handed.handed-index _ c.in_ok-i.i c.index_mut.result.now _
    c.loop-handed-test.true c.in_ok-i.ensures.low c.index_mut.ensures.value refl refl refl refl
    c.in_ok-push.ensures.items
    (c.in_ok-i.ensures.lanes jobs (take c.loop-handed.handed-index c.args.strays.now) []
    (c.loop-handed.invariant jobs are))
