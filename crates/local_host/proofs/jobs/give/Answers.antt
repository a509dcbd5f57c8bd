use Rattle.std.proofs.Common.{refl, ap, ◌∙◌}
use Rattle.local_host.specs.declared.lanes.Lane.{Lane}
use Rattle.local_host.proofs.HandingOut.{job_given}
use Rattle.local_host.proofs.jobs.give.Goals as goal

pub returns : goal.returns
returns c = λ jobs strays trials are.
    job_given c.args.job c.in_ok-i.i c.index_mut.result.now _ c.in_ok-i.ensures.low c.index_mut.ensures.value
    (ap (λ (l : Lane). l.core) c.index_mut.ensures.value ∙ c.in_ok-i.ensures.core c.index_mut.result.now)
    refl refl refl refl c.in_ok-push.ensures.items (c.in_ok-i.ensures.lanes jobs strays trials are)
