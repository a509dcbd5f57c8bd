use Rattle.std.proofs.Common.{refl, arith}
use Rattle.local_host.proofs.HandingOut.{trial_given}
use Rattle.local_host.proofs.jobs.seat_last.Goals as goal

pub returns : goal.returns
returns c = λ jobs strays trials are.
    trial_given c.args.trial _ c.index_mut.result.now _ (omega (arith, c.len-last.ensures, c.requires))
    c.index_mut.ensures.value refl refl refl refl c.in_ok-push.ensures.items are
