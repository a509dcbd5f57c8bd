use Rattle.std.proofs.Common.{[], ◌∷◌}
use Rattle.local_host.proofs.Trying.{more_put}
use Rattle.local_host.proofs.attempts.put_tried.Goals as goal

pub loop-trial-preserved : goal.loop-trial-preserved
loop-trial-preserved c =
    more_put c.loop-trial.yielded (c.in-Some.trial ∷ []) c.args.flows.now.items c.loop-trial.flows.items
    c.put.new.flows.items c.args.attempts.now.items c.loop-trial.attempts.items c.push.new.self.items
    c.loop-trial.invariant.0 c.in_ok-put.ensures c.loop-trial.invariant.1 c.in_ok-push.ensures.items
