use Rattle.std.proofs.Common.{rules, ◌++◌, ◌∷◌, [], List, Option, sym, subst, ◌∙◌}
use Rattle.std.proofs.lemmas.Iterator.Adapters.{YieldsList-from_vec}
use Rattle.std.proofs.lemmas.Iterator.Consumers.{YieldsList-end}
use Rattle.std.proofs.lemmas.List.{map-id}
use Rattle.local_host.specs.declared.attempts.Attempt.{Attempt}
use Rattle.local_host.specs.Handing.{IsLendingOut}
use Rattle.local_host.proofs.jobs.lend_all.Goals as goal

pub loop-attempt-preserved : goal.loop-attempt-preserved
loop-attempt-preserved c = λ jobs strays are.
    let out = c.loop-attempt.invariant jobs strays are in
    record {
      trials = out.trials ++ c.in_ok-trial.trial ∷ [];
      lent = c.in_ok-trial.ensures c.args.flows.now.items c.loop-attempt.yielded out.trials out.lent;
      have = c.in_ok-seat.ensures jobs strays out.trials out.have;
    }

pub returns : goal.returns
returns c = λ jobs strays are.
    let all = YieldsList-from_vec c.args.attempts.items c.into_iter-attempt-iterator.ensures.into_iter_gives.0
    (search rules) in
    let end = YieldsList-end all c.loop-attempt.yielded c.loop-attempt.attempt-iterator c.loop-attempt.yielded_by
    c.next.result c.next.new.self c.in-None.is c.next.ensures.steps in
    subst
    (λ (xs : List (Option Attempt)).
    IsLendingOut c.args.flows.now.items c.loop-attempt.flows.items xs jobs strays c.loop-attempt.lanes.items)
    (sym (map-id c.loop-attempt.yielded) ∙ end.0) (c.loop-attempt.invariant jobs strays are)
