use Rattle.std.proofs.Common.{◌++◌, ◌∙◌, List, map, ap, subst}
use Rattle.std.specs.Prelude.{IsPermutation}
use Rattle.local_host.specs.declared.attempts.Trial.{Trial}
use Rattle.local_host.specs.declared.lanes.Handed.{Handed}
use Rattle.local_host.specs.Arriving.{arrival_in}
use Rattle.local_host.specs.Handing.{left_in, trials_in}
use Rattle.local_host.specs.Trying.{attempt_of, put_trials}
use Rattle.local_host.proofs.CoreTaking.{frames_alone}
use Rattle.local_host.proofs.cores.gather.Goals as goal

pub returns : goal.returns
returns c = record {
  left = c.sort_by_key.new.self.items;
  done = c.in_ok-put_back.ensures.done;
  flows = c.in_ok-attempts.ensures.flows
      ∙ (ap (λ (xs : List Trial). put_trials xs c.put_back.new.flows.items) c.in_ok-put_back.ensures.trials
      ∙ ap (put_trials (trials_in c.args.lanes.items)) c.in_ok-put_back.ensures.flows);
  attempts = c.in_ok-attempts.ensures.attempts ∙ ap (map attempt_of) c.in_ok-put_back.ensures.trials;
  sorted = subst (λ (hs : List Handed). IsPermutation hs c.sort_by_key.new.self.items)
      (c.in_ok-put_back.ensures.left
      ∙ ap (λ (hs : List Handed). hs ++ left_in c.args.lanes.items) c.new-left.ensures.items)
      c.in_ok-sort_by_key.ensures.permutation;
  rest = ap (map arrival_in) (c.in_ok-rest.ensures ∙ ap (map (λ (h : Handed). h.arrival)) c.deref.ensures.value)
      ∙ frames_alone c.sort_by_key.new.self.items;
}
