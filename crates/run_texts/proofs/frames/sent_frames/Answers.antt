use Rattle.std.proofs.Common.{rules}
use Rattle.std.proofs.lemmas.List.Sorted.{IsNonDecreasingBy-from_sort_by_key, answers_always}
use Rattle.run_texts.proofs.Ordered.{in_order}
use Rattle.run_texts.proofs.frames.sent_frames.Goals as goal

pub returns : goal.returns
returns c =
    in_order _ c.add_hosts.new.frames.items _ (search rules)
    (IsNonDecreasingBy-from_sort_by_key (λ f. f.tick) _ c.in_ok-sort_by_key.ensures.sorted
    (λ a r q k. search rules))
    (c.sort_by_key.ensures.stable (λ f. f.tick) (answers_always _ _ _ (λ f a r q k. search rules)))
