use Rattle.std.proofs.Common.{◌≤◌, List, length, map, subst, rules}
use Rattle.std.specs.HashSet.{contains}
use Rattle.std.proofs.lemmas.List.{take_all}
use Rattle.local_host.specs.declared.arrival.Arrival.{Arrival}
use Rattle.local_host.specs.Arriving.{arrival_in}
use Rattle.local_host.specs.Keys.{same_key}
use Rattle.local_host.proofs.SeenFrames.{seen_more, not_seen, AreSeenBy}
use Rattle.local_host.proofs.distinct.are_distinct.Goals as goal

pub loop-arrival-preserved : goal.loop-arrival-preserved
loop-arrival-preserved c =
    seen_more (contains same_key c.loop-arrival.seen) (contains same_key c.see.new.seen) c.args.arrivals.now
    c.loop-arrival.arrival-index _ c.loop-arrival-test.true
    (not_seen c.in_ok-see.field-0 _ c.in_ok-see.ensures.first c.if-not-branch.false) c.in_ok-see.ensures.kept
    c.loop-arrival.invariant

pub returns : goal.returns
returns c = λ yes frame.
    let past : length c.args.arrivals.now ≤ c.loop-arrival.arrival-index = search rules in
    (subst (λ (xs : List Arrival). AreSeenBy (contains same_key c.loop-arrival.seen) (map arrival_in xs))
    (take_all c.loop-arrival.arrival-index c.args.arrivals.now past) c.loop-arrival.invariant frame).few
