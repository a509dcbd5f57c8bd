-- Answers of the proof of collecting/collect_flows.
use Rattle.std.proofs.Common.{◌+◌, ◌<◌, length, arith}
use Rattle.core_host.specs.Views.{seen_by}
use Rattle.shared_world.proofs.Closed.{indexed_there}
use Rattle.shared_world.proofs.Collected.{count_next, collected_on, collected_past, collected_as}
use Rattle.shared_world.proofs.collecting.collect_flows.Goals.{then-is_indexed+in_ok-collect_at, else-is_indexed}
use Rattle.shared_world.proofs.collecting.collect_flows.Goals as goal

pub collect_at-requires-clause-there : goal.collect_at-requires-clause-there
collect_at-requires-clause-there c =
    let inside : c.loop-place.place < length (seen_by c.args.host.now).flows =
    omega (arith, c.flow_count-place-end.ensures, c.loop-place-test.true) in
    indexed_there c.args.host.now c.loop-place.host c.loop-place.place c.loop-place.at c.is_indexed.result
    c.loop-place.invariant.looked c.loop-place.invariant.count inside c.is_indexed.ensures c.if-is_indexed.true

pub collect_at-requires-clause-counted : goal.collect_at-requires-clause-counted
collect_at-requires-clause-counted c l here =
    (count_next c.args.tick c.args.sender.now.host c.args.sender.now.addresses.now c.args.host.now c.loop-place.host
    c.loop-place.place c.loop-place.at c.args.counts.now c.loop-place.counts c.args.sent.now c.loop-place.sent l
    c.loop-place.invariant here).1

pub loop-place-preserved : goal.loop-place-preserved
loop-place-preserved c =
    let inside : c.loop-place.place < length (seen_by c.args.host.now).flows =
    omega (arith, c.flow_count-place-end.ensures, c.loop-place-test.true) in
    elim c.if-is_indexed.branch [
      | then-is_indexed+in_ok-collect_at w ↦
          collected_as c.args.tick c.args.sender.now.host c.args.sender.now.addresses.now c.args.host.now
          w.collect_at.new.host c.if-is_indexed.host (c.loop-place.place + 1) (c.loop-place.at + 1)
          c.if-is_indexed.at c.args.counts.now w.collect_at.new.counts c.if-is_indexed.counts c.args.sent.now
          w.collect_at.new.sent c.if-is_indexed.sent w.host-is w.at-is w.counts-is w.sent-is
          (collected_on c.args.tick c.args.sender.now.host c.args.sender.now.addresses.now c.args.host.now
          c.loop-place.host w.collect_at.new.host c.loop-place.place c.loop-place.at c.args.counts.now
          c.loop-place.counts w.collect_at.new.counts c.args.sent.now c.loop-place.sent w.collect_at.new.sent
          c.is_indexed.result c.loop-place.invariant inside c.is_indexed.ensures w.if-is_indexed.true
          w.in_ok-collect_at.ensures.looked w.in_ok-collect_at.ensures.frames w.in_ok-collect_at.ensures.flows
          w.in_ok-collect_at.ensures.answers w.in_ok-collect_at.ensures.lines w.in_ok-collect_at.ensures.last)
      | else-is_indexed w ↦
          collected_as c.args.tick c.args.sender.now.host c.args.sender.now.addresses.now c.args.host.now
          c.loop-place.host c.if-is_indexed.host (c.loop-place.place + 1) c.loop-place.at c.if-is_indexed.at
          c.args.counts.now c.loop-place.counts c.if-is_indexed.counts c.args.sent.now c.loop-place.sent
          c.if-is_indexed.sent w.host-is w.at-is w.counts-is w.sent-is
          (collected_past c.args.tick c.args.sender.now.host c.args.sender.now.addresses.now c.args.host.now
          c.loop-place.host c.loop-place.place c.loop-place.at c.args.counts.now c.loop-place.counts c.args.sent.now
          c.loop-place.sent c.is_indexed.result c.loop-place.invariant inside c.is_indexed.ensures
          w.if-is_indexed.false c.requires.silent)
    ]
