use Rattle.std.proofs.Common.{◌<◌, ◌≤◌, length, arith}
use Rattle.asked_host.proofs.Aborting.{aborts_count, aborts_more, aborts_all}
use Rattle.asked_host.proofs.kill.abort_all.Goals as goal

pub abort_where-requires : goal.abort_where-requires
abort_where-requires c =
    omega (
      arith,
      aborts_count c.args.app c.args.tick c.loop-place.place c.args.host.now c.loop-place.host
          c.loop-place.invariant.so_far,
      c.loop-place.invariant.count,
      c.loop-place-test.true,
    )

pub loop-place-preserved : goal.loop-place-preserved
loop-place-preserved c =
    let below : c.loop-place.place < length c.args.host.now.flows =
    omega (arith, c.loop-place.invariant.count, c.loop-place-test.true) in
    record {
      so_far = aborts_more c.args.app c.args.tick c.loop-place.place c.args.host.now c.loop-place.host
          c.abort_where.new.host c.loop-place.invariant.so_far below (λ l here. c.in_ok-abort_where.ensures l here);
      count = c.loop-place.invariant.count;
    }

pub returns : goal.returns
returns c =
    let past : length c.args.host.now.flows ≤ c.loop-place.place =
    omega (arith, c.loop-place.invariant.count, c.loop-place-test.false) in
    aborts_all c.args.app c.args.tick c.loop-place.place c.args.host.now c.loop-place.host
    c.loop-place.invariant.so_far past
