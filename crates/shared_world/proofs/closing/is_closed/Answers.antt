-- Answers of the proof of closing/is_closed.
use Rattle.std.proofs.Common.{ℕ, ◌+◌, ◌<◌, length, sym, subst, arith}
use Rattle.core_host.specs.Views.{Staffed, seen_by}
use Rattle.shared_world.proofs.Closed.{AreClosedTo, indexed_there, closed_on, closed_past, one_open}
use Rattle.shared_world.proofs.closing.is_closed.Goals.{then-is_indexed+else-not-is_closed_at, else-is_indexed}
use Rattle.shared_world.proofs.closing.is_closed.Goals as goal

pub is_closed_at-requires-clause-there : goal.is_closed_at-requires-clause-there
is_closed_at-requires-clause-there c =
    let inside : c.loop-place.place < length (seen_by c.args.host.now).flows =
    omega (arith, c.flow_count-place-end.ensures, c.loop-place-test.true) in
    indexed_there c.args.host.now c.loop-place.host c.loop-place.place c.loop-place.at c.is_indexed.result
    c.loop-place.invariant.looked c.loop-place.invariant.count inside c.is_indexed.ensures c.if-is_indexed.true

pub returns-then-not-is_closed_at-clause-closed : goal.returns-then-not-is_closed_at-clause-closed
returns-then-not-is_closed_at-clause-closed c =
    let inside : c.loop-place.place < length (seen_by c.args.host.now).flows =
    omega (arith, c.flow_count-place-end.ensures, c.loop-place-test.true) in
    sym (one_open c.args.host.now c.loop-place.host c.loop-place.place c.is_closed_at.result
    c.loop-place.invariant.looked inside c.is_closed_at.ensures.closed c.if-not-is_closed_at.true)

pub loop-place-preserved : goal.loop-place-preserved
loop-place-preserved c =
    let inside : c.loop-place.place < length (seen_by c.args.host.now).flows =
    omega (arith, c.flow_count-place-end.ensures, c.loop-place-test.true) in
    elim c.if-is_indexed.branch [
      | then-is_indexed+else-not-is_closed_at w ↦
          subst (λ (h : Staffed). AreClosedTo c.args.host.now h (c.loop-place.place + 1) c.if-is_indexed.at)
          (sym w.host-is)
          (subst (λ (n : ℕ). AreClosedTo c.args.host.now w.is_closed_at.new.host (c.loop-place.place + 1) n)
          (sym w.at-is)
          (closed_on c.args.host.now c.loop-place.host w.is_closed_at.new.host c.loop-place.place c.loop-place.at
          c.is_indexed.result w.is_closed_at.result c.loop-place.invariant inside c.is_indexed.ensures
          w.if-is_indexed.true w.is_closed_at.ensures.closed w.if-not-is_closed_at.false
          w.is_closed_at.ensures.looked))
      | else-is_indexed w ↦
          subst (λ (h : Staffed). AreClosedTo c.args.host.now h (c.loop-place.place + 1) c.if-is_indexed.at)
          (sym w.host-is)
          (subst (λ (n : ℕ). AreClosedTo c.args.host.now c.loop-place.host (c.loop-place.place + 1) n)
          (sym w.at-is)
          (closed_past c.args.host.now c.loop-place.host c.loop-place.place c.loop-place.at c.is_indexed.result
          c.loop-place.invariant inside c.is_indexed.ensures w.if-is_indexed.false
          (c.open_flows_are_in_the_index.ensures c.args.host.now c.requires)))
    ]
