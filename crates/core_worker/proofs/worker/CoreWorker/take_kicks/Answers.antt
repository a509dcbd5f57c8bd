use Rattle.core_worker.specs.Sending.{IsAllSent, IsPartSent}
use Rattle.core_worker.specs.Turns.{AreKicksLeft, IsBounded}
use Rattle.std.proofs.Common.{◌≡◌, sym, subst, inl, arith}
use Rattle.std.specs.Prelude.{Option, Some, IfNone, slice_get}
use Rattle.context_queue.specs.declared.note.Note.{Note}
use Rattle.crossbeam_queue.specs.Fifo.{Held}
use Rattle.context_queue.specs.Notes.{HoldsRest}
use Rattle.core_worker.specs.Workers.{Worker}
use Rattle.core_worker.proofs.Turns.{kicking_first, kicking_more, kicking_stops, kick_after, queue_after, err_of}
use Rattle.core_worker.proofs.Turns.{all_taken, within, within_one_more}
use Rattle.core_worker.proofs.worker.CoreWorker.take_kicks.Goals as goal

pub loop-init : goal.loop-init
loop-init g c = (
  kicking_first c.args.shared.now c.args.tick c.args.self.now c.requires.free c.requires.queue,
  (
    c.kicks.result.now,
    subst (λ (w : Worker). slice_get c.args.shared.now.kicks w.core ≡ Some c.kicks.result.now) c.self.view_is
        c.kicks.ensures,
    c.room-end.ensures,
  ),
  omega arith,
)

pub loop-preserved : goal.loop-preserved
loop-preserved g c =
    let at = c.args.shared.now in
    let t = c.args.tick in
    let k = c.loop.invariant.0 in
    let m = c.loop.self in
    let u = c.next_kick.new.self in
    let n = c.kick.new.self in
    let note = c.in-Some.note in
    let taken = c.in-Some.ensures.taken in
    let first = c.next_kick.ensures.rest in
    let last = c.kick.ensures.rest in (
      kicking_more at t c.loop.counter c.args.self.now m n k
          (kick_after at (λ core. IsAllSent core t) note m u n taken first c.in_ok-kick.ensures.sent last k.free
          c.kick.ensures.free)
          c.kick.ensures.free (queue_after at note m u n taken first last k.queue),
      c.loop.invariant.1,
      omega (arith, c.loop-test.true),
    )

pub returns-in_err-kick-clause-left : goal.returns-in_err-kick-clause-left
returns-in_err-kick-clause-left g c =
    let at = c.args.shared.now in
    let t = c.args.tick in
    let k = c.loop.invariant.0 in
    let m = c.loop.self in
    let u = c.next_kick.new.self in
    let n = c.kick.new.self in
    let note = c.in-Some.note in
    let left : AreKicksLeft at t c.args.self.now n =
    kicking_stops at t c.loop.counter c.args.self.now m n k
    (kick_after at (λ core. IsPartSent core t) note m u n c.in-Some.ensures.taken c.next_kick.ensures.rest
    c.in_err-kick.ensures.part c.kick.ensures.rest k.free c.kick.ensures.free) in
    err_of (AreKicksLeft at t c.args.self.now n) left c.from_residual.result

pub returns-in_err-kick-clause-bounded : goal.returns-in_err-kick-clause-bounded
returns-in_err-kick-clause-bounded g c =
    let at = c.args.shared.now in
    let t = c.args.tick in
    let k = c.loop.invariant.0 in
    let q = c.loop.invariant.1 in
    let m = c.loop.self in
    let u = c.next_kick.new.self in
    let n = c.kick.new.self in
    let note = c.in-Some.note in
    within_one_more at t c.loop.counter c.room-end.result c.args.self.now m n q k c.loop-test.true
    (kick_after at (λ core. IsPartSent core t) note m u n c.in-Some.ensures.taken c.next_kick.ensures.rest
    c.in_err-kick.ensures.part c.kick.ensures.rest k.free c.kick.ensures.free)

pub returns-clause-empty : goal.returns-clause-empty
returns-clause-empty g c =
    let l = c.loop.invariant in
    all_taken c.args.shared.now c.args.self.now.core c.room-end.result c.loop.counter c.args.self.now.kicks
    c.loop.self.kicks
    l.1 l.0.taken l.2 (omega (arith, c.loop-test.false))

pub returns-clause-bounded : goal.returns-clause-bounded
returns-clause-bounded g c =
    let l = c.loop.invariant in
    within c.args.shared.now c.args.self.now.core c.room-end.result c.loop.counter c.args.self.now.kicks
    c.loop.self.kicks
    l.1 l.0.taken l.2

pub returns-in_default-clause-empty : goal.returns-in_default-clause-empty
returns-in_default-clause-empty g c =
    let none = subst (λ (o : Option Note). IfNone o (c.next_kick.new.self ≡ c.loop.self)) c.in_default.is
    c.next_kick.ensures.none in
    let empty = subst (λ (o : Option Note). IfNone o (Held 0 (HoldsRest c.loop.self.kicks))) c.in_default.is
    c.next_kick.ensures.empty in
    inl (subst (λ (w : Worker). Held 0 (HoldsRest w.kicks)) (sym none) empty)

pub returns-in_default-clause-bounded : goal.returns-in_default-clause-bounded
returns-in_default-clause-bounded g c =
    let l = c.loop.invariant in
    let none = subst (λ (o : Option Note). IfNone o (c.next_kick.new.self ≡ c.loop.self)) c.in_default.is
    c.next_kick.ensures.none in
    subst (λ (w : Worker). IsBounded c.args.shared.now c.args.self.now.core c.args.self.now.kicks w.kicks) (sym none)
    (within c.args.shared.now c.args.self.now.core c.room-end.result c.loop.counter c.args.self.now.kicks
    c.loop.self.kicks
    l.1 l.0.taken l.2)
