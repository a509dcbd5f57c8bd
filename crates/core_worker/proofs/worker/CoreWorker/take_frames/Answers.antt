use Rattle.std.proofs.Common.{sym, ◌∙◌}
use Rattle.core_worker.specs.Turns.{AreFramesLeft}
use Rattle.core_worker.proofs.Turns.{handling_first, handling_more, handling_ends, handling_stops, same_queue}
use Rattle.core_worker.proofs.Turns.{no_frame, err_of}
use Rattle.core_worker.proofs.worker.CoreWorker.take_frames.Goals as goal

pub loop-self-init : goal.loop-self-init
loop-self-init g c = (
  handling_first c.args.shared.now c.args.tick c.args.self.now,
  c.requires.free,
  c.requires.senders,
)

pub loop-self-preserved : goal.loop-self-preserved
loop-self-preserved g c =
    let h = c.loop-self.invariant in
    let m = c.loop-self.self in
    let w = c.take_frame.new.self in (
      handling_more c.args.shared.now c.args.tick c.args.self.now m w h.0 c.in_ok-take_frame.ensures.done,
      c.take_frame.ensures.free,
      c.take_frame.ensures.senders,
    )

pub returns-clause-done : goal.returns-clause-done
returns-clause-done g c =
    let w = c.loop-self.self in
    handling_ends c.args.shared.now c.args.tick c.args.self.now w c.loop-self.invariant.0
    (no_frame w.frames (sym c.has_frame.ensures ∙ c.loop-self-test.false))

pub returns-clause-empty : goal.returns-clause-empty
returns-clause-empty g c = no_frame c.loop-self.self.frames (sym c.has_frame.ensures ∙ c.loop-self-test.false)

pub returns-clause-queue : goal.returns-clause-queue
returns-clause-queue g c =
    let h = c.loop-self.invariant.0 in
    same_queue c.args.shared.now c.args.self.now c.loop-self.self h.core h.kicks

pub returns-in_err-take_frame-clause-left : goal.returns-in_err-take_frame-clause-left
returns-in_err-take_frame-clause-left g c =
    let m = c.loop-self.self in
    let w = c.take_frame.new.self in
    let at = c.args.shared.now in
    let t = c.args.tick in
    let left : AreFramesLeft at t c.args.self.now w =
    handling_stops at t c.args.self.now m w c.loop-self.invariant.0 c.in_err-take_frame.ensures.left in
    err_of (AreFramesLeft at t c.args.self.now w) left c.from_residual.result

pub returns-in_err-take_frame-clause-queue : goal.returns-in_err-take_frame-clause-queue
returns-in_err-take_frame-clause-queue g c =
    let h = c.loop-self.invariant.0 in
    let same = c.take_frame.ensures.same in
    same_queue c.args.shared.now c.args.self.now c.take_frame.new.self (same.0 ∙ h.core) (same.1 ∙ h.kicks)

pub returns-clause-same : goal.returns-clause-same
returns-clause-same g c =
    let h = c.loop-self.invariant.0 in (h.core, h.kicks)

pub returns-in_err-take_frame-clause-same : goal.returns-in_err-take_frame-clause-same
returns-in_err-take_frame-clause-same g c =
    let h = c.loop-self.invariant.0 in
    let same = c.take_frame.ensures.same in
    (same.0 ∙ h.core, same.1 ∙ h.kicks)
