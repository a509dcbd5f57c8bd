use Rattle.core_worker.proofs.Turns.{drained_since, bounded_since, none_taken}
use Rattle.core_worker.proofs.worker.CoreWorker.turn.Goals as goal

pub returns-clause-kicks : goal.returns-clause-kicks
returns-clause-kicks g c =
    let same = c.take_frames.ensures.same in
    drained_since c.args.shared.now c.args.self.now c.take_frames.new.self c.take_kicks.new.self c.take_kicks.result
    same.0 same.1 c.take_kicks.ensures.empty

pub returns-clause-bounded : goal.returns-clause-bounded
returns-clause-bounded g c =
    let same = c.take_frames.ensures.same in
    bounded_since c.args.shared.now c.args.self.now c.take_frames.new.self c.take_kicks.new.self same.0 same.1
    c.take_kicks.ensures.bounded

pub returns-in_err-take_frames-clause-bounded : goal.returns-in_err-take_frames-clause-bounded
returns-in_err-take_frames-clause-bounded g c =
    none_taken c.args.shared.now c.args.self.now c.take_frames.new.self c.requires.queue c.take_frames.ensures.same.1
