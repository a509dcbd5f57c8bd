use Rattle.std.proofs.Common.{◌∙◌, ◌++◌, ap}
use Rattle.core_worker.specs.Workers.{sight}
use Rattle.core_worker.specs.Turns.{deferred_by, exceptions_by}
use Rattle.core_worker.proofs.Turns.{frame_done}
use Rattle.core_worker.proofs.worker.CoreWorker.take_frame.Goals as goal

pub returns-clause-done : goal.returns-clause-done
returns-clause-done g c =
    let first = c.in-Some.ensures.first in
    let f = c.in-Some-take_first.frame in
    let h = c.in_ok-handled.handled in
    frame_done c.args.shared.now c.args.tick _ c.args.self.now c.in-Some.first.now f first.0 c.take_first.new.self h
    (sight c.handle-handled.new.pass c.handle-handled.new.reader c.handle-handled.new.log c.handle-handled.new.senders)
    c.place.new.deferred.list c.place.new.exceptions.list c.as_slice.result.now c.self.view_is first.1
    c.in-Some-take_first.ensures.first c.as_slice.ensures c.in_ok-handled.ensures.handled
    (c.place.ensures.deferred ∙ ap (λ l. l ++ deferred_by f h) c.in_ok-reserve.ensures.list)
    (c.place.ensures.exceptions ∙ ap (λ l. l ++ exceptions_by f h) c.in_ok-reserve-2.ensures.list)
