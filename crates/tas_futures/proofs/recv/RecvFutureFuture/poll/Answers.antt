use Rattle.tas_futures.proofs.Polls.{waited_to_read}
use Rattle.tas_futures.proofs.recv.RecvFutureFuture.poll.Goals as goal

pub returns-clause-waited : goal.returns-clause-waited
returns-clause-waited c =
    let old = c.args.self.now in
    rw c.settled.ensures.polled
    (waited_to_read old.io.app.now c.recv-answer.new.self old.socket old.io.tick old.buf.now c.recv-answer.new.buf
    c.recv-answer.result old.last c.settled.new.last c.recv-answer.ensures.made c.settled.ensures.last)
