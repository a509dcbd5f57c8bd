use Rattle.slow_timeout.proofs.Ticking.{control_is}
use Rattle.slow_timeout.proofs.control.control.Goals as goal

pub returns-clause-made : goal.returns-clause-made
returns-clause-made c out e v s run =
    control_is e c.set_rate.new.parts c.next_windows-cwnd.result.0 c.next_windows-cwnd.result.1 out
    (c.next_windows-cwnd.ensures.cwnd e v s run) (c.next_windows-cwnd.ensures.ssthresh e v s run)
    (c.set_rate.ensures.after e s)
