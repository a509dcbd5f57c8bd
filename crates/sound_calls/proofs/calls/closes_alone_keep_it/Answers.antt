-- Answers of the proof of calls/closes_alone_keep_it.
use Rattle.flow_state.specs.declared.call.CallIn.TheVariants as ins
use Rattle.sound_calls.proofs.Closing.{abort_alone, close_alone}
use Rattle.sound_calls.proofs.calls.closes_alone_keep_it.Goals as goal

pub returns-clause-close : goal.returns-clause-close
returns-clause-close c h front back a m b s tick fault result sound alone socket made e =
    close_alone h front back a s socket m b tick ins.Close fault sound alone made result e

pub returns-clause-abort : goal.returns-clause-abort
returns-clause-abort c h front back a m b s tick fault result sound alone socket made e =
    abort_alone h front back a s socket m b tick ins.Abort fault sound alone made result e
