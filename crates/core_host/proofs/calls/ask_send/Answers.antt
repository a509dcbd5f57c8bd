-- Answers of the proof of calls/ask_send.
use Rattle.std.proofs.Common.{length}
use Rattle.flow_state.specs.Calls.{reply_bytes}
use Rattle.flow_state.specs.declared.call.CallIn.TheVariants as ins
use Rattle.core_host.proofs.Alone.{all_ok, refused_told, send_told}
use Rattle.core_host.proofs.calls.ask_send.Goals as goal

pub returns-in-Ok-clause-asked : goal.returns-in-Ok-clause-asked
returns-in-Ok-clause-asked c =
    send_told c.args.app.now c.send.new.self c.args.socket c.args.tick c.args.bytes c.in-Ok.len c.in-Ok.ensures.made

pub returns-in-Err-clause-asked : goal.returns-in-Err-clause-asked
returns-in-Err-clause-asked c =
    all_ok c.refused.result _ _
    (λ answer by. refused_told c.args.app.now c.send.new.self c.args.socket c.args.tick (ins.Send c.args.bytes)
    (λ reply. length (reply_bytes reply)) c.in-Err.error answer by c.in-Err.ensures.made) c.refused.ensures
