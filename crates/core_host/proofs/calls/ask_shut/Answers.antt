-- Answers of the proof of calls/ask_shut.
use Rattle.flow_state.specs.declared.call.CallIn.TheVariants as ins
use Rattle.core_host.proofs.Alone.{all_ok, refused_told, shut_told}
use Rattle.core_host.proofs.calls.ask_shut.Goals as goal

pub returns-in-Ok-clause-asked : goal.returns-in-Ok-clause-asked
returns-in-Ok-clause-asked c =
    shut_told c.args.app.now c.shut.new.self c.args.socket c.args.tick c.in-Ok.ensures.made

pub returns-in-Err-clause-asked : goal.returns-in-Err-clause-asked
returns-in-Err-clause-asked c =
    all_ok c.refused.result _ _
    (λ answer by. refused_told {T = Unit {0}} c.args.app.now c.shut.new.self c.args.socket c.args.tick ins.Shut (λ
    reply. tt)
    c.in-Err.error answer by c.in-Err.ensures.made) c.refused.ensures
