-- Answers of the proof of calls/leave_alone.
use Rattle.std.proofs.Common.{sym, subst}
use Rattle.std.specs.Prelude.{OnOk}
use Rattle.libtas_sockets.specs.Apps.{Application}
use Rattle.core_host.specs.Alone.{HasLeft}
use Rattle.core_host.proofs.Alone.{acts_alone, on_ok}
use Rattle.core_host.proofs.calls.leave_alone.Goals.{in-Close, in-Abort}
use Rattle.core_host.proofs.calls.leave_alone.Goals as goal

pub returns : goal.returns
returns c =
    let s = c.args.socket in
    let t = c.args.tick in
    let o = c.pass_on.new.self in
    on_ok c.match-call.left _ _
    (λ did. acts_alone (HasLeft s t c.args.call.now) c.args.app.now o
    c.match-call.app c.pass_back.new.self c.args.slow.now c.pass_on.new.slow c.pass_back.new.slow
    c.pass_on.ensures.alone c.pass_on.ensures.slow did c.pass_back.ensures.back c.pass_back.ensures.slow)
    (elim c.match-call.branch [
      | in-Close w ↦ subst (λ (x : Application). OnOk c.match-call.left (HasLeft s t c.args.call.now o x)) (sym
          w.app-is)
          (subst (λ r. OnOk r (HasLeft s t c.args.call.now o w.close-left.new.app)) (sym w.left-is)
          (subst (λ k. OnOk w.close-left.result (HasLeft s t k o w.close-left.new.app)) (sym w.in-Close.is)
          w.close-left.ensures.left))
      | in-Abort w ↦ subst (λ (x : Application). OnOk c.match-call.left (HasLeft s t c.args.call.now o x)) (sym
          w.app-is)
          (subst (λ r. OnOk r (HasLeft s t c.args.call.now o w.abort-left.new.app)) (sym w.left-is)
          (subst (λ k. OnOk w.abort-left.result (HasLeft s t k o w.abort-left.new.app)) (sym w.in-Abort.is)
          w.abort-left.ensures.left))
    ])
