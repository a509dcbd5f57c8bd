use Rattle.std.proofs.Common.{◌∙◌, ap, sym, subst}
use Rattle.std.specs.Prelude.{OnOk, OnErr}
use Rattle.core_worker.specs.Sending.{IsAllSent}
use Rattle.flow_lock.specs.Steps.{IsAlone}
use Rattle.slow_worker.specs.Alone.{AreUsed, IsSendStopped}
use Rattle.slow_worker.specs.Workers.{Worker, sight_of, IsSound}
use Rattle.slow_worker.proofs.Walks.{sent_kept, sent_alone}
use Rattle.slow_worker.proofs.worker.SlowWorker.send_rest.Goals as goal

pub returns-clause-sound : goal.returns-clause-sound
returns-clause-sound c =
    let i = c.self.inside in
    let t = c.args.shared.now.table in
    let kept = subst (λ (w : Worker). IsSound t (sight_of w)) (sym c.self.view_is) c.requires.sound in (
      sent_kept c.args.tick t i.pass c.send_from_all.new.slow i.doomed.list i.pins.list i.flows.list
          c.send_from_all.result c.send_from_all.ensures.table c.send_from_all.ensures.sent
          c.send_from_all.ensures.part kept.0,
      kept.1,
    )

pub returns-clause-alone : goal.returns-clause-alone
returns-clause-alone c =
    let i = c.self.inside in
    sent_alone c.args.tick i.pins.list i.pass.view c.send_from_all.new.slow.view c.send_from_all.result
    c.send_from_all.ensures.sent c.send_from_all.ensures.part
    (subst (λ (w : Worker). IsAlone w.pass.view) (sym c.self.view_is) c.requires.alone)

pub returns-clause-sent : goal.returns-clause-sent
returns-clause-sent c =
    subst (λ (w : Worker). OnOk c.send_from_all.result
    (AreUsed (IsAllSent 0 c.args.tick) w.pins w.pass.view c.send_from_all.new.slow.view)) c.self.view_is
    c.send_from_all.ensures.sent

pub returns-clause-part : goal.returns-clause-part
returns-clause-part c =
    subst (λ (w : Worker). OnErr c.send_from_all.result
    (IsSendStopped c.args.tick w.pins w.pass.view c.send_from_all.new.slow.view)) c.self.view_is
    c.send_from_all.ensures.part

pub returns-clause-table : goal.returns-clause-table
returns-clause-table c = c.send_from_all.ensures.table ∙ ap (λ (w : Worker). w.pass.table) c.self.view_is

pub returns-clause-rest : goal.returns-clause-rest
returns-clause-rest c = ap (λ (w : Worker). record w { pass = c.send_from_all.new.slow }) c.self.view_is
