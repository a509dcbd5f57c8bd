use Rattle.std.proofs.Common.{sym, subst}
use Rattle.std.specs.Prelude.{take}
use Rattle.flow_lock.specs.Steps.{IsAlone}
use Rattle.slow_worker.specs.contracts.worker.SlowWorker.{the_view}
use Rattle.slow_worker.specs.Alone.{IsAsItWas, IsLookStopped}
use Rattle.slow_worker.specs.Workers.{Worker, sight_of, IsSound}
use Rattle.slow_worker.proofs.Walks.{all_stay, used_kept, looked_so, look_stopped}
use Rattle.slow_worker.proofs.Serving.{err_of}
use Rattle.slow_worker.proofs.worker.SlowWorker.look.Goals as goal

pub returns-in_err-look_at_all-clause-sound : goal.returns-in_err-look_at_all-clause-sound
returns-in_err-look_at_all-clause-sound c =
    let i = c.self.inside in
    let t = c.args.shared.now.table in
    let kept = subst (λ (w : Worker). IsSound t (sight_of w)) (sym c.self.view_is) c.requires.sound in
    let part = c.in_err-look_at_all.ensures.part in (
      used_kept IsAsItWas t (take part.0 i.pins.list) i.pass c.look_at_all.new.slow i.doomed.list i.pins.list
          i.flows.list c.look_at_all.ensures.table part.1 kept.0,
      kept.1,
    )

pub returns-clause-sound : goal.returns-clause-sound
returns-clause-sound c =
    let i = c.self.inside in
    let t = c.args.shared.now.table in
    let kept = subst (λ (w : Worker). IsSound t (sight_of w)) (sym c.self.view_is) c.requires.sound in (
      used_kept IsAsItWas t i.pins.list i.pass c.look_at_all.new.slow i.doomed.list i.pins.list
          i.flows.list c.look_at_all.ensures.table c.in_ok-look_at_all.ensures.looked kept.0,
      kept.1,
    )

pub returns-in_err-look_at_all-clause-alone : goal.returns-in_err-look_at_all-clause-alone
returns-in_err-look_at_all-clause-alone c =
    let i = c.self.inside in
    let part = c.in_err-look_at_all.ensures.part in
    let alone = subst (λ (w : Worker). IsAlone w.pass.view) (sym c.self.view_is) c.requires.alone in
    (all_stay IsAsItWas (take part.0 i.pins.list) i.pass.view c.look_at_all.new.slow.view part.1).alone alone

pub returns-clause-alone : goal.returns-clause-alone
returns-clause-alone c =
    let i = c.self.inside in
    let alone = subst (λ (w : Worker). IsAlone w.pass.view) (sym c.self.view_is) c.requires.alone in
    (all_stay IsAsItWas i.pins.list i.pass.view c.look_at_all.new.slow.view c.in_ok-look_at_all.ensures.looked).alone
    alone

pub returns-clause-looked : goal.returns-clause-looked
returns-clause-looked c =
    looked_so (the_view c.self.inside) c.args.self.now c.look_at_all.new.slow c.look_at_all.new.kicks.list
    c.self.view_is c.look_at_all.ensures.table c.in_ok-look_at_all.ensures.looked c.in_ok-look_at_all.ensures.kicked

pub returns-in_err-look_at_all-clause-stopped : goal.returns-in_err-look_at_all-clause-stopped
returns-in_err-look_at_all-clause-stopped c =
    let part = c.in_err-look_at_all.ensures.part in
    err_of (IsLookStopped c.args.self.now (record (the_view c.self.inside) { pass = c.look_at_all.new.slow }))
    (look_stopped (the_view c.self.inside) c.args.self.now c.look_at_all.new.slow part.0 c.self.view_is
    c.look_at_all.ensures.table part.1) c.from_residual.result
