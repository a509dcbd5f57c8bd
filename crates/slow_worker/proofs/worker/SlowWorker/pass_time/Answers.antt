use Rattle.std.proofs.Common.{ap, sym, refl, subst}
use Rattle.tas_model.specs.Valid.{InRange}
use Rattle.core_worker.specs.Workers.{Common}
use Rattle.slow_worker.specs.Workers.{Worker}
use Rattle.slow_worker.specs.contracts.worker.SlowWorker.{the_view}
use Rattle.slow_worker.proofs.Ticks.{indexed_sound, indexed_stop, indexed_done, halted, passed_so}
use Rattle.slow_worker.proofs.worker.SlowWorker.pass_time.Goals as goal

pub returns-in_err-done-clause-sound : goal.returns-in_err-done-clause-sound
returns-in_err-done-clause-sound g c = (
  indexed_sound c.args.shared.now.table _ c.tick_all-done.new.slow c.tick_all-done.new.doomed.list
      c.tick_all-done.new.pins c.index.new.self c.self.inside.flows.list c.keep.new.self.list c.index.ensures
      (ap (λ (k : Common). k.table) c.shared.view_is) c.tick_all-done.ensures.slow c.tick_all-done.ensures.kept
      c.keep.ensures.list,
  subst InRange (sym c.tick_all-done.ensures.params)
      (subst (λ (w : Worker). InRange w.path.params) (sym c.self.view_is) c.requires.sound.1),
)

pub returns-clause-sound : goal.returns-clause-sound
returns-clause-sound g c = (
  indexed_sound c.args.shared.now.table _ c.tick_all-done.new.slow c.tick_all-done.new.doomed.list
      c.tick_all-done.new.pins c.index.new.self c.self.inside.flows.list c.keep.new.self.list c.index.ensures
      (ap (λ (k : Common). k.table) c.shared.view_is) c.tick_all-done.ensures.slow c.tick_all-done.ensures.kept
      c.keep.ensures.list,
  subst InRange (sym c.tick_all-done.ensures.params)
      (subst (λ (w : Worker). InRange w.path.params) (sym c.self.view_is) c.requires.sound.1),
)

pub returns-in_err-done-clause-stopped : goal.returns-in_err-done-clause-stopped
returns-in_err-done-clause-stopped g c =
    halted c.from_residual.result c.args.tick c.served-timed.result c.tick_all-done.new.served
    (the_view c.self.inside) c.args.self.now _ c.self.view_is c.served-timed.ensures
    (indexed_stop _ _ _ _ _ c.tick_all-done.new.pins c.index.new.self _ _ _ _ _ c.index.ensures
    c.in_err-done.ensures.stopped) refl c.tick_all-done.ensures.published.0 c.tick_all-done.ensures.published.1
    c.keep.ensures.list refl

pub returns-clause-passed : goal.returns-clause-passed
returns-clause-passed g c =
    passed_so c.publish.result c.args.tick c.served-timed.result (the_view c.self.inside) c.args.self.now _
    c.tick_all-done.new.index c.self.view_is c.served-timed.ensures
    (indexed_done _ _ _ _ c.tick_all-done.new.pins c.index.new.self _ _ _ _ _ c.index.ensures
    c.in_ok-done.ensures.done)
    c.tick_all-done.ensures.published.0 c.tick_all-done.ensures.published.1 c.publish.ensures.later
    c.publish.ensures.published c.publish.ensures.pending c.publish.ensures.left c.keep.ensures.list refl refl
