-- Answers of the proof of accepting/accept_lane.
use Rattle.std.proofs.Common.{◌≡◌, refl, sym, ap, subst}
use Rattle.flow_lock.specs.Passes.{Seen}
use Rattle.slow_worker.specs.Workers.{Worker}
use Rattle.core_phase.specs.declared.lane.Lane.{Lane}
use Rattle.core_phase.specs.declared.lane.Lane.TheVariants as lanes
use Rattle.core_host.specs.Alone.{OnApps, ActsAlone, HasAccepted}
use Rattle.core_host.proofs.Alone.{on_ok}
use Rattle.core_host.proofs.accepting.accept_lane.Goals as goal

pub returns-clause-accepted : goal.returns-clause-accepted
returns-clause-accepted c =
    let v = c.in-App.lane in
    let after = lanes.App (record v { app = c.accept_alone.new.app }) in
    let n = c.accept_alone.new.slow in
    let pass : c.slow.inside.pass ≡ c.args.slow.now.pass = ap (λ (w : Worker). w.pass) c.slow.view_is in
    on_ok c.accept_alone.result _ _
    (λ did. subst (λ (l : Lane). OnApps (ActsAlone (HasAccepted c.args.id c.args.tick) c.args.slow.now.pass n) l after)
    (sym c.in-App.is) (
      subst (λ (s : Seen). ActsAlone (HasAccepted c.args.id c.args.tick) s n v.app c.accept_alone.new.app) pass did,
      refl,
    ))
    c.accept_alone.ensures.accepted
