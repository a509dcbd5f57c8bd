use Rattle.std.proofs.Common.{ap, sym, ◌∙◌, subst}
use Rattle.tas_model.specs.declared.entry.HostParams.{HostParams}
use Rattle.slow_handshake.specs.Openings.{Openings}
use Rattle.core_worker.specs.Workers.{Common}
use Rattle.slow_worker.specs.Workers.{Sight, sight_of, IsSound}
use Rattle.shared_host.specs.Cores.{kicking_on}
use Rattle.shared_host.specs.SlowPaths.{IsNewSlow}
use Rattle.slow_worker.specs.Kicking.{Kicking}
use Rattle.shared_host.proofs.Adding.{each_free, each_own, each_silent, can_kick}
use Rattle.shared_host.proofs.SlowPaths.{sound_at_first}
use Rattle.shared_host.proofs.assembling.assemble.Goals as goal

pub returns-in-Ok-clause-free : goal.returns-in-Ok-clause-free
returns-in-Ok-clause-free g c =
    each_free _ c.new-in-Ok.result c.in-Ok.made.workers.items c.new-in-Ok.ensures c.in-Ok.ensures.made.free

pub returns-in-Ok-clause-queues : goal.returns-in-Ok-clause-queues
returns-in-Ok-clause-queues g c =
    each_own _ c.new-in-Ok.result c.in-Ok.made.workers.items c.new-in-Ok.ensures c.in-Ok.ensures.made.own

pub returns-in-Ok-clause-senders : goal.returns-in-Ok-clause-senders
returns-in-Ok-clause-senders g c =
    each_silent c.args.host c.new-in-Ok.result c.in-Ok.made.workers.items c.in-Ok.ensures.made.new

pub returns-in-Ok-clause-sound : goal.returns-in-Ok-clause-sound
returns-in-Ok-clause-sound g c =
    let same =
    ap (λ (s : Sight). s.path.params) c.new-slow.ensures.sight
    ∙ ap (λ (o : Openings). o.params) c.in_ok-path.ensures in
    subst (λ (x : Common). IsSound x.table (sight_of c.make_cores.new.slow)) (sym c.new-in-Ok.ensures)
    (sound_at_first c.args.params c.in_ok-table.table c.args.cores 0 c.make_cores.new.slow
    (subst (λ (p : HostParams). IsNewSlow p c.in_ok-table.table c.args.cores 0 c.make_cores.new.slow) same
    c.in-Ok.ensures.slow)
    c.requires.params)

pub returns-in-Ok-clause-can : goal.returns-in-Ok-clause-can
returns-in-Ok-clause-can g c =
    let made = c.in-Ok.made.kicks.items in
    let first = ap (λ (k : Kicking). k.steer) c.new-slow.ensures.kickers ∙ c.in_ok-own_steer.ensures.alike in
    can_kick _ c.new-in-Ok.result c.in_ok-steering.steer c.make_cores.new.slow.kickers c.args.cores c.new-in-Ok.ensures
    (c.in-Ok.ensures.kickers ∙ ap (λ s. kicking_on s made) first) c.in_ok-steering.ensures.own
    c.in_ok-steering.ensures.cores c.in-Ok.ensures.made.queues
