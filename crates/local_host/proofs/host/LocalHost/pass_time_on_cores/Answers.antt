use Rattle.std.proofs.Common.{map, subst, sym}
use Rattle.tas_model.specs.declared.entry.Caller.TheVariants.{Slow}
use Rattle.host_rounds.specs.Upkeep.{swept, timed}
use Rattle.local_host.specs.Ports.{IsHost}
use Rattle.local_host.proofs.Indexing.{swept_keeps, timed_keeps}
use Rattle.local_host.proofs.Ports.{host_map, host_done}
use Rattle.local_host.proofs.host.LocalHost.pass_time_on_cores.Goals as goal

pub invariant_of-self : goal.invariant_of-self
invariant_of-self g c =
    let left : IsHost c.self.inside.params c.self.inside.listeners.items c.sweep.new.self =
    subst (IsHost c.self.inside.params c.self.inside.listeners.items) (sym c.sweep.ensures)
    (host_map swept swept_keeps c.self.invariant) in
    host_done c.pass_time_on_cores.result (map (timed Slow c.args.tick) c.sweep.new.self)
    c.pass_time_on_cores.new.self left (host_map (timed Slow c.args.tick) (timed_keeps c.args.tick) left)
    c.pass_time_on_cores.ensures.made c.pass_time_on_cores.ensures.none
