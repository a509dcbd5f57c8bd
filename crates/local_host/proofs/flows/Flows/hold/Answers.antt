use Rattle.std.proofs.Common.{List, length, sym, subst, ◌<◌}
use Rattle.host_rounds.specs.Hosts.{Live}
use Rattle.local_host.proofs.Holding.{held, held_keeps, held_calms, held_stays}
use Rattle.local_host.proofs.Standing.{sound_calm}
use Rattle.local_host.proofs.Places.{wrote_change}
use Rattle.local_host.proofs.flows.Flows.hold.Goals as goal

below : (c : goal.After-self-1) → c.args.i < length c.self.inside.table.flows.items
below c = subst (λ (ls : List Live). c.args.i < length ls) (sym c.self.view_is) c.requires

pub invariant_of-self : goal.invariant_of-self
invariant_of-self c =
    sound_calm (held c.args.holder) c.args.i c.index_mut.result.now c.hold.new.self (held_keeps c.args.holder)
    (held_calms c.args.holder) (held_stays c.args.holder) c.self.invariant (below c) c.index_mut.ensures.value
    c.hold.ensures

pub returns : goal.returns
returns c = wrote_change (held c.args.holder) c.self.inside.table.flows.items c.args.self.now c.args.i
    c.index_mut.result.now c.hold.new.self c.self.view_is c.requires c.index_mut.ensures.value c.hold.ensures
