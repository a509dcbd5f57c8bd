use Rattle.std.proofs.Common.{◌≡◌, true, rules}
use Rattle.std.specs.Prelude.{is_some}
use Rattle.flow_state.proofs.Ready.{kept_released}
use Rattle.flow_state.proofs.record.FlowRecord.release.Goals as goal

pub invariant_of-self : goal.invariant_of-self
invariant_of-self c =
    let closed : is_some c.self.inside.parts.reason ≡ true = search rules in
    kept_released c.self.inside.parts c.release.new.self c.self.inside.arena.memory c.trim-2.new.self.memory
    c.self.inside.stretches.items c.shrink_to_fit.new.self.items c.self.inside.counts.counts
    c.trim.new.self.counts c.self.inside.application c.self.inside.made c.self.inside.last c.self.inside.sent
    c.self.invariant closed c.release.ensures c.trim-2.ensures c.shrink_to_fit.ensures.items c.trim.ensures

pub returns-clause-stands : goal.returns-clause-stands
returns-clause-stands c = (invariant_of-self c).stands
