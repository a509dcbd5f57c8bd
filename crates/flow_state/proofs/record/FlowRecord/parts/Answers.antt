use Rattle.std.proofs.Common.{List, length, subst, arith}
use Rattle.tas_model.specs.declared.entry.Entry.{Entry}
use Rattle.tas_model.specs.declared.entry.HostParams.{HostParams}
use Rattle.tas_model.specs.LegalHistory.{replay}
use Rattle.tas_model.proofs.MovesLaws.{places_of}
use Rattle.flow_state.specs.Flow.{Flow}
use Rattle.flow_state.specs.Stretches.{entries_of}
use Rattle.flow_state.specs.Stands.{IsNear, HasRings}
use Rattle.flow_state.proofs.Near.{near_of}
use Rattle.flow_state.proofs.Ready.{rings_of}
use Rattle.flow_state.proofs.record.FlowRecord.parts.Goals as goal

pub returns-clause-near : goal.returns-clause-near
returns-clause-near c =
    let h : List Entry = entries_of c.self.inside.arena.memory c.self.inside.stretches.items in
    let p : HostParams = c.self.inside.parts.params in
    let near : IsNear c.self.inside.parts =
    near_of c.self.inside.parts (replay p h) (length h) c.self.invariant.stands
    (places_of p h c.self.invariant.fits c.self.invariant.legal)
    (omega (
      arith,
      c.self.invariant.made,
      c.self.invariant.few,
      c.self.invariant.low,
      c.self.inside.stretches.ok,
      c.self.inside.stretches.small,
    )) in
    subst (λ (f : Flow). IsNear f.parts) c.self.view_is near

pub returns-clause-rings : goal.returns-clause-rings
returns-clause-rings c =
    subst (λ (f : Flow). HasRings f.parts) c.self.view_is
    (rings_of c.self.inside.parts (replay _ _) c.self.invariant.stands)
