-- Answers of the proof of host/CoreHost/forget_tries.
use Rattle.std.proofs.Common.{List, sym, subst}
use Rattle.host_rounds.specs.Lists.{Each}
use Rattle.core_phase.specs.declared.lane.Lane.{Lane}
use Rattle.core_host.specs.Emission.{AreTriesSet}
use Rattle.core_host.specs.Sound.{IsStaffSound, IsUnasked}
use Rattle.core_host.specs.Views.{Staffed, staffed_in}
use Rattle.core_host.proofs.Sending.{forgotten, with_lanes}
use Rattle.core_host.proofs.host.CoreHost.forget_tries.Goals as goal

pub returns-clause-set : goal.returns-clause-set
returns-clause-set c =
    let h : Staffed = staffed_in c.self.inside in
    let sound : IsStaffSound h = subst IsStaffSound (sym c.self.view_is) c.requires.sound in
    subst (λ (k : Staffed). AreTriesSet k (with_lanes c.forget_all.new.lanes.items h)) c.self.view_is
    (subst (λ (ls : List Lane). AreTriesSet h (with_lanes ls h)) (sym c.forget_all.ensures) (forgotten h sound).0)

pub returns-clause-none : goal.returns-clause-none
returns-clause-none c =
    let h : Staffed = staffed_in c.self.inside in
    let sound : IsStaffSound h = subst IsStaffSound (sym c.self.view_is) c.requires.sound in
    subst (Each IsUnasked) (sym c.forget_all.ensures) (forgotten h sound).1
