-- Answers of the proof of host/CoreHost/hand_out.
use Rattle.std.proofs.Common.{ℕ, List, length, sym, ap, ◌∙◌, subst}
use Rattle.std.specs.List.{AllZip}
use Rattle.host_rounds.specs.Lists.{Each}
use Rattle.phase_orders.specs.Handing.{IsInGroup}
use Rattle.core_host.specs.Handing.{comings, dealt_from}
use Rattle.core_host.specs.Sound.{IsClear, IsStaffSound}
use Rattle.core_host.specs.Views.{Staffed, staffed_in}
use Rattle.core_host.proofs.Dealing.{groups_long, handed_all}
use Rattle.core_host.proofs.Played.{ok_map}
use Rattle.core_host.proofs.host.CoreHost.hand_out.Goals as goal

pub hand_all-requires-clause-count : goal.hand_all-requires-clause-count
hand_all-requires-clause-count g c =
    groups_long c.args.frames.now c.as_slice.result.now c.as_slice-2.result.now
    (subst (AllZip IsInGroup (comings c.args.frames.now)) (sym c.as_slice.ensures.value) c.in_ok-groups.ensures.groups)
    (ap (λ (l : List ℕ). length l) c.as_slice-2.ensures.value ∙ c.in_ok-handed.ensures.len)

pub returns : goal.returns
returns g c =
    let h : Staffed = staffed_in c.self.inside in
    let handed : List ℕ = c.in_ok-handed.handed.items in
    ok_map c.hand_all.result
    (λ is.
    handed_all h c.args.moves.now (comings c.args.frames.now) c.as_slice.result.now handed _ _
    (subst IsStaffSound (sym c.self.view_is) c.requires.sound)
    (subst (λ (b : Staffed). Each IsClear b.lanes) (sym c.self.view_is) c.requires.clear)
    (subst (AllZip IsInGroup (comings c.args.frames.now)) (sym c.as_slice.ensures.value) c.in_ok-groups.ensures.groups)
    c.in_ok-handed.ensures.handed c.in_ok-handed.ensures.below c.in_ok-handed.ensures.own
    (is ∙ ap (λ (l : List ℕ). dealt_from 0 l (comings c.args.frames.now) h.lanes) c.as_slice-2.ensures.value)
    _ c.self.view_is)
    c.hand_all.ensures
