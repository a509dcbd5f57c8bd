-- Answers of the proof of host/CoreHost/accept.
use Rattle.std.proofs.Common.{◌≡◌, ◌<◌, Bool, length, vec_len, sym, ap, ◌∙◌, refl, subst, arith, rules}
use Rattle.std.specs.Prelude.{None, Some, position}
use Rattle.host_rounds.specs.Hosts.{is_ready}
use Rattle.slow_handshake.specs.Openings.{first_ready}
use Rattle.slow_rounds.proofs.Ready.{none_ready}
use Rattle.core_worker.specs.Workers.{Common}
use Rattle.flow_state.specs.Calls.{call_of, offer_of}
use Rattle.libtas_sockets.specs.Apps.{socket_on}
use Rattle.core_phase.specs.declared.lane.AppLane.{AppLane}
use Rattle.core_phase.specs.declared.lane.Lane.{Lane}
use Rattle.core_phase.specs.declared.lane.Lane.TheVariants as lanes
use Rattle.core_host.specs.Alone.{OnApp, MayHand, IsTakeable}
use Rattle.core_host.specs.Asking.{IsAccepting, lane_in}
use Rattle.core_host.specs.Sound.{IsStaffSound}
use Rattle.core_host.specs.Views.{Staffed, seen_by, staffed_in}
use Rattle.core_host.proofs.Accepted.{may_take, position_of, ready_book}
use Rattle.core_host.proofs.Answering.{accepting_whole, asked_host, near_of, read_of}
use Rattle.core_host.proofs.Calling.{may_hand}
use Rattle.core_host.proofs.Lanes.{IsLaneAt, lane_there}
use Rattle.core_host.proofs.host.CoreHost.accept.Goals as goal

pub index_mut-requires : goal.index_mut-requires
index_mut-requires c =
    let h : Staffed = staffed_in c.self.inside in
    let sound = subst IsStaffSound (sym c.self.view_is) c.requires.sound in
    let at = c.own_lane-at.result in
    let own : IsLaneAt h.lanes at c.args.app =
    lane_there h.cores h.names h.lanes at c.args.app sound.staff
    (subst (λ (x : Staffed). lane_in c.args.app x ≡ Some at) (sym c.self.view_is) c.own_lane-at.ensures) in
    let near : at < length c.self.inside.lanes.items = near_of h.lanes at c.args.app own in
    let len : vec_len c.self.inside.lanes ≡ length c.self.inside.lanes.items = search rules in
    omega (arith, near, len)

pub accept_lane-requires-clause-hand : goal.accept_lane-requires-clause-hand
accept_lane-requires-clause-hand c =
    let h : Staffed = staffed_in c.self.inside in
    let sound = subst IsStaffSound (sym c.self.view_is) c.requires.sound in
    let at = c.own_lane-at.result in
    let own : IsLaneAt h.lanes at c.args.app =
    lane_there h.cores h.names h.lanes at c.args.app sound.staff
    (subst (λ (x : Staffed). lane_in c.args.app x ≡ Some at) (sym c.self.view_is) c.own_lane-at.ensures) in
    let is : c.index_mut.result.now ≡ lanes.App own.lane =
    read_of h.lanes at c.args.app own c.index_mut.result.now c.index_mut.ensures.value in
    subst (OnApp (λ (l : AppLane). MayHand c.deref.result.now.table l.app h.host.slow.pass)) (sym is)
    (subst (λ t. MayHand t own.lane.app h.host.slow.pass) (ap (λ (x : Common). x.table) (sym c.deref.ensures))
    (may_hand h at c.args.app sound own))

pub returns-in_default : goal.returns-in_default
returns-in_default c =
    let h : Staffed = staffed_in c.self.inside in
    let sound = subst IsStaffSound (sym c.self.view_is) c.requires.sound in (
      subst (λ (x : Staffed). position (is_ready c.args.port) (seen_by x).flows ≡ None) c.self.view_is
          (none_ready h.host c.args.port sound.host (sym c.ready_flow.ensures ∙ c.in_default.is)),
      refl,
    )

pub unreachable-requires : goal.unreachable-requires
unreachable-requires c =
    let h : Staffed = staffed_in c.self.inside in
    let sound = subst IsStaffSound (sym c.self.view_is) c.requires.sound in
    let first : first_ready h.host.slow.path c.args.port ≡ Some c.in-Some.id =
    sym c.ready_flow.ensures ∙ c.in-Some.is in
    let ready = ready_book h.host c.args.port c.in-Some.id sound.host first in
    c.in_default-place_of.not-Some ready.place
    (c.place_of.ensures ∙ position_of ready.place c.in-Some.id h.host.books ready.at)

pub accept_lane-requires-clause-takeable : goal.accept_lane-requires-clause-takeable
accept_lane-requires-clause-takeable c =
    let h : Staffed = staffed_in c.self.inside in
    let sound = subst IsStaffSound (sym c.self.view_is) c.requires.sound in
    let at = c.own_lane-at.result in
    let own : IsLaneAt h.lanes at c.args.app =
    lane_there h.cores h.names h.lanes at c.args.app sound.staff
    (subst (λ (x : Staffed). lane_in c.args.app x ≡ Some at) (sym c.self.view_is) c.own_lane-at.ensures) in
    let is : c.index_mut.result.now ≡ lanes.App own.lane =
    read_of h.lanes at c.args.app own c.index_mut.result.now c.index_mut.ensures.value in
    let first : first_ready h.host.slow.path c.args.port ≡ Some c.in-Some.id =
    sym c.ready_flow.ensures ∙ c.in-Some.is in
    subst (OnApp (λ (l : AppLane). IsTakeable c.deref.result.now.table c.in-Some.id l.app h.host.slow.pass.view)) (sym
    is)
    (subst (λ t. IsTakeable t c.in-Some.id own.lane.app h.host.slow.pass.view)
    (ap (λ (x : Common). x.table) (sym c.deref.ensures))
    (may_take h at c.args.app sound own c.args.port c.args.tick c.in-Some.id first))

pub returns : goal.returns
returns c =
    let h : Staffed = staffed_in c.self.inside in
    let sound = subst IsStaffSound (sym c.self.view_is) c.requires.sound in
    let at = c.own_lane-at.result in
    let own : IsLaneAt h.lanes at c.args.app =
    lane_there h.cores h.names h.lanes at c.args.app sound.staff
    (subst (λ (x : Staffed). lane_in c.args.app x ≡ Some at) (sym c.self.view_is) c.own_lane-at.ensures) in
    let is : c.index_mut.result.now ≡ lanes.App own.lane =
    read_of h.lanes at c.args.app own c.index_mut.result.now c.index_mut.ensures.value in
    let first : first_ready h.host.slow.path c.args.port ≡ Some c.in-Some.id =
    sym c.ready_flow.ensures ∙ c.in-Some.is in
    let place = c.in-Some-place_of.place in
    subst (λ (x : Staffed). IsAccepting c.args.app c.args.tick c.args.port x
    (asked_host h c.accept_lane.new.slow c.hold.new.self at c.accept_lane.new.lane h.room) (Some place)) c.self.view_is
    (accepting_whole h sound c.args.app at own c.accept_lane.new.slow c.index_mut.result.now c.accept_lane.new.lane is
    h.room refl c.args.port c.args.tick c.in-Some.id first place (sym c.place_of.ensures ∙ c.in-Some-place_of.is)
    c.in_ok-accept_lane.ensures.slow c.hold.new.self c.hold.ensures c.in_ok-accept_lane.ensures.accepted)
