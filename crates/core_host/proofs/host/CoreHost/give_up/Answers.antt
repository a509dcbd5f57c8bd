-- Answers of the proof of host/CoreHost/give_up.
use Rattle.std.proofs.Common.{◌≡◌, ◌<◌, Bool, length, vec_len, sym, ap, ◌∙◌, refl, subst, arith, rules}
use Rattle.std.specs.Prelude.{Some, slice_get}
use Rattle.host_books.specs.Books.{Book}
use Rattle.core_worker.specs.Workers.{Common}
use Rattle.flow_state.specs.Calls.{call_of, offer_of}
use Rattle.libtas_sockets.specs.Apps.{socket_on}
use Rattle.core_phase.specs.declared.lane.AppLane.{AppLane}
use Rattle.core_phase.specs.declared.lane.Lane.{Lane}
use Rattle.core_phase.specs.declared.lane.Lane.TheVariants as lanes
use Rattle.core_host.specs.Alone.{OnApp, MayHand}
use Rattle.asked_host.specs.Asking.{left_by}
use Rattle.core_host.specs.Asking.{HasSocket, IsAsked, lane_in}
use Rattle.core_host.specs.Sound.{IsStaffSound}
use Rattle.core_host.specs.Views.{Staffed, staffed_in}
use Rattle.core_host.proofs.Answering.{asked_host, has_socket, left_whole, near_of, no_offer, read_of}
use Rattle.core_host.proofs.Calling.{may_hand}
use Rattle.core_host.proofs.Lanes.{IsLaneAt, lane_there}
use Rattle.core_host.proofs.host.CoreHost.give_up.Goals as goal

pub index_mut-requires : goal.index_mut-requires
index_mut-requires c =
    let h : Staffed = staffed_in c.self.inside in
    let sound = subst IsStaffSound (sym c.self.view_is) c.requires.sound in
    let at = c.own_lane-at.result in
    let own : IsLaneAt h.lanes at c.args.app =
    lane_there h.cores h.names h.lanes at c.args.app sound.staff
    (subst (λ (x : Staffed). lane_in c.args.app x ≡ Some at) (sym c.self.view_is) c.own_lane-at.ensures) in
    let near : at < length c.self.inside.lanes.items = near_of h.lanes at c.args.app own in
    let len : vec_len c.self.inside.lanes ≡ length c.self.inside.lanes.items = search rules in
    omega (arith, near, len)

pub leave_lane-requires-clause-app : goal.leave_lane-requires-clause-app
leave_lane-requires-clause-app c =
    let h : Staffed = staffed_in c.self.inside in
    let sound = subst IsStaffSound (sym c.self.view_is) c.requires.sound in
    let at = c.own_lane-at.result in
    let own : IsLaneAt h.lanes at c.args.app =
    lane_there h.cores h.names h.lanes at c.args.app sound.staff
    (subst (λ (x : Staffed). lane_in c.args.app x ≡ Some at) (sym c.self.view_is) c.own_lane-at.ensures) in
    let is : c.index_mut.result.now ≡ lanes.App own.lane =
    read_of h.lanes at c.args.app own c.index_mut.result.now c.index_mut.ensures.value in
    subst (OnApp (λ (l : AppLane). MayHand c.deref.result.now.table l.app h.host.slow.pass)) (sym is)
    (subst (λ t. MayHand t own.lane.app h.host.slow.pass) (ap (λ (x : Common). x.table) (sym c.deref.ensures))
    (may_hand h at c.args.app sound own))

pub leave_lane-requires-clause-socket : goal.leave_lane-requires-clause-socket
leave_lane-requires-clause-socket c =
    let h : Staffed = staffed_in c.self.inside in
    let sound = subst IsStaffSound (sym c.self.view_is) c.requires.sound in
    let at = c.own_lane-at.result in
    let own : IsLaneAt h.lanes at c.args.app =
    lane_there h.cores h.names h.lanes at c.args.app sound.staff
    (subst (λ (x : Staffed). lane_in c.args.app x ≡ Some at) (sym c.self.view_is) c.own_lane-at.ensures) in
    let is : c.index_mut.result.now ≡ lanes.App own.lane =
    read_of h.lanes at c.args.app own c.index_mut.result.now c.index_mut.ensures.value in
    let has = subst (HasSocket c.args.app c.args.place) (sym c.self.view_is) c.requires.socket in
    let named : (b : Book) → slice_get h.host.books c.args.place ≡ Some b → socket_on c.id.result ≡ socket_on b.id =
    λ b there. ap socket_on (sym (c.id.ensures b there)) in
    has_socket h sound c.args.app at own h.host.slow c.index_mut.result.now c.index_mut.result.now is h.room refl
    c.args.place c.args.tick c.args.call.now has (socket_on c.id.result) named refl

pub returns : goal.returns
returns c =
    let h : Staffed = staffed_in c.self.inside in
    let sound = subst IsStaffSound (sym c.self.view_is) c.requires.sound in
    let at = c.own_lane-at.result in
    let own : IsLaneAt h.lanes at c.args.app =
    lane_there h.cores h.names h.lanes at c.args.app sound.staff
    (subst (λ (x : Staffed). lane_in c.args.app x ≡ Some at) (sym c.self.view_is) c.own_lane-at.ensures) in
    let is : c.index_mut.result.now ≡ lanes.App own.lane =
    read_of h.lanes at c.args.app own c.index_mut.result.now c.index_mut.ensures.value in
    let has = subst (HasSocket c.args.app c.args.place) (sym c.self.view_is) c.requires.socket in
    let named : (b : Book) → slice_get h.host.books c.args.place ≡ Some b → socket_on c.id.result ≡ socket_on b.id =
    λ b there. ap socket_on (sym (c.id.ensures b there)) in
    subst (λ (x : Staffed). IsAsked c.args.app (left_by c.args.app c.args.place c.args.tick (call_of c.args.call.now)) x
    (asked_host h c.leave_lane.new.slow c.hold.new.self at c.leave_lane.new.lane h.room)) c.self.view_is
    (left_whole h sound c.args.app at own c.leave_lane.new.slow c.index_mut.result.now c.leave_lane.new.lane is h.room
    refl c.args.place c.args.tick c.args.call.now has (socket_on c.id.result) named c.in_ok-leave_lane.ensures.slow
    c.hold.new.self c.hold.ensures (no_offer c.args.call.now c.requires.kind) c.in_ok-leave_lane.ensures.left)
