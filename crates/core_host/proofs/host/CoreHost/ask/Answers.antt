-- Answers of the proof of host/CoreHost/ask.
use Rattle.std.proofs.Common.{◌≡◌, ◌<◌, Bool, length, vec_len, sym, ap, ◌∙◌, refl, subst, arith, rules}
use Rattle.std.specs.Prelude.{Some, slice_get}
use Rattle.host_books.specs.Books.{Book}
use Rattle.core_worker.specs.Workers.{Common}
use Rattle.flow_state.specs.Calls.{call_of, offer_of}
use Rattle.libtas_sockets.specs.Apps.{socket_on}
use Rattle.core_phase.specs.declared.lane.AppLane.{AppLane}
use Rattle.core_phase.specs.declared.lane.Lane.{Lane}
use Rattle.core_phase.specs.declared.lane.Lane.TheVariants as lanes
use Rattle.core_host.specs.Alone.{OnApp, MayHand}
use Rattle.asked_host.specs.Asking.{asked_by}
use Rattle.core_host.specs.Asking.{HasSocket, IsAsked, lane_in}
use Rattle.core_host.specs.Sound.{IsStaffSound}
use Rattle.core_host.specs.Views.{Staffed, staffed_in}
use Rattle.core_host.proofs.Alone.{all_ok}
use Rattle.core_host.proofs.Answering.{asked_host, asked_whole, has_socket, near_of, ok_on, read_of}
use Rattle.core_host.proofs.Calling.{may_hand}
use Rattle.core_host.proofs.Lanes.{IsLaneAt, lane_there}
use Rattle.core_host.proofs.host.CoreHost.ask.Goals as goal

pub index_mut-requires : goal.index_mut-requires
index_mut-requires c =
    let h : Staffed = staffed_in c.self.inside in
    let sound = subst IsStaffSound (sym c.self.view_is) c.requires.sound in
    let at = c.own_lane-at.result in
    let own : IsLaneAt h.lanes at c.args.app =
    lane_there h.cores h.names h.lanes at c.args.app sound.staff
    (subst (λ (x : Staffed). lane_in c.args.app x ≡ Some at) (sym c.self.view_is) c.own_lane-at.ensures) in
    let near : at < length c.self.inside.lanes.items = near_of h.lanes at c.args.app own in
    let len : vec_len c.self.inside.lanes ≡ length c.self.inside.lanes.items = search rules in
    omega (arith, near, len)

pub ask_lane-requires-clause-app : goal.ask_lane-requires-clause-app
ask_lane-requires-clause-app c =
    let h : Staffed = staffed_in c.self.inside in
    let sound = subst IsStaffSound (sym c.self.view_is) c.requires.sound in
    let at = c.own_lane-at.result in
    let own : IsLaneAt h.lanes at c.args.app =
    lane_there h.cores h.names h.lanes at c.args.app sound.staff
    (subst (λ (x : Staffed). lane_in c.args.app x ≡ Some at) (sym c.self.view_is) c.own_lane-at.ensures) in
    let is : c.index_mut.result.now ≡ lanes.App own.lane =
    read_of h.lanes at c.args.app own c.index_mut.result.now c.index_mut.ensures.value in
    subst (OnApp (λ (l : AppLane). MayHand c.deref.result.now.table l.app h.host.slow.pass)) (sym is)
    (subst (λ t. MayHand t own.lane.app h.host.slow.pass) (ap (λ (x : Common). x.table) (sym c.deref.ensures))
    (may_hand h at c.args.app sound own))

pub ask_lane-requires-clause-socket : goal.ask_lane-requires-clause-socket
ask_lane-requires-clause-socket c =
    let h : Staffed = staffed_in c.self.inside in
    let sound = subst IsStaffSound (sym c.self.view_is) c.requires.sound in
    let at = c.own_lane-at.result in
    let own : IsLaneAt h.lanes at c.args.app =
    lane_there h.cores h.names h.lanes at c.args.app sound.staff
    (subst (λ (x : Staffed). lane_in c.args.app x ≡ Some at) (sym c.self.view_is) c.own_lane-at.ensures) in
    let is : c.index_mut.result.now ≡ lanes.App own.lane =
    read_of h.lanes at c.args.app own c.index_mut.result.now c.index_mut.ensures.value in
    let has = subst (HasSocket c.args.app c.args.place) (sym c.self.view_is) c.requires.socket in
    let named : (b : Book) → slice_get h.host.books c.args.place ≡ Some b → socket_on c.id.result ≡ socket_on b.id =
    λ b there. ap socket_on (sym (c.id.ensures b there)) in
    has_socket h sound c.args.app at own h.host.slow c.index_mut.result.now c.index_mut.result.now is h.room refl
    c.args.place c.args.tick c.args.call.now has (socket_on c.id.result) named refl

pub returns-clause-made : goal.returns-clause-made
returns-clause-made c =
    let h : Staffed = staffed_in c.self.inside in
    let sound = subst IsStaffSound (sym c.self.view_is) c.requires.sound in
    let at = c.own_lane-at.result in
    let own : IsLaneAt h.lanes at c.args.app =
    lane_there h.cores h.names h.lanes at c.args.app sound.staff
    (subst (λ (x : Staffed). lane_in c.args.app x ≡ Some at) (sym c.self.view_is) c.own_lane-at.ensures) in
    let is : c.index_mut.result.now ≡ lanes.App own.lane =
    read_of h.lanes at c.args.app own c.index_mut.result.now c.index_mut.ensures.value in
    let has = subst (HasSocket c.args.app c.args.place) (sym c.self.view_is) c.requires.socket in
    let named : (b : Book) → slice_get h.host.books c.args.place ≡ Some b → socket_on c.id.result ≡ socket_on b.id =
    λ b there. ap socket_on (sym (c.id.ensures b there)) in
    let room = c.ask_lane.ensures.room ∙ sym sound.room in
    ok_on c.ask_lane.result _ _
    (λ answer on. subst (λ (x : Staffed). IsAsked c.args.app
    (asked_by c.args.app c.args.place c.args.tick (call_of c.args.call.now) (offer_of c.args.call.now)) x
    (asked_host h c.ask_lane.new.slow h.host.books at c.ask_lane.new.lane (length c.ask_lane.new.buffer.items)))
    c.self.view_is
    (asked_whole h sound c.args.app at own c.ask_lane.new.slow c.index_mut.result.now c.ask_lane.new.lane is
    (length c.ask_lane.new.buffer.items) room c.args.place c.args.tick c.args.call.now has (socket_on c.id.result)
    named c.ask_lane.ensures.slow answer on).0)
    c.ask_lane.ensures.asked

pub returns-clause-answer : goal.returns-clause-answer
returns-clause-answer c =
    let h : Staffed = staffed_in c.self.inside in
    let sound = subst IsStaffSound (sym c.self.view_is) c.requires.sound in
    let at = c.own_lane-at.result in
    let own : IsLaneAt h.lanes at c.args.app =
    lane_there h.cores h.names h.lanes at c.args.app sound.staff
    (subst (λ (x : Staffed). lane_in c.args.app x ≡ Some at) (sym c.self.view_is) c.own_lane-at.ensures) in
    let is : c.index_mut.result.now ≡ lanes.App own.lane =
    read_of h.lanes at c.args.app own c.index_mut.result.now c.index_mut.ensures.value in
    let has = subst (HasSocket c.args.app c.args.place) (sym c.self.view_is) c.requires.socket in
    let named : (b : Book) → slice_get h.host.books c.args.place ≡ Some b → socket_on c.id.result ≡ socket_on b.id =
    λ b there. ap socket_on (sym (c.id.ensures b there)) in
    let room = c.ask_lane.ensures.room ∙ sym sound.room in
    all_ok c.ask_lane.result _ _
    (λ answer on. (asked_whole h sound c.args.app at own c.ask_lane.new.slow c.index_mut.result.now c.ask_lane.new.lane
    is (length c.ask_lane.new.buffer.items) room c.args.place c.args.tick c.args.call.now has (socket_on c.id.result)
    named c.ask_lane.ensures.slow answer on).1)
    c.ask_lane.ensures.asked
