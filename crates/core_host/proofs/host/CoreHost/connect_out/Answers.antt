-- Answers of the proof of host/CoreHost/connect_out.
use Rattle.std.proofs.Common.{◌≡◌, ◌<◌, ◌+◌, Bool, true, false, length, vec_len, sym, ap, ◌∙◌, refl, subst, arith}
use Rattle.std.proofs.Common.{rules}
use Rattle.std.specs.Prelude.{Some, is_some}
use Rattle.tas_model.specs.declared.entry.FourTuple.{FourTuple}
use Rattle.host_rounds.specs.Hosts.{lowest_free}
use Rattle.libtas_sockets.specs.Connecting.{next_tuple}
use Rattle.slow_handshake.specs.Numbers.{FirstNumbers}
use Rattle.slow_handshake.specs.Openings.{Openings, first_port}
use Rattle.tas_model.specs.declared.entry.HostParams.{HostParams}
use Rattle.slow_rounds.specs.Rests.{starts_by}
use Rattle.core_worker.specs.Workers.{Common}
use Rattle.flow_state.specs.Calls.{call_of, offer_of}
use Rattle.libtas_sockets.specs.Apps.{socket_on}
use Rattle.core_phase.specs.declared.lane.AppLane.{AppLane}
use Rattle.core_phase.specs.declared.lane.Lane.{Lane}
use Rattle.core_phase.specs.declared.lane.Lane.TheVariants as lanes
use Rattle.core_host.specs.Alone.{OnApp, MayHand}
use Rattle.core_host.specs.Asking.{lane_in}
use Rattle.core_host.specs.Connecting.{IsConnecting, IsSlotFree}
use Rattle.local_host.specs.declared.host.Connecting.TheVariants.{Opened}
use Rattle.core_host.specs.Sound.{IsStaffSound}
use Rattle.core_host.specs.declared.host.CoreHost.TheInside.{Inside}
use Rattle.core_host.specs.Views.{Staffed, seen_by, staffed_in}
use Rattle.core_host.proofs.Answering.{asked_host, connecting_whole, near_of, read_of}
use Rattle.core_host.proofs.Calling.{is_app, may_hand}
use Rattle.core_host.proofs.Connected.{slot_for}
use Rattle.core_host.proofs.Lanes.{IsLaneAt, lane_there}
use Rattle.core_host.proofs.host.CoreHost.connect_out.Goals as goal

pub index_mut-requires : goal.index_mut-requires
index_mut-requires g c =
    let h : Staffed = staffed_in c.self.inside in
    let sound = subst IsStaffSound (sym c.self.view_is) c.requires.sound in
    let at = c.own_lane-at.result in
    let own : IsLaneAt h.lanes at c.args.app =
    lane_there h.cores h.names h.lanes at c.args.app sound.staff
    (subst (λ (x : Staffed). lane_in c.args.app x ≡ Some at) (sym c.self.view_is) c.own_lane-at.ensures) in
    let near : at < length c.self.inside.lanes.items = near_of h.lanes at c.args.app own in
    let len : vec_len c.self.inside.lanes ≡ length c.self.inside.lanes.items = search rules in
    omega (arith, near, len)

pub connect_lane-requires-clause-hand : goal.connect_lane-requires-clause-hand
connect_lane-requires-clause-hand g c =
    let h : Staffed = staffed_in c.self.inside in
    let sound = subst IsStaffSound (sym c.self.view_is) c.requires.sound in
    let at = c.own_lane-at.result in
    let own : IsLaneAt h.lanes at c.args.app =
    lane_there h.cores h.names h.lanes at c.args.app sound.staff
    (subst (λ (x : Staffed). lane_in c.args.app x ≡ Some at) (sym c.self.view_is) c.own_lane-at.ensures) in
    let is : c.index_mut.result.now ≡ lanes.App own.lane =
    read_of h.lanes at c.args.app own c.index_mut.result.now c.index_mut.ensures.value in
    subst (OnApp (λ (l : AppLane). MayHand c.deref.result.now.table l.app h.host.slow.pass)) (sym is)
    (subst (λ t. MayHand t own.lane.app h.host.slow.pass) (ap (λ (x : Common). x.table) (sym c.deref.ensures))
    (may_hand h at c.args.app sound own))

pub connect_lane-requires-clause-slot : goal.connect_lane-requires-clause-slot
connect_lane-requires-clause-slot g c =
    let h : Staffed = staffed_in c.self.inside in
    let sound = subst IsStaffSound (sym c.self.view_is) c.requires.sound in
    let at = c.own_lane-at.result in
    let own : IsLaneAt h.lanes at c.args.app =
    lane_there h.cores h.names h.lanes at c.args.app sound.staff
    (subst (λ (x : Staffed). lane_in c.args.app x ≡ Some at) (sym c.self.view_is) c.own_lane-at.ensures) in
    let is : c.index_mut.result.now ≡ lanes.App own.lane =
    read_of h.lanes at c.args.app own c.index_mut.result.now c.index_mut.ensures.value in
    let t : c.has_slot.result ≡ true = search rules in
    let few : length h.host.books < 4294967295 =
    subst (λ (x : Staffed). length x.host.books < 4294967295) (sym c.self.view_is) (c.has_slot.ensures.few t) in
    let free_is : is_some (lowest_free (seen_by h)) ≡ true =
    subst (λ (x : Staffed). is_some (lowest_free (seen_by x)) ≡ true) (sym c.self.view_is)
    (sym c.has_slot.ensures.free ∙ t) in
    subst (OnApp (λ (l : AppLane). IsSlotFree h.host.slow l.app)) (sym is)
    (slot_for h.host sound.host sound.counted own.lane.app (is_app h at c.args.app sound own) few free_is)

pub returns : goal.returns
returns g c =
    let h : Staffed = staffed_in c.self.inside in
    let sound = subst IsStaffSound (sym c.self.view_is) c.requires.sound in
    let at = c.own_lane-at.result in
    let own : IsLaneAt h.lanes at c.args.app =
    lane_there h.cores h.names h.lanes at c.args.app sound.staff
    (subst (λ (x : Staffed). lane_in c.args.app x ≡ Some at) (sym c.self.view_is) c.own_lane-at.ensures) in
    let is : c.index_mut.result.now ≡ lanes.App own.lane =
    read_of h.lanes at c.args.app own c.index_mut.result.now c.index_mut.ensures.value in
    let t : c.has_slot.result ≡ true = search rules in
    let few : length h.host.books < 4294967295 =
    subst (λ (x : Staffed). length x.host.books < 4294967295) (sym c.self.view_is) (c.has_slot.ensures.few t) in
    let ns : FirstNumbers = g.N.NumberSource.number c.args.numbers.now in
    let path = ap (λ (x : Inside). x.slow.path) c.self-inside.view_is in
    let given : FourTuple = record {
      laddr = c.params.result.now.addr;
      lport = c.in-Ok.lport;
      raddr = c.args.raddr;
      rport = c.args.rport;
    } in
    let is_given : given ≡ next_tuple h.host.slow.path c.args.raddr c.args.rport = λ i. record {
      laddr = (ap (λ (x : HostParams). x.addr) (c.params.ensures ∙ ap (λ (x : Openings). x.params) path)) i;
      lport = (c.in-Ok.ensures.port ∙ ap (λ (x : Openings). first_port + x.ports) path) i;
      raddr = c.args.raddr;
      rport = c.args.rport;
    } in
    let free_ports : h.host.slow.path.params.fixed ≡ false =
    subst (λ (x : Staffed). (seen_by x).params.fixed ≡ false) (sym c.self.view_is) c.requires.ports in
    subst (λ (x : Staffed). IsConnecting (starts_by ns) c.args.tick c.args.app c.args.raddr c.args.rport x
    (asked_host h c.connect_lane.new.slow c.open.new.self at c.connect_lane.new.lane h.room)
    (Opened c.len-place.result)) c.self.view_is
    (connecting_whole h sound c.args.app at own c.connect_lane.new.slow c.index_mut.result.now c.connect_lane.new.lane
    is
    ns c.args.raddr c.args.rport c.args.tick c.len-place.result given c.in_ok-id.id free_ports few
    (subst (λ (x : Openings). x.ports < 16384) path c.in-Ok.ensures.left)
    (c.len-place.ensures ∙ ap (λ (x : Inside). length x.books) c.self-inside.view_is) is_given c.open.new.self
    c.in_ok-open.ensures c.in_ok-id.ensures)
