-- Answers of the proof of host/CoreHost/try_call.
use Rattle.std.proofs.Common.{◌≡◌, ◌<◌, ◌==◌, ℕ, List, length, vec_len, sym, ap, ◌∙◌, subst, arith, rules}
use Rattle.std.specs.Prelude.{IsSome, position, slice_get}
use Rattle.libtas_sockets.specs.Apps.{socket_on}
use Rattle.core_host.specs.Attempts.{HasSocketAt}
use Rattle.core_host.specs.Sound.{IsStaffSound}
use Rattle.core_host.specs.Views.{Staffed, staffed_in}
use Rattle.core_phase.specs.declared.lane.Lane.TheVariants as lanes
use Rattle.core_host.proofs.Tries.{own_lane, lane_near, read_is, tried_out, runs_here, held_at_place}
use Rattle.core_host.proofs.host.CoreHost.try_call.Goals as goal

pub lane_place-at-requires-clause-runs : goal.lane_place-at-requires-clause-runs
lane_place-at-requires-clause-runs c =
    let h : Staffed = staffed_in c.self.inside in
    subst (λ (ns : List ℕ). IsSome (position (λ (n : ℕ). n == c.args.app) ns)) (sym c.as_slice.ensures.value)
    (runs_here h c.args.app c.args.place (subst IsStaffSound (sym c.self.view_is) c.requires.sound)
    (subst (HasSocketAt c.args.app c.args.place) (sym c.self.view_is) c.requires.socket))

pub index_mut-requires : goal.index_mut-requires
index_mut-requires c =
    let h : Staffed = staffed_in c.self.inside in
    let sound = subst IsStaffSound (sym c.self.view_is) c.requires.sound in
    let own = own_lane c.args.app h.cores h.names c.as_slice.result.now h.lanes c.lane_place-at.result sound.staff
    c.as_slice.ensures.value c.lane_place-at.ensures in
    let near : c.lane_place-at.result < length c.self.inside.lanes.items =
    lane_near h.lanes c.lane_place-at.result (lanes.App own.0) own.1.there in
    let len : vec_len c.self.inside.lanes ≡ length c.self.inside.lanes.items = search rules in
    omega (arith, near, len)

pub set_out-requires : goal.set_out-requires
set_out-requires c =
    let h : Staffed = staffed_in c.self.inside in
    let sound = subst IsStaffSound (sym c.self.view_is) c.requires.sound in
    let own = own_lane c.args.app h.cores h.names c.as_slice.result.now h.lanes c.lane_place-at.result sound.staff
    c.as_slice.ensures.value c.lane_place-at.ensures in (
      own.0,
      read_is h.lanes c.lane_place-at.result c.index_mut.result.now (lanes.App own.0) own.1.there
          c.index_mut.ensures.value,
    )

pub returns : goal.returns
returns c b at =
    let h : Staffed = staffed_in c.self.inside in
    let sound = subst IsStaffSound (sym c.self.view_is) c.requires.sound in
    let socket = subst (HasSocketAt c.args.app c.args.place) (sym c.self.view_is) c.requires.socket in
    let own = own_lane c.args.app h.cores h.names c.as_slice.result.now h.lanes c.lane_place-at.result sound.staff
    c.as_slice.ensures.value c.lane_place-at.ensures in
    let is : c.index_mut.result.now ≡ lanes.App own.0 =
    read_is h.lanes c.lane_place-at.result c.index_mut.result.now (lanes.App own.0) own.1.there
    c.index_mut.ensures.value in
    let there = ap (λ (x : Staffed). slice_get x.host.books c.args.place) c.self.view_is ∙ at in
    tried_out h sound c.args.app c.lane_place-at.result own.0 own.1 c.args.place b c.args.call.now
    c.in_ok-attempt.attempt _ c.set_out.new.lane there (held_at_place h c.args.app c.args.place b socket there)
    c.in_ok-attempt.ensures.made c.in_ok-attempt.ensures.may (ap socket_on (sym (c.id.ensures b there)))
    (c.set_out.ensures own.0 is) _ c.self.view_is
