-- Answers of the proof of host/CoreHost/take_answer.
use Rattle.std.proofs.Common.{◌≡◌, ◌<◌, length, vec_len, sym, ap, ◌∙◌, subst, arith, rules}
use Rattle.core_host.specs.Attempts.{answer_told}
use Rattle.core_host.specs.Sound.{IsStaffSound}
use Rattle.core_host.specs.Views.{Staffed, staffed_in}
use Rattle.core_phase.specs.declared.lane.Lane.TheVariants as lanes
use Rattle.core_host.proofs.Tries.{own_lane, lane_near, read_is, if_ok, answer_taken}
use Rattle.core_host.proofs.host.CoreHost.take_answer.Goals as goal

pub index_mut-requires : goal.index_mut-requires
index_mut-requires c =
    let h : Staffed = staffed_in c.self.inside in
    let sound = subst IsStaffSound (sym c.self.view_is) c.requires.sound in
    let own = own_lane c.args.app h.cores h.names c.as_slice.result.now h.lanes c.lane_place-at.result sound.staff
    c.as_slice.ensures.value c.lane_place-at.ensures in
    let near : c.lane_place-at.result < length c.self.inside.lanes.items =
    lane_near h.lanes c.lane_place-at.result (lanes.App own.0) own.1.there in
    let len : vec_len c.self.inside.lanes ≡ length c.self.inside.lanes.items = search rules in
    omega (arith, near, len)

pub take_out-answered-requires : goal.take_out-answered-requires
take_out-answered-requires c =
    let h : Staffed = staffed_in c.self.inside in
    let sound = subst IsStaffSound (sym c.self.view_is) c.requires.sound in
    let own = own_lane c.args.app h.cores h.names c.as_slice.result.now h.lanes c.lane_place-at.result sound.staff
    c.as_slice.ensures.value c.lane_place-at.ensures in (
      own.0,
      read_is h.lanes c.lane_place-at.result c.index_mut.result.now (lanes.App own.0) own.1.there
          c.index_mut.ensures.value,
    )

pub returns : goal.returns
returns c =
    let h : Staffed = staffed_in c.self.inside in
    let sound = subst IsStaffSound (sym c.self.view_is) c.requires.sound in
    let own = own_lane c.args.app h.cores h.names c.as_slice.result.now h.lanes c.lane_place-at.result sound.staff
    c.as_slice.ensures.value c.lane_place-at.ensures in
    let is : c.index_mut.result.now ≡ lanes.App own.0 =
    read_is h.lanes c.lane_place-at.result c.index_mut.result.now (lanes.App own.0) own.1.there
    c.index_mut.ensures.value in
    if_ok c.answer_in.result
    (λ a e.
    answer_taken h sound c.args.app c.lane_place-at.result own.0 own.1 a c.take_out-answered.new.lane
    (e ∙ ap answer_told (c.take_out-answered.ensures.answer own.0 is))
    (c.take_out-answered.ensures.lane own.0 is) _ c.self.view_is)
    c.answer_in.ensures
