-- Answers of the proof of host/CoreHost/kill.
use Rattle.std.proofs.Common.{◌≡◌, ◌<◌, false, length, vec_len, refl, sym, ap, ◌∙◌, subst, arith, rules}
use Rattle.std.specs.Prelude.{Some}
use Rattle.core_worker.specs.Workers.{Common}
use Rattle.core_phase.specs.declared.lane.AppLane.{AppLane}
use Rattle.core_phase.specs.declared.lane.Lane.TheVariants as lanes
use Rattle.core_host.specs.Alone.{OnApp, MayHand}
use Rattle.core_host.specs.Asking.{lane_in}
use Rattle.core_host.specs.Kills.{HasAbortedWaiting, IsKilled}
use Rattle.core_host.specs.Sound.{IsStaffSound}
use Rattle.core_host.specs.Views.{Staffed, staffed_in}
use Rattle.sound_phases.specs.Phased.{apps_in}
use Rattle.core_host.proofs.Acting.{idle}
use Rattle.core_host.proofs.Answering.{near_of, read_of}
use Rattle.core_host.proofs.Gone.{killed_at, may_end}
use Rattle.core_host.proofs.Lanes.{IsLaneAt, lane_there}
use Rattle.core_host.proofs.host.CoreHost.kill.Goals as goal

pub remove-lane-requires : goal.remove-lane-requires
remove-lane-requires c =
    let h : Staffed = staffed_in c.self.inside in
    let sound = subst IsStaffSound (sym c.self.view_is) c.requires.sound in
    let at = c.own_lane-at.result in
    let own : IsLaneAt h.lanes at c.args.app =
    lane_there h.cores h.names h.lanes at c.args.app sound.staff
    (subst (λ (x : Staffed). lane_in c.args.app x ≡ Some at) (sym c.self.view_is) c.own_lane-at.ensures) in
    let near : at < length c.self.inside.lanes.items = near_of h.lanes at c.args.app own in
    let len : vec_len c.self.inside.lanes ≡ length c.self.inside.lanes.items = search rules in
    omega (arith, near, len)

pub end_lane-requires-clause-hand : goal.end_lane-requires-clause-hand
end_lane-requires-clause-hand c =
    let h : Staffed = staffed_in c.self.inside in
    let sound = subst IsStaffSound (sym c.self.view_is) c.requires.sound in
    let at = c.own_lane-at.result in
    let own : IsLaneAt h.lanes at c.args.app =
    lane_there h.cores h.names h.lanes at c.args.app sound.staff
    (subst (λ (x : Staffed). lane_in c.args.app x ≡ Some at) (sym c.self.view_is) c.own_lane-at.ensures) in
    let waited : HasAbortedWaiting c.args.app c.args.tick h.host c.abort_waiting.new.slow =
    c.in_ok-abort_waiting.ensures h.host (ap (λ (x : Common). x.table) (sym c.deref.ensures)) refl sound.host in
    subst (OnApp (λ (l : AppLane). MayHand c.deref-2.result.now.table l.app c.abort_waiting.new.slow.pass))
    (sym (read_of h.lanes at c.args.app own c.remove-lane.result c.remove-lane.ensures.value))
    (may_end h sound c.args.app c.args.tick at own c.abort_waiting.new.slow waited c.deref-2.result.now.table
    (ap (λ (x : Common). x.table) c.deref-2.ensures))

pub end_lane-requires-clause-plain : goal.end_lane-requires-clause-plain
end_lane-requires-clause-plain c =
    let h : Staffed = staffed_in c.self.inside in
    let sound = subst IsStaffSound (sym c.self.view_is) c.requires.sound in
    let at = c.own_lane-at.result in
    let own : IsLaneAt h.lanes at c.args.app =
    lane_there h.cores h.names h.lanes at c.args.app sound.staff
    (subst (λ (x : Staffed). lane_in c.args.app x ≡ Some at) (sym c.self.view_is) c.own_lane-at.ensures) in
    subst (OnApp (λ (l : AppLane). l.app.pass.view.slow ≡ false))
    (sym (read_of h.lanes at c.args.app own c.remove-lane.result c.remove-lane.ensures.value))
    (idle h at c.args.app sound own).1.slow

pub returns : goal.returns
returns c =
    let h : Staffed = staffed_in c.self.inside in
    let sound = subst IsStaffSound (sym c.self.view_is) c.requires.sound in
    let at = c.own_lane-at.result in
    let there : lane_in c.args.app h ≡ Some at =
    subst (λ (x : Staffed). lane_in c.args.app x ≡ Some at) (sym c.self.view_is) c.own_lane-at.ensures in
    let waited : HasAbortedWaiting c.args.app c.args.tick h.host c.abort_waiting.new.slow =
    c.in_ok-abort_waiting.ensures h.host (ap (λ (x : Common). x.table) (sym c.deref.ensures)) refl sound.host in
    subst (λ (x : Staffed). IsKilled c.args.app c.args.tick x (record h {
      host = record (h.host) {
        slow = c.forget.new.slow;
        apps = apps_in c.remove-lane.new.self.items;
        books = c.end_lane.new.books;
      };
      lanes = c.remove-lane.new.self.items;
      names = c.remove.new.self.items;
    })) c.self.view_is
    (killed_at h sound c.args.app c.args.tick at there c.args.holding c.abort_waiting.new.slow c.end_lane.new.slow
    c.forget.new.slow waited c.in_ok-end_lane.ensures.slow c.remove-lane.result c.remove-lane.ensures.value
    c.deref-2.result.now.table (ap (λ (x : Common). x.table) c.deref-2.ensures) c.in_ok-end_lane.ensures.ended
    c.forget.ensures c.end_lane.new.books c.in_ok-end_lane.ensures.books c.remove-lane.new.self.items
    c.remove-lane.ensures.items c.remove.new.self.items c.remove.ensures.items)
