-- Answers of the proof of sharing/+play_from.
use Rattle.std.proofs.Common.{◌≡◌, ◌∷◌, List, length, map, drop, sym, ◌∙◌, subst, rules}
use Rattle.std.specs.List.{AllZip}
use Rattle.host_rounds.specs.Lists.{Each}
use Rattle.host_rounds.proofs.Lists.{each_append}
use Rattle.core_phase.specs.Lanes.{CanPlay, HasPlayed, Works}
use Rattle.core_phase.specs.declared.lane.Lane.{Lane}
use Rattle.core_host.specs.Leaving.{leaver_of}
use Rattle.core_host.specs.Sharing.{all_in_tick, MayAllPlay, IsPlayed, lent_by, IsReadyFor, IsBack}
use Rattle.core_host.specs.Sound.{IsStaffSound}
use Rattle.core_host.specs.Views.{Staffed}
use Rattle.core_host.proofs.Played.{each_drop, ok_map, front_played, back_played, near_played}
use Rattle.core_host.proofs.sharing.+play_from.Goals as goal

pub play_from-requires : goal.play_from-requires
play_from-requires g t c κs within =
    let e = c.in-Some.ensures.cases in
    let sound = subst (Each IsStaffSound) e.0 c.requires.sound in
    let may = subst (Each MayAllPlay) e.0 c.requires.may in
    let lent = c.in_ok-leavers.ensures.lent in (
      search rules,
      (
        search rules,
        (
          search rules,
          (
            sound.1,
            (
              may.1,
              subst (Each CanPlay) (sym lent.1)
                  (each_append CanPlay c.args.lanes.now.items lent.0 c.requires.can
                  (c.host_is_played.ensures.play c.args.tick c.in-Some.host.now lent.0 sound.0 may.0 lent.2)),
            ),
          ),
        ),
      ),
    )

pub take_lanes_back-requires-clause-at : goal.take_lanes_back-requires-clause-at
take_lanes_back-requires-clause-at g t c =
    let lent = c.in_ok-leavers.ensures.lent in
    let at : c.len-at.result ≡ length c.args.lanes.now.items = search rules in
    near_played c.args.lanes.now.items lent.0 c.lend_lanes.new.lanes.items c.play_from.new.lanes.items c.len-at.result
    lent.1 at c.in_ok-play_from.ensures.lanes

pub take_lanes_back-requires-clause-ready : goal.take_lanes_back-requires-clause-ready
take_lanes_back-requires-clause-ready g t c =
    let e = c.in-Some.ensures.cases in
    let sound = subst (Each IsStaffSound) e.0 c.requires.sound in
    let may = subst (Each MayAllPlay) e.0 c.requires.may in
    let lent = c.in_ok-leavers.ensures.lent in
    let at : c.len-at.result ≡ length c.args.lanes.now.items = search rules in
    let ms : List Lane = drop c.len-at.result c.play_from.new.lanes.items in
    subst (IsReadyFor ms) (sym c.in_ok-leavers.ensures.host)
    (c.host_is_played.ensures.ready c.args.tick c.in-Some.host.now lent.0 ms sound.0 may.0 lent.2
    (back_played c.args.lanes.now.items lent.0 c.lend_lanes.new.lanes.items c.play_from.new.lanes.items
    c.len-at.result lent.1 at c.in_ok-play_from.ensures.lanes)
    (each_drop Works c.len-at.result c.play_from.new.lanes.items c.in_ok-play_from.ensures.works))

pub returns-clause-played : goal.returns-clause-played
returns-clause-played g t c =
    let e = c.in-Some.ensures.cases in
    let sound = subst (Each IsStaffSound) e.0 c.requires.sound in
    let may = subst (Each MayAllPlay) e.0 c.requires.may in
    let lent = c.in_ok-leavers.ensures.lent in
    let at : c.len-at.result ≡ length c.args.lanes.now.items = search rules in
    let ms : List Lane = drop c.len-at.result c.play_from.new.lanes.items in
    let k : Staffed = c.take_lanes_back.new.self in
    let leavers : c.as_slice.result.now ≡ map leaver_of c.in-Some.host.now.lanes =
    c.as_slice.ensures.value ∙ c.in_ok-leavers.ensures.leavers in
    ok_map c.take_lanes_back.result
    (λ back.
    subst (λ (hs : List Staffed). AllZip (IsPlayed c.args.tick) hs (k ∷ c.play_from.new.hosts)) (sym e.0) (
      c.host_is_played.ensures.played c.args.tick c.in-Some.host.now k lent.0 ms sound.0 may.0 lent.2
          (back_played c.args.lanes.now.items lent.0 c.lend_lanes.new.lanes.items c.play_from.new.lanes.items
          c.len-at.result lent.1 at c.in_ok-play_from.ensures.lanes)
          (each_drop Works c.len-at.result c.play_from.new.lanes.items c.in_ok-play_from.ensures.works)
          (subst (λ os. IsBack os ms (lent_by (length (all_in_tick c.args.tick c.in-Some.host.now.lanes))
          c.in-Some.host.now) k) leavers
          (subst (λ (h : Staffed). IsBack c.as_slice.result.now ms h k) c.in_ok-leavers.ensures.host back)),
      c.in_ok-play_from.ensures.played,
    ))
    c.take_lanes_back.ensures.back

pub returns-clause-lanes : goal.returns-clause-lanes
returns-clause-lanes g t c =
    let lent = c.in_ok-leavers.ensures.lent in
    let at : c.len-at.result ≡ length c.args.lanes.now.items = search rules in
    ok_map c.take_lanes_back.result
    (λ is.
    subst (AllZip HasPlayed c.args.lanes.now.items) (sym is)
    (front_played c.args.lanes.now.items lent.0 c.lend_lanes.new.lanes.items c.play_from.new.lanes.items
    c.len-at.result lent.1 at c.in_ok-play_from.ensures.lanes))
    c.take_lanes_back.ensures.lanes
