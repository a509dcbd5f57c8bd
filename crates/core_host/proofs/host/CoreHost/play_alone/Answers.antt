-- Answers of the proof of host/CoreHost/play_alone.
use Rattle.std.proofs.Common.{◌≡◌, length, map, sym, ◌∙◌, subst}
use Rattle.core_host.specs.Leaving.{leaver_of}
use Rattle.core_host.specs.Sharing.{all_in_tick, lent_by, IsReadyFor, IsBack}
use Rattle.core_host.specs.Views.{Staffed}
use Rattle.core_host.proofs.host.CoreHost.play_alone.Goals as goal

pub play_here-requires : goal.play_here-requires
play_here-requires g c = record {
  can = c.host_is_played.ensures.play c.args.tick c.args.self.now c.in_ok-own.own.items c.requires.sound c.requires.may
      c.in_ok-own.ensures.lent;
}

pub take_own_back-requires : goal.take_own_back-requires
take_own_back-requires g c =
    subst (IsReadyFor c.play_here.new.lanes.items) (sym c.in_ok-own.ensures.host)
    (c.host_is_played.ensures.ready c.args.tick c.args.self.now c.in_ok-own.own.items c.play_here.new.lanes.items
    c.requires.sound c.requires.may c.in_ok-own.ensures.lent c.in_ok-play_here.ensures.lanes
    c.in_ok-play_here.ensures.works)

pub returns : goal.returns
returns g c =
    let ms = c.play_here.new.lanes.items in
    let k : Staffed = c.take_own_back.new.self in
    let leavers : c.as_slice.result.now ≡ map leaver_of c.args.self.now.lanes =
    c.as_slice.ensures.value ∙ c.in_ok-own.ensures.leavers in
    c.host_is_played.ensures.played c.args.tick c.args.self.now k c.in_ok-own.own.items ms c.requires.sound
    c.requires.may c.in_ok-own.ensures.lent c.in_ok-play_here.ensures.lanes c.in_ok-play_here.ensures.works
    (subst (λ os. IsBack os ms (lent_by (length (all_in_tick c.args.tick c.args.self.now.lanes)) c.args.self.now) k)
    leavers (subst (λ (h : Staffed). IsBack c.as_slice.result.now ms h k) c.in_ok-own.ensures.host
    c.take_own_back.ensures))
