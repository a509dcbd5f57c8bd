use Rattle.std.proofs.Common.{◌<◌, ◌==◌, map, filter, length, get_or, refl, ap, ◌∙◌, arith}
use Rattle.link_script.specs.declared.frames.Sent.{Sent}
use Rattle.local_host.specs.Arriving.{arrival_in}
use Rattle.scenario_runs.specs.Worlds.{arrival}
use Rattle.scenario_world.proofs.Played.{sites_more}
use Rattle.scenario_world.proofs.playing.play_hosts.Goals as goal

pub loop-number-preserved : goal.loop-number-preserved
loop-number-preserved c =
    λ whole same.
    let i = c.loop-number.number in
    let inside : i < length c.args.hosts.now = omega arith in
    sites_more c.args.s.now whole c.args.tick c.args.hosts.now c.loop-number.hosts i c.index-hosts-number.result
    (get_or c.loop-number.hosts i c.index-hosts-number.result) c.play.new.self
    (map arrival_in c.deref.result.now) inside
    refl (c.loop-number.invariant whole same)
    c.in_ok-play.ensures
    (ap (map arrival_in) c.deref.ensures.value
    ∙ (c.in_ok-arrivals.ensures ∙ ap (λ fs. map arrival (filter (λ (f : Sent). f.to == i) fs)) same))
