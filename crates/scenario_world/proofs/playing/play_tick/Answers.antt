use Rattle.std.proofs.Common.{◌≡◌, length, ◌∙◌, arith}
use Rattle.std.proofs.lemmas.List.{with_items_is}
use Rattle.local_host.proofs.Places.{ok_by}
use Rattle.scenario_world.proofs.NextTick.{played_world, serially_played, are_played}
use Rattle.scenario_world.proofs.playing.play_tick.Goals as goal

pub end_tick-requires-clause-played : goal.end_tick-requires-clause-played
end_tick-requires-clause-played c =
    let s = c.args.s.now in
    let t = c.args.tick in
    let p = c.args.p.now in
    let hosts = c.play_hosts.new.hosts in
    let len : length hosts ≡ p.hosts.len = omega arith in
    are_played s t p.hosts.items p.traffic hosts _ c.requires.world
    (serially_played s t p hosts c.requires.world
    (played_world s t p c.in_ok-due.due c.deref_mut.result.now hosts c.requires.world c.in_ok-due.ensures
    c.deref_mut.ensures.value c.in_ok-play_hosts.ensures))
    (with_items_is p.hosts hosts len)

pub returns-clause-hosts : goal.returns-clause-hosts
returns-clause-hosts c =
    let p = c.args.p.now in
    let hosts = c.play_hosts.new.hosts in
    let len : length hosts ≡ p.hosts.len = omega arith in
    ok_by c.end_tick.result
    (λ world.
    c.end_tick.ensures.hosts
    ∙ (with_items_is p.hosts hosts len
    ∙ played_world c.args.s.now c.args.tick p c.in_ok-due.due c.deref_mut.result.now hosts c.requires.world
    c.in_ok-due.ensures c.deref_mut.ensures.value c.in_ok-play_hosts.ensures))
    c.end_tick.ensures.world
