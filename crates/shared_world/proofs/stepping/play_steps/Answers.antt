-- Answers of the proof of stepping/play_steps.
use Rattle.shared_world.proofs.Stepped.{begun_sound, begun_may, were_begun, gone_sound, gone_may, played_sound}
use Rattle.shared_world.proofs.Stepped.{all_made, ok_map}
use Rattle.shared_world.proofs.stepping.play_steps.Goals as goal

pub play_hosts-requires-clause-sound : goal.play_hosts-requires-clause-sound
play_hosts-requires-clause-sound g c =
    begun_sound c.args.s.now c.args.tick c.args.due.now 0 c.args.scripts.now c.args.hosts.now c.begin_all.new.hosts
    c.in_ok-begin_all.ensures

pub play_hosts-requires-clause-may : goal.play_hosts-requires-clause-may
play_hosts-requires-clause-may g c =
    begun_may c.args.s.now c.args.tick c.args.due.now 0 c.args.scripts.now c.args.hosts.now c.begin_all.new.hosts
    c.in_ok-begin_all.ensures

pub go_on_all-requires : goal.go_on_all-requires
go_on_all-requires g c =
    were_begun c.args.s.now c.args.tick c.args.due.now 0 c.args.scripts.now c.args.hosts.now c.begin_all.new.hosts
    c.play_hosts.new.hosts c.requires.playable c.in_ok-begin_all.ensures c.in_ok-play_hosts.ensures.played

pub play_hosts-requires-2-clause-sound : goal.play_hosts-requires-2-clause-sound
play_hosts-requires-2-clause-sound g c =
    gone_sound c.args.s.now c.args.tick c.args.due.now c.args.scripts.now c.go_on_all.new.scripts
    c.play_hosts.new.hosts c.go_on_all.new.hosts c.in_ok-go_on_all.ensures

pub play_hosts-requires-2-clause-may : goal.play_hosts-requires-2-clause-may
play_hosts-requires-2-clause-may g c =
    gone_may c.args.s.now c.args.tick c.args.due.now c.args.scripts.now c.go_on_all.new.scripts
    c.play_hosts.new.hosts c.go_on_all.new.hosts c.in_ok-go_on_all.ensures

pub end_all-requires : goal.end_all-requires
end_all-requires g c =
    played_sound c.args.s.now c.args.tick c.args.due.now c.go_on_all.new.hosts c.play_hosts-2.new.hosts
    c.in_ok-play_hosts-2.ensures.played

pub returns-clause-made : goal.returns-clause-made
returns-clause-made g c =
    ok_map c.end_all.result
    (λ ended.
    all_made c.args.s.now c.args.tick c.args.due.now 0 c.args.scripts.now c.go_on_all.new.scripts c.args.hosts.now
    c.begin_all.new.hosts c.play_hosts.new.hosts c.go_on_all.new.hosts c.play_hosts-2.new.hosts c.end_all.new.hosts
    c.in_ok-begin_all.ensures c.in_ok-play_hosts.ensures.played c.in_ok-go_on_all.ensures
    c.in_ok-play_hosts-2.ensures.played ended)
    c.end_all.ensures
