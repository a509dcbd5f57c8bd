-- Answers of the proof of run/finish.
use Rattle.std.proofs.Common.{◌≡◌, refl}
use Rattle.shared_world.proofs.Ended.{all_filed, run_left}
use Rattle.shared_world.proofs.Looked.{playable_sound}
use Rattle.shared_world.proofs.run.finish.Goals as goal

pub finish_all-requires-clause-sound : goal.finish_all-requires-clause-sound
finish_all-requires-clause-sound g c =
    let w = c.args.world in
    playable_sound _ w.hosts.items w.scripts.items c.requires.1.ready.playable

pub finish_all-requires-clause-filed : goal.finish_all-requires-clause-filed
finish_all-requires-clause-filed g c =
    all_filed c.requires.0 c.args.world.hosts.items c.requires.1.ready.hosts

pub returns : goal.returns
returns g c =
    λ cores over.
    run_left c.args.s.now cores c.args.rest c.args.world _ over c.in_ok-ends.ensures.ends c.in_ok-ends.ensures.legal
    refl refl
