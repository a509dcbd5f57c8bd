-- Answers of the proof of laws/played_hosts_go_on.
use Rattle.shared_scripts.proofs.Ticks.{TryLaws, can_go_on}
use Rattle.shared_scripts.proofs.laws.played_hosts_go_on.Goals as goal

pub returns : goal.returns
returns c = λ s t scripts played was.
    let laws : TryLaws = record {
      stand = c.tries_stand.ensures.all;
      apart = c.tries_are_independent.ensures.all;
      go = c.tried_scripts_go_on.ensures.scripts;
      ask = c.tried_scripts_go_on.ensures.asks;
      keep = c.tries_keep_names.ensures;
    } in
    can_go_on s t was.name was.frames scripts was.before was.trying played laws was.playable was.begun was.phase
