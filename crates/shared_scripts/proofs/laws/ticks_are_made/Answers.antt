-- Answers of the proof of laws/ticks_are_made.
use Rattle.shared_scripts.proofs.Ticks.{TryLaws, tick_made, playable_after}
use Rattle.shared_scripts.proofs.laws.ticks_are_made.Goals as goal

pub returns-clause-tick : goal.returns-clause-tick
returns-clause-tick c = λ s t name frames scripts next before trying played kicked sent after playable distinct begun
    phase gone again ended.
    let laws : TryLaws = record {
      stand = c.tries_stand.ensures.all;
      apart = c.tries_are_independent.ensures.all;
      go = c.tried_scripts_go_on.ensures.scripts;
      ask = c.tried_scripts_go_on.ensures.asks;
      keep = c.tries_keep_names.ensures;
    } in
    tick_made s t name frames scripts before trying played laws playable begun phase next kicked sent after gone again
    ended distinct

pub returns-clause-playable : goal.returns-clause-playable
returns-clause-playable c = λ s t name frames scripts next before trying played kicked sent after playable begun phase
    gone again ended.
    let laws : TryLaws = record {
      stand = c.tries_stand.ensures.all;
      apart = c.tries_are_independent.ensures.all;
      go = c.tried_scripts_go_on.ensures.scripts;
      ask = c.tried_scripts_go_on.ensures.asks;
      keep = c.tries_keep_names.ensures;
    } in
    playable_after s t name frames scripts before trying played laws playable begun phase next kicked sent after gone
    again ended
