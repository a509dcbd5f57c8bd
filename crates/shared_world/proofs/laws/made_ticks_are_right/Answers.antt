-- Answers of the proof of laws/made_ticks_are_right.
use Rattle.shared_world.proofs.Rounds.{MadeLaws, made_tick, made_below, made_played}
use Rattle.shared_world.proofs.laws.made_ticks_are_right.Goals as goal

pub returns-clause-tick : goal.returns-clause-tick
returns-clause-tick c =
    let laws : MadeLaws = record {
      tick = c.ticks_are_made.ensures.tick;
      next = c.ticks_are_made.ensures.playable;
      shared = c.ticks_of_steps_are_shared.ensures.shared;
      cores = c.ticks_of_steps_are_shared.ensures.cores;
      filed = c.filed_histories_are_kept.ensures.tick;
      findable = c.open_flows_are_in_the_index.ensures;
    } in
    made_tick laws

pub returns-clause-below : goal.returns-clause-below
returns-clause-below c =
    let laws : MadeLaws = record {
      tick = c.ticks_are_made.ensures.tick;
      next = c.ticks_are_made.ensures.playable;
      shared = c.ticks_of_steps_are_shared.ensures.shared;
      cores = c.ticks_of_steps_are_shared.ensures.cores;
      filed = c.filed_histories_are_kept.ensures.tick;
      findable = c.open_flows_are_in_the_index.ensures;
    } in
    made_below laws

pub returns-clause-played : goal.returns-clause-played
returns-clause-played c =
    let laws : MadeLaws = record {
      tick = c.ticks_are_made.ensures.tick;
      next = c.ticks_are_made.ensures.playable;
      shared = c.ticks_of_steps_are_shared.ensures.shared;
      cores = c.ticks_of_steps_are_shared.ensures.cores;
      filed = c.filed_histories_are_kept.ensures.tick;
      findable = c.open_flows_are_in_the_index.ensures;
    } in
    made_played laws
