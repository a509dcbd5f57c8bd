-- Answers of the proof of sharing/host_is_played.
use Rattle.core_host.proofs.Played.{own_plays, own_ready, one_played}
use Rattle.core_host.proofs.sharing.host_is_played.Goals as goal

pub returns-clause-play : goal.returns-clause-play
returns-clause-play c t h own sound may lent =
    own_plays t h own sound may lent c.played_parts_are_phases.ensures.play

pub returns-clause-ready : goal.returns-clause-ready
returns-clause-ready c t h own ms sound may lent played fine =
    own_ready t h own sound may lent ms played fine c.played_parts_are_phases.ensures.ready

pub returns-clause-played : goal.returns-clause-played
returns-clause-played c t h k own ms sound may lent played fine back =
    one_played t h own sound may lent ms played fine k back c.played_parts_are_phases.ensures.phase
    c.phases_keep_it.ensures c.phases_keep_the_count.ensures
