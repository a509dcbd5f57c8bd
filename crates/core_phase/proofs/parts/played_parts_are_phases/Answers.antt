-- Answers of the proof of parts/played_parts_are_phases.
use Rattle.core_phase.proofs.Lent.{may_play, are_ready, are_phase}
use Rattle.core_phase.proofs.parts.played_parts_are_phases.Goals as goal

pub returns-clause-play : goal.returns-clause-play
returns-clause-play c = may_play

pub returns-clause-ready : goal.returns-clause-ready
returns-clause-ready c = are_ready

pub returns-clause-phase : goal.returns-clause-phase
returns-clause-phase c = are_phase
