use Rattle.scenario_laws.proofs.LastTick.{ends_in_limit, ends_at_rest, stalled_where, stalled_at_last}
use Rattle.scenario_laws.proofs.laws.runs_end_at_rest.Goals as goal

pub returns-clause-limit : goal.returns-clause-limit
returns-clause-limit c = ends_in_limit

pub returns-clause-rest : goal.returns-clause-rest
returns-clause-rest c = ends_at_rest

pub returns-clause-stalled : goal.returns-clause-stalled
returns-clause-stalled c = stalled_where

pub returns-clause-stalled_at_limit : goal.returns-clause-stalled_at_limit
returns-clause-stalled_at_limit c = stalled_at_last
