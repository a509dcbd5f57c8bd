use Rattle.tas_runs.proofs.Runs.{replays_place, found_once}
use Rattle.tas_runs.proofs.OneRun.{batches_whole}
use Rattle.tas_runs.proofs.laws.frames_have_one_place.Goals as goal

pub returns-clause-place : goal.returns-clause-place
returns-clause-place c = replays_place

pub returns-clause-once : goal.returns-clause-once
returns-clause-once c = found_once

pub returns-clause-batches : goal.returns-clause-batches
returns-clause-batches c = batches_whole
