use Rattle.tas_model.proofs.DuplicateLaw.{goes_back_by_repeated, goes_back_at_third, goes_back_to_una, counts_repeated}
use Rattle.tas_model.proofs.endpoint_laws.only_the_third_duplicate_goes_back.Goals as goal

pub returns-clause-repeats : goal.returns-clause-repeats
returns-clause-repeats c = goes_back_by_repeated

pub returns-clause-third : goal.returns-clause-third
returns-clause-third c = goes_back_at_third

pub returns-clause-place : goal.returns-clause-place
returns-clause-place c = goes_back_to_una

pub returns-clause-counts : goal.returns-clause-counts
returns-clause-counts c = counts_repeated
