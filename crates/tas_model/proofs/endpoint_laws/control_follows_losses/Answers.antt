use Rattle.std.proofs.Common.{refl}
use Rattle.tas_model.specs.Timers.{control}
use Rattle.tas_model.specs.LegalHistory.{step}
use Rattle.tas_model.proofs.endpoint_laws.control_follows_losses.Goals as goal

pub returns-clause-fast : goal.returns-clause-fast
unfolding control step
returns-clause-fast c = refl

pub returns-clause-fast_least : goal.returns-clause-fast_least
unfolding control step
returns-clause-fast_least c = refl

pub returns-clause-timeout : goal.returns-clause-timeout
unfolding control step
returns-clause-timeout c = refl

pub returns-clause-timeout_least : goal.returns-clause-timeout_least
unfolding control step
returns-clause-timeout_least c = refl

pub returns-clause-slow_start : goal.returns-clause-slow_start
unfolding control step
returns-clause-slow_start c = refl

pub returns-clause-avoidance : goal.returns-clause-avoidance
unfolding control step
returns-clause-avoidance c = refl

pub returns-clause-avoidance_half : goal.returns-clause-avoidance_half
unfolding control step
returns-clause-avoidance_half c = refl
