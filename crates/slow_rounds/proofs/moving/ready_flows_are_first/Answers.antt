-- Answers of the proof of moving/ready_flows_are_first.
use Rattle.slow_rounds.proofs.Ready.{some_ready, none_ready}
use Rattle.slow_rounds.proofs.moving.ready_flows_are_first.Goals as goal

pub returns-clause-some : goal.returns-clause-some
returns-clause-some c h port id sound ready = some_ready h port id sound ready

pub returns-clause-none : goal.returns-clause-none
returns-clause-none c h port sound ready = none_ready h port sound ready
