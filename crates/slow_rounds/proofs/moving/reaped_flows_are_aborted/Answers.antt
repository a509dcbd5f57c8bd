-- Answers of the proof of moving/reaped_flows_are_aborted.
use Rattle.slow_rounds.proofs.Aborts.{reaped_made}
use Rattle.slow_rounds.proofs.moving.reaped_flows_are_aborted.Goals as goal

pub returns : goal.returns
returns c s tick ids v w alone once are =
    reaped_made s tick ids v w alone once are
