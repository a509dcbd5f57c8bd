-- Answers of the proof of moving/reaped_flows_are_given_up.
use Rattle.slow_rounds.proofs.GivenUp.{given_up_made}
use Rattle.slow_rounds.proofs.moving.reaped_flows_are_given_up.Goals as goal

pub returns : goal.returns
returns c h front back a ended tick n sound apps rest pins none reaped =
    given_up_made h front back a ended tick n sound apps rest pins none reaped
