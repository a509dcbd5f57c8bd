-- Answers of the proof of script/AppScript/attempt.
use Rattle.scenario_host.proofs.Trials.{first_trial}
use Rattle.scenario_host.proofs.script.AppScript.attempt.Goals as goal

pub returns-in-len1-up : goal.returns-in-len1-up
returns-in-len1-up c = record {
  call =
      first_trial c.args.tick c.step-item.result c.left.result.now c.args.self.now c.attempt_at.result
      c.if-is_killed_at.ensures c.left.ensures c.in-len1-up.len_at_least c.step-item.is c.attempt_at.ensures.call;
}
