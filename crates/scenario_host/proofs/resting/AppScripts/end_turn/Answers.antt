use Rattle.std.proofs.Common.{◌+◌, arith}
use Rattle.scenario_host.proofs.Rests.{resting_less}
use Rattle.scenario_host.proofs.resting.AppScripts.end_turn.Goals as goal

pub returns-then-self-ge-LEAST_REST-clause-kept : goal.returns-then-self-ge-LEAST_REST-clause-kept
returns-then-self-ge-LEAST_REST-clause-kept c = record {
  resting = resting_less (c.args.self.now.passed + 1) c.args.self.now.turns c.args.self.now.asleep.items
      c.args.self.now.items.items (omega (arith, c.requires.turns)) c.requires.kept.resting;
  bound = omega arith;
  marked = λ left. absurd (omega (arith, left));
}
