use Rattle.std.proofs.Common.{refl}
use Rattle.scenario_world.proofs.Forgotten.{forgotten, recent}
use Rattle.scenario_world.proofs.traffic.Traffic.forget.Goals as goal

pub returns-clause-world : goal.returns-clause-world
returns-clause-world c world was =
    forgotten c.args.s.now c.args.tick c.longest_delay.result c.saturating_sub.result world c.args.self.now _ was
    c.saturating_sub.ensures c.longest_delay.ensures.most refl refl c.forget_before.ensures refl

pub returns-clause-recent : goal.returns-clause-recent
returns-clause-recent c =
    recent c.args.s.now.link c.args.tick c.longest_delay.result c.saturating_sub.result c.args.self.now.sent _
    c.saturating_sub.ensures c.longest_delay.ensures.longest c.forget_before.ensures
