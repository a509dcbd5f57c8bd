use Rattle.std.proofs.Common.{◌||◌, nat_lt, ap, ◌∙◌}
use Rattle.std.specs.List.{list_any}
use Rattle.scenario_runs.specs.Worlds.{is_under_way}
use Rattle.scenario_world.proofs.traffic.Traffic.note_last.Goals as goal

pub returns-clause-last : goal.returns-clause-last
returns-clause-last c n =
    c.last_coming-self.ensures n
    ∙ ap (λ fs. nat_lt n c.args.self.now.last || list_any (is_under_way c.args.link.now n) fs) c.sent_in.ensures
